-- The paper's whole example: "Whole example for the desk program (P)", its input, and the plan that "is right with 9 (P)". Assumes nothing.
use Rattle.std.specs.Prelude.{ℕ, List}
use Rattle.ground.specs.Text.{bytes}

-- the order list
unfoldable pub paper_list : List ℕ
paper_list = bytes "steam\t2\t3\n7\t0\t20\n7\t0\t20\n7\t0\t20\n12\t1\t11\n12\t1\t11\n3\t2\t8\n3\t2\t8\n3\t2\t8\n3\t2\t8\n"

-- the plan
unfoldable pub paper_plan : List ℕ
paper_plan = bytes "7\t1\t2\n8\t2\t2\n9\t1\t5\n10\t2\t5\n5\t1\t8\n6\t2\t8\n2\t1\t11\n3\t2\t11\n4\t1\t14\n"
