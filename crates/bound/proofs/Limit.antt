-- The limit: however a good plan for a list of orders was found, the rule keeps at least this part of its loads. Assumes nothing.
use Prim.Native.Nat.{ℕ, ◌+◌, ◌-◌, ◌*◌, ◌^◌, ◌≤◌}
use mathlib.Core.Path.{◌≡◌}
use mathlib.Core.List.{List, [], ◌∷◌, ◌++◌}
use lib.ListN.{length, replicate, length-replicate}
use native.Mathlib.Omega.{arith}
use Rattle.book.specs.History.{OrderHours}
use Rattle.bound.specs.Plans.{Lengths, Keeps, InTurn, PlanLoad, GoodPlan}
use Rattle.bound.proofs.Steps.{pre}
use Rattle.bound.proofs.Weights.{weight_pre, first_weight, last_weight}
use Rattle.bound.proofs.Counting.{none_above}
use Rattle.bound.proofs.Windows.{sum}
use Rattle.bound.proofs.Gains.{lower}
use Rattle.bound.proofs.Upper.{total_of, upper}
use Rattle.bound.proofs.Keeping.{kept_exactly}

-- the sum of all steps is what the theorem's factor says
all_steps : (m : ℕ) → (m + 1) ^ m ≡ m ^ m + pre m m
all_steps m = omega (arith, weight_pre m m (omega arith), first_weight m, last_weight m)

-- from chambers that are free from hour 0 each load gains the sum of all steps
each_gains :
    (m : ℕ) (lengths : Lengths) (orders : List OrderHours) (loads : List PlanLoad) → InTurn 0 orders → GoodPlan m lengths orders loads
    → pre m m * length loads ≤ sum (total_of m lengths (replicate m 0) orders) loads
unfolding sum GoodPlan pre
each_gains m lengths orders [] turn good = omega arith
each_gains m lengths orders (load ∷ loads) turn good =
    let one : pre m m ≤ pre m 0 + total_of m lengths (replicate m 0) orders load =
    rw (none_above load.start m) at
    (lower m lengths.run lengths.hold 0 (replicate m 0) orders load.order load.start (length-replicate m 0) turn good.0.keeps)
    in
    let rest = each_gains m lengths orders loads turn good.2 in
    omega arith

-- the limit: with m chambers, for Z loads of any good plan and A orders that the rule keeps, ((m + 1)^m − m^m) · Z ≤ (m + 1)^m · A.
-- It asks nothing of m, run and hold: with no chamber no load is good, and hold and run are compared nowhere
pub limit :
    (m A : ℕ) (lengths : Lengths) (orders : List OrderHours) (loads : List PlanLoad) → InTurn 0 orders → GoodPlan m lengths orders loads
    → Keeps lengths (replicate m 0) orders A → ((m + 1) ^ m - m ^ m) * length loads ≤ (m + 1) ^ m * A
limit m A lengths orders loads turn good keeps =
    let steps = all_steps m in
    let factor : (m + 1) ^ m - m ^ m ≡ pre m m = omega arith in
    let below = each_gains m lengths orders loads turn good in
    let over : sum (total_of m lengths (replicate m 0) orders) loads ≤ (m + 1) ^ m * A =
    rw (last_weight m, ← (kept_exactly lengths (replicate m 0) orders A).0 keeps) at
    (upper m lengths (replicate m 0) orders loads (length-replicate m 0) good)
    in
    rw factor (omega arith)

-- the first orders of a list in turn are in turn
pub front_in_turn : (clock : ℕ) (front rest : List OrderHours) → InTurn clock (front ++ rest) → InTurn clock front
unfolding InTurn
front_in_turn clock [] rest turn = tt
front_in_turn clock (order ∷ front) rest turn = (turn.0, front_in_turn order.ready front rest turn.1)
