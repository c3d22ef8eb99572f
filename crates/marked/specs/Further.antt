-- Further cases, a second list beside the marked one: each branch, each printed word, each refusal and the limits, where a law would only
-- repeat a definition.
-- What each comes to was worked out by the second program. Assumes nothing.
use Rattle.std.specs.Prelude.{ℕ, Bool, true, false, List, [], ◌∷◌, ◌++◌}
use Rattle.ground.specs.Refusal.{wrong, right}
use Rattle.ground.specs.Text.{bytes}
use Rattle.book.specs.Soundness.{opened}
use Rattle.book.specs.declared.Book.{Book}
use Rattle.book.specs.declared.Answer.TheVariants.{Yes, No, Refused}
use Rattle.plans.specs.declared.Fault.{Fault}
use Rattle.marked.specs.Cases.{Case, hour, order, reply, judgement, two_chambers}

-- a fault: its number, whether it stands in the plan, its line number, and the places where its line begins and ends
abbrev pub fault : ℕ → Bool → ℕ → ℕ → ℕ → Fault
fault number plan line from to = record { number = number; plan = plan; line = line; from = from; to = to }

-- two chambers, run 300, at this clock, with so many orders taken and kept
abbrev pub counted : ℕ → ℕ → ℕ → Book
counted clock taken kept =
    record { chambers = 2; run = 300; clock = clock; taken = taken; kept = kept; free = 0 ∷ 0 ∷ 0 ∷ 0 ∷ 0 ∷ 0 ∷ 0 ∷ 0 ∷ [] }

-- three chambers: each refusal of a line among orders, ties, and line numbers past 9 and 99
unfoldable pub three_chambers : List ℕ
three_chambers =
    bytes "steam\t3\t2,5\n7\t0\t9999,99\n12\t0,5\t3\n9999\t0,5\t3,1\n1\t1\t3,49\n1\t1\t3,5\n4\t2,75\t5,25\n"
    ++ bytes "4\t2,75\t5,25\n4\t2,75\t8\n4\t2,75\t7,99\nx\t3\t9\n07\t3\t9\n10000\t3\t9\n0\t3\t9\n5\t3.5\t9\n5\t3\t\n"
    ++ bytes "5\t3\t9,123\n5\t3\n5\t3\t9\t1\n\n5\t2,74\t9\nx\t.\t9\n8\t3\t20\n8\t3\t20\n8\t3\t20\n8\t4\t20\n2\t5\t7\n"
    ++ bytes "2\t5\t7\n2\t5\t7\n2\t5\t7\n2\t5\t7\n2\t5\t7\n2\t5\t7\n2\t5\t7\n2\t5\t7\n2\t5\t7\n2\t5\t7\n2\t5\t7\n2\t5\t7\n"
    ++ bytes "2\t5\t7\n2\t5\t7\n2\t5\t7\n2\t5\t7\n2\t5\t7\n2\t5\t7\n2\t5\t7\n2\t5\t7\n2\t5\t7\n2\t5\t7\n2\t5\t7\n2\t5\t7\n"
    ++ bytes "2\t5\t7\n2\t5\t7\n2\t5\t7\n2\t5\t7\n2\t5\t7\n2\t5\t7\n2\t5\t7\n2\t5\t7\n2\t5\t7\n2\t5\t7\n2\t5\t7\n2\t5\t7\n"
    ++ bytes "2\t5\t7\n2\t5\t7\n2\t5\t7\n2\t5\t7\n2\t5\t7\n2\t5\t7\n2\t5\t7\n2\t5\t7\n2\t5\t7\n2\t5\t7\n2\t5\t7\n2\t5\t7\n"
    ++ bytes "2\t5\t7\n2\t5\t7\n2\t5\t7\n2\t5\t7\n2\t5\t7\n2\t5\t7\n2\t5\t7\n2\t5\t7\n2\t5\t7\n2\t5\t7\n2\t5\t7\n2\t5\t7\n"
    ++ bytes "2\t5\t7\n2\t5\t7\n2\t5\t7\n2\t5\t7\n2\t5\t7\n2\t5\t7\n2\t5\t7\n2\t5\t7\n2\t5\t7\n2\t5\t7\n2\t5\t7\n2\t5\t7\n"
    ++ bytes "2\t5\t7\n2\t5\t7\n3\t30\t40\n3\t30\t40\n3\t30\t32,5\n3\t30\t32,5\n3\t30\t32,49\n3\t31\t40"

-- and what it is answered
unfoldable pub three_reply : List ℕ
three_reply =
    bytes "2\tyes\t1\t0,00\n3\tyes\t2\t0,50\n4\tyes\t3\t0,50\n5\tno\n6\tno\n7\tyes\t1\t2,75\n8\tno\n9\tyes\t1\t5,25\n"
    ++ bytes "10\tyes\t2\t3,00\n11\tbad\t2\n12\tbad\t2\n13\tbad\t2\n14\tbad\t4\n15\tbad\t3\n16\tbad\t3\n17\tbad\t3\n"
    ++ bytes "18\tbad\t1\n19\tbad\t1\n20\tbad\t1\n21\tbad\t5\n22\tbad\t2\n23\tyes\t1\t7,75\n24\tyes\t1\t10,25\n"
    ++ bytes "25\tyes\t1\t12,75\n26\tyes\t1\t15,25\n27\tno\n28\tno\n29\tno\n30\tno\n31\tno\n32\tno\n33\tno\n34\tno\n"
    ++ bytes "35\tno\n36\tno\n37\tno\n38\tno\n39\tno\n40\tno\n41\tno\n42\tno\n43\tno\n44\tno\n45\tno\n46\tno\n47\tno\n"
    ++ bytes "48\tno\n49\tno\n50\tno\n51\tno\n52\tno\n53\tno\n54\tno\n55\tno\n56\tno\n57\tno\n58\tno\n59\tno\n60\tno\n"
    ++ bytes "61\tno\n62\tno\n63\tno\n64\tno\n65\tno\n66\tno\n67\tno\n68\tno\n69\tno\n70\tno\n71\tno\n72\tno\n73\tno\n"
    ++ bytes "74\tno\n75\tno\n76\tno\n77\tno\n78\tno\n79\tno\n80\tno\n81\tno\n82\tno\n83\tno\n84\tno\n85\tno\n86\tno\n"
    ++ bytes "87\tno\n88\tno\n89\tno\n90\tno\n91\tno\n92\tno\n93\tno\n94\tno\n95\tno\n96\tno\n97\tno\n98\tno\n99\tno\n"
    ++ bytes "100\tno\n101\tno\n102\tyes\t1\t30,00\n103\tyes\t1\t32,50\n104\tyes\t2\t30,00\n105\tyes\t3\t30,00\n106\tno\n"
    ++ bytes "107\tbad\t1\nsum\t93\t14\n"

-- eight chambers and the longest run: every chamber, the last hour as ready, and a due before it
unfoldable pub eight_chambers : List ℕ
eight_chambers =
    bytes "steam\t8\t99,99\n1\t0\t200\n1\t0\t200\n1\t0\t200\n1\t1\t200\n1\t1\t200\n1\t1\t200\n1\t2\t200\n1\t2\t200\n"
    ++ bytes "1\t2\t200\n1\t3\t200\n1\t3\t200\n1\t3\t200\n1\t300\t9999\n1\t9999,99\t9999,99\n1\t9999\t0\n"

-- and what it is answered
unfoldable pub eight_reply : List ℕ
eight_reply =
    bytes "2\tyes\t1\t0,00\n3\tyes\t1\t99,99\n4\tyes\t2\t0,00\n5\tyes\t2\t99,99\n6\tyes\t3\t1,00\n7\tyes\t4\t1,00\n"
    ++ bytes "8\tyes\t5\t2,00\n9\tyes\t6\t2,00\n10\tyes\t7\t2,00\n11\tyes\t8\t3,00\n12\tno\n13\tno\n14\tyes\t1\t300,00\n"
    ++ bytes "15\tno\n16\tbad\t5\nsum\t14\t11\n"

-- three orders for two chambers, for plans of every fault
unfoldable pub short_list : List ℕ
short_list =
    bytes "steam\t2\t3\n1\t0\t10\n2\t1\t10\n3\t1\t7\n"

-- hours, orders, whole replies, and judgements
unfoldable pub further_cases : List Case
further_cases =
    hour (bytes "185") (right 18500)
    ∷ hour (bytes "0") (right 0)
    ∷ hour (bytes "9,9") (right 990)
    ∷ hour (bytes "1234,56") (right 123456)
    ∷ hour (bytes "1.850") (wrong 3)
    ∷ hour (bytes "18,") (wrong 3)
    ∷ hour (bytes ",5") (wrong 3)
    ∷ hour (bytes "08,5") (wrong 3)
    ∷ hour (bytes "10000") (wrong 3)
    ∷ hour [] (wrong 3)
    ∷ hour (bytes "1:") (wrong 3)
    ∷ hour (bytes "1/") (wrong 3)
    ∷ hour (bytes "18,5 ") (wrong 3)
    ∷ hour (bytes "00") (wrong 3)
    ∷ order (opened 2 300).book 0 0 No
    ∷ order (two_chambers 300 0) 300 900 (Yes 1 300)
    ∷ order (two_chambers 300 400) 700 999 No
    ∷ order (counted 100 511 5) 100 400 (Yes 1 100)
    ∷ order (counted 100 512 5) 100 400 (Refused 6)
    ∷ order (counted 100 512 5) 99 400 (Refused 6)
    ∷ order (counted 100 511 5) 99 400 (Refused 5)
    ∷ order (counted 100 512 5) 1_000_000 400 (Refused 4)
    ∷ order (counted 100 512 5) 100 1_000_000 (Refused 4)
    ∷ order (counted 100 513 5) 100 400 (Refused 8)
    ∷ order (counted 100 5 6) 100 400 (Refused 8)
    ∷ order (counted 999_999 5 5) 999_999 999_999 No
    ∷ order (counted 1_000_000 5 5) 999_999 999_999 (Refused 8)
    ∷ order (opened 0 300).book 0 300 (Refused 8)
    ∷ order (opened 8 9_999).book 0 9_999 (Yes 1 0)
    ∷ reply [] (bytes "1\tbad\t1\n")
    ∷ reply (bytes "steam\t2") (bytes "1\tbad\t1\n")
    ∷ reply (bytes "steam\t2\t3") (bytes "1\tbad\t1\n")
    ∷ reply (bytes "Steam\t2\t3\n") (bytes "1\tbad\t1\n")
    ∷ reply (bytes "steam2\t2\t3\n") (bytes "1\tbad\t1\n")
    ∷ reply (bytes "steam\tx\t3\n") (bytes "1\tbad\t2\n")
    ∷ reply (bytes "steam\t0\t3\n") (bytes "1\tbad\t4\n")
    ∷ reply (bytes "steam\t9\t3\n") (bytes "1\tbad\t4\n")
    ∷ reply (bytes "steam\t2\tx\n") (bytes "1\tbad\t3\n")
    ∷ reply (bytes "steam\t2\t0\n") (bytes "1\tbad\t4\n")
    ∷ reply (bytes "steam\t2\t100\n") (bytes "1\tbad\t4\n")
    ∷ reply (bytes "steam\t1\t0,01\n") (bytes "sum\t0\t0\n")
    ∷ reply (bytes "\n") (bytes "1\tbad\t1\n")
    ∷ reply (bytes "steam\t8\t99,99\n1\t0\t9999,99\n") (bytes "2\tyes\t1\t0,00\nsum\t1\t1\n")
    ∷ reply three_chambers three_reply
    ∷ reply eight_chambers eight_reply
    ∷ judgement short_list [] (right 0)
    ∷ judgement short_list (bytes "2\t1\t0\n3\t1\t3\n4\t2\t1\n") (right 3)
    ∷ judgement short_list (bytes "2\t1\t0\n3\t1\t3\n4\t1\t6\n") (wrong (fault 14 true 3 12 18))
    ∷ judgement short_list (bytes "2\t1\t0\n4\t1\t3\n3\t1\t6\n") (right 3)
    ∷ judgement short_list (bytes "2\t1\t7\n") (right 1)
    ∷ judgement short_list (bytes "2\t1\t7,01\n") (wrong (fault 14 true 1 0 9))
    ∷ judgement short_list (bytes "2\t1\t0\n2\t1\t3\n") (wrong (fault 12 true 2 6 12))
    ∷ judgement short_list (bytes "1\t1\t0\n") (wrong (fault 11 true 1 0 6))
    ∷ judgement short_list (bytes "0\t1\t0\n") (wrong (fault 11 true 1 0 6))
    ∷ judgement short_list (bytes "5\t1\t0\n") (wrong (fault 11 true 1 0 6))
    ∷ judgement short_list (bytes "3\t1\t0,99\n") (wrong (fault 13 true 1 0 9))
    ∷ judgement short_list (bytes "4\t2\t4,01\n") (wrong (fault 14 true 1 0 9))
    ∷ judgement short_list (bytes "2\t2\t0\n3\t2\t2,99\n") (wrong (fault 15 true 2 6 15))
    ∷ judgement short_list (bytes "2\t2\t3\n3\t2\t5,99\n") (wrong (fault 15 true 2 6 15))
    ∷ judgement short_list (bytes "2\t1\t0\n3\t2\t2\n4\t1\t2,99\n") (wrong (fault 15 true 3 12 21))
    ∷ judgement short_list (bytes "2\t3\t0\n") (wrong (fault 4 true 1 0 6))
    ∷ judgement short_list (bytes "2\t0\t0\n") (wrong (fault 4 true 1 0 6))
    ∷ judgement short_list (bytes "2\tx\t0\n") (wrong (fault 2 true 1 0 6))
    ∷ judgement short_list (bytes "x\t1\t0\n") (wrong (fault 2 true 1 0 6))
    ∷ judgement short_list (bytes "2\t1\t0.5\n") (wrong (fault 3 true 1 0 8))
    ∷ judgement short_list (bytes "2\t1\n") (wrong (fault 1 true 1 0 4))
    ∷ judgement short_list (bytes "2\t1\t0\n3\t2\t1") (wrong (fault 1 true 2 6 11))
    ∷ judgement short_list (bytes "2\t1\t0\n\n") (wrong (fault 1 true 2 6 7))
    ∷ judgement short_list (bytes "02\t1\t0\n") (wrong (fault 2 true 1 0 7))
    ∷ judgement [] (bytes "2\t1\t0\n") (wrong (fault 1 false 1 0 0))
    ∷ judgement (bytes "steam\t2\t3\n1\t0\t10\n2\tx\t10\n") (bytes "2\t1\t0\n") (wrong (fault 3 false 3 17 24))
    ∷ judgement (bytes "steam\t2\t3\n1\t5\t10\n2\t4\t10\n") (bytes "2\t1\t0\n") (wrong (fault 5 false 3 17 24))
    ∷ judgement (bytes "steam\t9\t3\n") (bytes "2\t1\t0\n") (wrong (fault 4 false 1 0 10))
    ∷ judgement (bytes "steam\t2\t3\n1\t0\t10") (bytes "2\t1\t0\n") (wrong (fault 1 false 2 10 16))
    ∷ judgement (bytes "steam\t2\t3\n0\t0\t10\n") (bytes "2\t1\t0\n") (wrong (fault 4 false 2 10 17))
    ∷ []
