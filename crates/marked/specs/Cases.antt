-- The twelve cases that the paper marks with a P, as one list, each with the paper's answer, over the definitions that the contracts
-- cite. Assumes nothing.
use Rattle.std.specs.Prelude.{ℕ, ◌≡◌, List, [], ◌∷◌, map}
use Rattle.ground.specs.Refusal.{Or, Read, wrong, right}
use Rattle.ground.specs.Text.{bytes}
use Rattle.hours.specs.Reading.{hour_of}
use Rattle.book.specs.Soundness.{opened}
use Rattle.book.specs.Taking.{decided, answer_of}
use Rattle.book.specs.declared.Book.{Book}
use Rattle.book.specs.declared.Answer.{Answer}
use Rattle.book.specs.declared.Answer.TheVariants.{Yes, No}
use Rattle.plans.specs.Judging.{judged}
use Rattle.plans.specs.declared.Fault.{Fault}
use Rattle.replies.specs.Replies.{reply_of}
use Rattle.limit.specs.Example.{paper_list, paper_plan}

-- a case: a field and the hour that it is, or its refusal; a book, an order's ready
-- and due and the answer; a list and the desk's whole reply;
-- a list, a plan and how many loads it is right with, or its fault
pub data Case : Type 0 where
  hour : List ℕ → Read ℕ → Case
  order : Book → ℕ → ℕ → Answer → Case
  reply : List ℕ → List ℕ → Case
  judgement : List ℕ → List ℕ → Or Fault ℕ → Case

-- what a case comes to
pub data Outcome : Type 0 where
  read : Read ℕ → Outcome
  answered : Answer → Outcome
  replied : List ℕ → Outcome
  judged_as : Or Fault ℕ → Outcome

-- what it is said to come to
abbrev pub said : Case → Outcome
said (hour field answer) = read answer
said (order book ready due answer) = answered answer
said (reply list text) = replied text
said (judgement list plan answer) = judged_as answer

-- what it does come to, by the definitions that the contracts cite
abbrev pub done : Case → Outcome
done (hour field answer) = read (hour_of 44 field)
done (order book ready due answer) = answered (answer_of (decided book ready due))
done (reply list text) = replied (reply_of list)
done (judgement list plan answer) = judged_as (judged list plan)

-- all of several hold: what they come to is what they are said to
abbrev pub AllHold : List Case → Type 0
AllHold cases = map done cases ≡ map said cases

-- "Two chambers, run 300", with these free hours
abbrev pub two_chambers : ℕ → ℕ → Book
two_chambers one other =
    record { chambers = 2; run = 300; clock = 0; taken = 0; kept = 0; free = one ∷ other ∷ 0 ∷ 0 ∷ 0 ∷ 0 ∷ 0 ∷ 0 ∷ [] }

-- the output of the whole example for the desk program
unfoldable pub paper_reply : List ℕ
paper_reply =
    bytes "2\tyes\t1\t0,00\n3\tyes\t1\t3,00\n4\tyes\t1\t6,00\n5\tyes\t2\t1,00\n6\tyes\t2\t4,00\n7\tno\n8\tno\n9\tno\n10\tno\nsum\t9\t5\n"

-- the twelve: hours, orders, the example of the desk, and its plan
unfoldable pub marked_cases : List Case
marked_cases =
    hour (bytes "18,5") (right 1850)
    ∷ hour (bytes "0,05") (right 5)
    ∷ hour (bytes "9999,99") (right 999999)
    ∷ hour (bytes "18.5") (wrong 3)
    ∷ hour (bytes "18,500") (wrong 3)
    ∷ order (opened 2 300).book 0 300 (Yes 1 0)
    ∷ order (opened 2 300).book 0 299 No
    ∷ order (two_chambers 300 0) 100 600 (Yes 1 300)
    ∷ order (two_chambers 300 0) 100 599 (Yes 2 100)
    ∷ order (two_chambers 300 400) 700 1000 (Yes 1 700)
    ∷ reply paper_list paper_reply
    ∷ judgement paper_list paper_plan (right 9)
    ∷ []
