-- What this room promises, about the very definitions that its contracts cite. Each is a line over a law of this folder. Assumes nothing.
use Prim.Native.Nat.{ℕ, ◌≤◌, ◌<◌}
use mathlib.Core.Path.{◌≡◌, refl, sym, ap, ◌∙◌}
use mathlib.Core.Bool.{true, false}
use mathlib.Core.Logic.{◌↔◌, ◌⊎◌, inl, inr}
use mathlib.Core.List.{List, []}
use lib.ListN.{length}
use contract.Lifetimes.{Lfts}
use Rattle.std.specs.Prelude.{Result, Ok, Err}
use Rattle.ground.specs.Refusal.{Or, wrong, right}
use Rattle.ground.specs.Limits.{longest_text}
use Rattle.ground.specs.Outcome.{Injective, Single}
use Rattle.ground.proofs.Checks.{never_right, same_right, same_wrong}
use Rattle.ground.proofs.Outcome.{single_answer}
use Rattle.ground.proofs.Tests.{by_test}
use Rattle.texts.specs.Lines.{lines_of}
use Rattle.texts.specs.Meaning.{OnePart}
use Rattle.texts.proofs.Places.{one_part}
use Rattle.lines.specs.declared.Heading.{Heading}
use Rattle.lines.specs.declared.Order.{Order}
use Rattle.lines.specs.declared.Load.{Load}
use Rattle.book.specs.Taking.{hold}
use Rattle.orders.specs.Answers.{book_for}
use Rattle.orders.specs.Meaning.{CleanList}
use Rattle.plans.specs.Judging.{note_load, judged, as_judged, shown}
use Rattle.plans.specs.Meaning.{fault_of, hold_of, Obeys, LoadWrong, FirstFault, RightBefore, PartShown}
use Rattle.plans.specs.declared.Fault.{Fault}
use Rattle.plans.proofs.judge.Reads as judge
use Rattle.plans.proofs.line_at_fault.Reads as at_fault
use Rattle.plans.proofs.Judged as judging
use Rattle.plans.proofs.Loads as loads
use Rattle.plans.proofs.Faults as faults
use Rattle.plans.proofs.Front as front
use Rattle.plans.proofs.Showing as showing

-- 2f: right with a number exactly when the plan obeys the list, and that is the number of plan lines
pub right_exactly : (list plan : List ℕ) (count : ℕ) → (judged list plan ≡ right count) ↔ (Obeys list plan × (count ≡ length (lines_of plan)))
right_exactly = judging.right_exactly

-- 2f: "An empty plan for a clean list is right with 0"
pub empty_plan : (list : List ℕ) (heading : Heading) (orders : List Order) → CleanList list heading orders → judged list [] ≡ right 0
empty_plan = judging.empty_plan

-- 2f: wrong by a fault exactly when that is the first, and the line shown is the line at fault
pub fault_exactly : (list plan : List ℕ) (fault : Fault) → (judged list plan ≡ wrong fault) ↔ FirstFault list plan fault (shown fault list plan)
fault_exactly = judging.fault_exactly

-- 2f: there is one first fault, and one line of it
pub first_only :
    (list plan : List ℕ) (one other : Fault) (line another : List ℕ) → FirstFault list plan one line → FirstFault list plan other another
    → (one ≡ other) × (line ≡ another)
first_only list plan one other line another p q =
    let faults : one ≡ other = same_wrong (sym (judging.wrong_to list plan p) ∙ judging.wrong_to list plan q) in (
      faults,
      sym (judging.first_shown list plan p) ∙ ap (λ fault. shown fault list plan) faults ∙ judging.first_shown list plan q,
    )

-- 2f: a plan obeys its list, or there is a first fault
pub one_or_the_other : (list plan : List ℕ) → Obeys list plan ⊎ ((fault : Fault) × FirstFault list plan fault (shown fault list plan))
one_or_the_other list plan = by (judged list plan) refl
  where
    by : (answer : Or Fault ℕ) → judged list plan ≡ answer → Obeys list plan ⊎ ((fault : Fault) × FirstFault list plan fault (shown fault list plan))
    by (wrong fault) e = inr (fault, (fault_exactly list plan fault).0 e)
    by (right count) e = inl ((right_exactly list plan count).0 e).0

-- 2f, on bytes alone: before a line of the plan at fault stands a plan that obeys the list, with one line less than the number of the line
pub right_before_fault :
    (list plan : List ℕ) (fault : Fault) → judged list plan ≡ wrong fault → fault.plan ≡ true → 1 ≤ fault.line
    → RightBefore list plan fault (shown fault list plan)
right_before_fault = front.right_before_fault

-- 1b: a plan line behind lines with no fault is refused exactly by its first fault: its own, 11, 12, 13, 14 or 15
pub refused_by_its_fault :
    (heading : Heading) (orders : List Order) (earlier : List Load) (line : List ℕ) (number : ℕ)
    → (note_load (book_for heading) orders earlier line ≡ wrong number) ↔ LoadWrong heading orders earlier line number
refused_by_its_fault = loads.line_wrong

-- a load takes its chamber for as long as the book does that the list's first line opens
pub hold_of_heading : (heading : Heading) → hold_of heading ≡ hold (book_for heading)
hold_of_heading heading = refl

-- 1b: 9 in the list exactly when it is longer than 65,536 bytes, with line number 0 and the empty front
pub list_too_long : (list plan : List ℕ) → (judged list plan ≡ wrong (fault_of 9 false 0 0 0)) ↔ (longest_text < length list)
list_too_long = faults.list_too_long

-- then 9 in the plan
pub plan_too_long :
    (list plan : List ℕ) → (judged list plan ≡ wrong (fault_of 9 true 0 0 0)) ↔ ((length list ≤ longest_text) × (longest_text < length plan))
plan_too_long = faults.plan_too_long

-- and 9 in no other way
pub nine_only :
    (list plan : List ℕ) (fault : Fault) → judged list plan ≡ wrong fault → fault.number ≡ 9
    → (fault ≡ fault_of 9 false 0 0 0) ⊎ (fault ≡ fault_of 9 true 0 0 0)
nine_only = faults.nine_only

-- the paper's answer tells the cases of a judgement apart
judgement_told : Injective (as_judged {E = Fault} {A = ℕ})
judgement_told (Ok one) (Ok other) same = ap Ok (same_right same)
judgement_told (Ok one) (Err other) same = absurd (never_right (sym same))
judgement_told (Err one) (Ok other) same = absurd (never_right same)
judgement_told (Err one) (Err other) same = ap Err (same_wrong same)

-- 2f of the answer itself: it is right with a number exactly when the plan obeys the list and has so many lines
pub answers_right :
    (κs : Lfts 2) (list plan : _) (answer : Result ℕ Fault) (after : _) → judge.Learnt κs (list, (plan, tt)) answer after → (count : ℕ)
    → (answer ≡ Ok count) ↔ (Obeys list.now plan.now × (count ≡ length (lines_of plan.now)))
answers_right κs list plan answer after learnt count = (
  λ same. (right_exactly list.now plan.now count).0 (sym learnt ∙ ap as_judged same),
  λ obeys. judgement_told answer (Ok count) (learnt ∙ (right_exactly list.now plan.now count).1 obeys),
)

-- and wrong by a fault exactly when that is the first, with the line shown
pub answers_wrong :
    (κs : Lfts 2) (list plan : _) (answer : Result ℕ Fault) (after : _) → judge.Learnt κs (list, (plan, tt)) answer after → (fault : Fault)
    → (answer ≡ Err fault) ↔ FirstFault list.now plan.now fault (shown fault list.now plan.now)
answers_wrong κs list plan answer after learnt fault = (
  λ same. (fault_exactly list.now plan.now fault).0 (sym learnt ∙ ap as_judged same),
  λ first. judgement_told answer (Err fault) (learnt ∙ (fault_exactly list.now plan.now fault).1 first),
)

-- "Where there is no line (fault 9 or an empty list, which is 1), the line number is … 1 for the empty list, and the part shown is the
-- empty front"
pub empty_list : (plan : List ℕ) → length plan ≤ longest_text → judged [] plan ≡ wrong (fault_of 1 false 1 0 0)
empty_list = judging.empty_list

-- 1d: each public function's contract admits a single outcome; of a returned part it gives the contents
pub judge_single : (κs : Lfts 2) (list plan : _) (after : _) → Single (λ answer. judge.Learnt κs (list, (plan, tt)) answer after)
judge_single κs list plan after = single_answer as_judged judgement_told (judged list.now plan.now)

-- 1d: the line at fault, likewise
pub line_at_fault_single :
    (κs : Lfts 1) (list plan : _) (fault : Fault) (after : _) (one other : _) → at_fault.Learnt κs (list, (plan, (fault, tt))) one after
    → at_fault.Learnt κs (list, (plan, (fault, tt))) other after → OnePart one other
line_at_fault_single κs list plan fault after one other p q =
    by_test fault.plan (λ inside. one_part plan one other _ p.0 q.0 (p.1.in_plan inside) (q.1.in_plan inside))
    (λ outside. one_part list one other _ p.0 q.0 (p.1.in_list outside) (q.1.in_list outside))

-- the line at fault, of whatever fault, is the part of the text that it stands in between the fault's places, and lies there; else the
-- empty front
pub line_at_fault_lies :
    (κs : Lfts 1) (list plan part : _) (fault : Fault) (after : _) → at_fault.Learnt κs (list, (plan, (fault, tt))) part after
    → (fault.plan ≡ true → PartShown fault plan part) × (fault.plan ≡ false → PartShown fault list part)
line_at_fault_lies κs list plan part fault after learnt = (
  showing.shown_of_plan fault list plan part learnt.0 learnt.1,
  showing.shown_of_list fault list plan part learnt.0 learnt.1,
)

-- 2f: so with the fault that `judge` answers it is the line of the first fault
pub line_at_fault_first :
    (κs : Lfts 2) (ks : Lfts 1) (list plan part : _) (fault : Fault) (after later : _)
    → judge.Learnt κs (list, (plan, tt)) (Err fault) after → at_fault.Learnt ks (list, (plan, (fault, tt))) part later
    → FirstFault list.now plan.now fault part.now
line_at_fault_first κs ks list plan part fault after later judged_so shows =
    rw shows.0 ((answers_wrong κs list plan (Err fault) after judged_so fault).0 refl)

-- 1a: no public function asks anything of what it is passed
pub nothing_asked :
    ((κs : Lfts 2) (passed : _) → judge.Asked κs passed)
    × ((κs : Lfts 1) (passed : _) → at_fault.Asked κs passed)
nothing_asked = (λ κs passed. tt, λ κs passed. tt)
