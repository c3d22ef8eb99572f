-- What this room promises, of the answers themselves and of the lines that they are about. Each is a line over a law of this folder or of
-- the writer. Assumes nothing.
use Prim.Native.Nat.{ℕ, ◌≤◌}
use mathlib.Core.Path.{◌≡◌, refl, sym, ◌∙◌}
use mathlib.Core.Bool.{Bool, true}
use mathlib.Core.List.{List}
use mathlib.Core.Logic.Iff
use mathlib.Core.Logic.{◌↔◌}
use lib.ListN.{length}
use contract.Lifetimes.{Lfts}
use Rattle.std.specs.Prelude.{Result, Ok, Err}
use Rattle.ground.specs.Refusal.{right}
use Rattle.texts.specs.Lines.{lines_of}
use Rattle.writer.specs.Meaning.{Writes}
use Rattle.writer.specs.declared.Written.{Written}
use Rattle.writer.proofs.Answers as answers
use Rattle.plans.specs.Judging.{judged, shown}
use Rattle.plans.specs.Meaning.{Obeys, FirstFault}
use Rattle.plans.specs.declared.Fault.{Fault}
use Rattle.plans.proofs.Promises.{right_exactly, fault_exactly}
use Rattle.judgements.specs.Judgements.{judgement_line, checked_line}
use Rattle.judgements.specs.Meaning.{RightLine, FaultLine}
use Rattle.judgements.proofs.JudgementLine as lines
use Rattle.judgements.proofs.write_judgement.Reads as write_judgement
use Rattle.judgements.proofs.write_checked.Reads as write_checked

-- the line of a judgement: `right` and its number, or `fault`, its number, `orders` or `plan`, and its line's number; and no other line is
pub right_line : (count : ℕ) (line : List ℕ) → (line ≡ judgement_line (Ok count)) ↔ RightLine count line
right_line = lines.right_line

pub fault_line :
    (fault : Fault) (line : List ℕ) → (line ≡ judgement_line (Err fault)) ↔ FaultLine fault.number fault.plan fault.line line
fault_line = lines.fault_line

-- a line says right with one number, or one fault's number, text and line, and never both
pub one_right : (line : List ℕ) (count other : ℕ) → RightLine count line → RightLine other line → count ≡ other
one_right line count other = lines.one_right

pub one_fault :
    (line : List ℕ) (number other : ℕ) (in_plan in_other : Bool) (at place : ℕ) → FaultLine number in_plan at line
    → FaultLine other in_other place line → (number ≡ other) × (in_plan ≡ in_other) × (at ≡ place)
one_fault line number other in_plan in_other at place = lines.one_fault

pub never_both_lines : (line : List ℕ) (count number : ℕ) (in_plan : Bool) (at : ℕ) → RightLine count line → FaultLine number in_plan at line → ⊥
never_both_lines line count number in_plan at = lines.never_both_lines

-- "Otherwise it prints `right→N`": exactly when the plan obeys the list and has N lines
pub checked_right :
    (list plan : List ℕ) (count : ℕ) → RightLine count (checked_line list plan) ↔ (Obeys list plan × (count ≡ length (lines_of plan)))
unfolding checked_line
checked_right list plan count = Iff.trans (lines.right_told (judged list plan) count) (right_exactly list plan count)

-- "or `fault`, number, `orders` or `plan`, line number": exactly when these are of the first fault
pub checked_fault :
    (list plan : List ℕ) (number : ℕ) (in_plan : Bool) (at : ℕ)
    → FaultLine number in_plan at (checked_line list plan)
    ↔ ((fault : Fault) × FirstFault list plan fault (shown fault list plan) × (fault.number ≡ number) × (fault.plan ≡ in_plan) × (fault.line ≡ at))
unfolding checked_line
checked_fault list plan number in_plan at =
    let told = lines.fault_told (judged list plan) number in_plan at in (
      λ said. let f = told.0 said in (f.0, (fault_exactly list plan f.0).0 f.1, f.2, f.3, f.4),
      λ first. told.1 (first.0, (fault_exactly list plan first.0).1 first.1, first.2, first.3, first.4),
    )

-- 1b, 1c: what the checker prints is refused by 7 exactly when it is longer than the buffer, and every byte stays; in every other case it
-- stands at the front, every other byte stays, and its length is answered
pub checked_writes :
    (κs : Lfts 3) (list plan buffer : _) (answer : Written) (after : _) → write_checked.Learnt κs (list, (plan, (buffer, tt))) answer after
    → Writes (Unit {0}) (checked_line list.now plan.now) buffer.now answer after.1.1.0.now
checked_writes κs list plan buffer answer after learnt =
    answers.writes true (Unit {0}) answers.always (checked_line list.now plan.now) buffer.now (right (checked_line list.now plan.now)) refl answer
    after.1.1.0.now learnt.0 learnt.1.0

-- and it has room in 48 bytes, so that it is never refused there; so has the line of any judgement
pub checked_fits :
    (κs : Lfts 3) (list plan buffer : _) (answer : Written) (after : _) → write_checked.Learnt κs (list, (plan, (buffer, tt))) answer after
    → length (checked_line list.now plan.now) ≤ 48
checked_fits κs list plan buffer answer after learnt = learnt.1.1

pub judgement_fits :
    (κs : Lfts 1) (judgement : Result ℕ Fault) (buffer : _) (answer : Written) (after : _) → write_judgement.Learnt κs (judgement, (buffer, tt)) answer after
    → length (judgement_line judgement) ≤ 48
judgement_fits κs judgement buffer answer after learnt = learnt.1.1

-- 1b, 1c: a judgement is refused by 7 exactly when its line is longer than the buffer, and every byte stays; in every other case its line
-- stands at the front, every other byte stays, and its length is answered
pub judgement_writes :
    (κs : Lfts 1) (judgement : Result ℕ Fault) (buffer : _) (answer : Written) (after : _) → write_judgement.Learnt κs (judgement, (buffer, tt)) answer after
    → Writes (Unit {0}) (judgement_line judgement) buffer.now answer after.1.0.now
judgement_writes κs judgement buffer answer after learnt =
    answers.writes true (Unit {0}) answers.always (judgement_line judgement) buffer.now (right (judgement_line judgement)) refl answer after.1.0.now
    learnt.0 learnt.1.0

-- 1d: each public function's contract admits a single outcome
pub write_judgement_single :
    (κs : Lfts 1) (judgement : Result ℕ Fault) (buffer : _) (one other : Written) (held kept : _) → write_judgement.Learnt κs (judgement, (buffer, tt)) one held
    → write_judgement.Learnt κs (judgement, (buffer, tt)) other kept → (one ≡ other) × (held.1.0.now ≡ kept.1.0.now)
write_judgement_single κs judgement buffer one other held kept p q = answers.single one other p.0 q.0 (p.1.0 ∙ sym q.1.0)

pub write_checked_single :
    (κs : Lfts 3) (list plan buffer : _) (one other : Written) (held kept : _) → write_checked.Learnt κs (list, (plan, (buffer, tt))) one held
    → write_checked.Learnt κs (list, (plan, (buffer, tt))) other kept → (one ≡ other) × (held.1.1.0.now ≡ kept.1.1.0.now)
write_checked_single κs list plan buffer one other held kept p q = answers.single one other p.0 q.0 (p.1.0 ∙ sym q.1.0)

-- 1a: no public function asks anything of what it is passed
pub nothing_asked :
    ((κs : Lfts 1) (passed : _) → write_judgement.Asked κs passed)
    × ((κs : Lfts 3) (passed : _) → write_checked.Asked κs passed)
nothing_asked = (λ κs passed. tt, λ κs passed. tt)
