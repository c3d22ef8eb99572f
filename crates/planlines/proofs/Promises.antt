-- What this room promises, of the answer itself and of the text that it is about.
-- Each is a line over a law of this folder or of the writer. Assumes nothing.
use Prim.Native.Nat.{ℕ, ◌≤◌}
use mathlib.Core.Path.{◌≡◌, refl, sym, ap, ◌∙◌}
use mathlib.Core.List.{List, [], ◌∷◌, ◌++◌}
use lib.ListN.{take}
use contract.Lifetimes.{Lfts}
use Rattle.ground.specs.Refusal.{right}
use Rattle.ground.specs.Spelling.{DigitsOf}
use Rattle.ground.specs.Digits.{spelled}
use Rattle.ground.proofs.Promises.{spelled_exactly}
use Rattle.fields.specs.Meaning.{tabbed}
use Rattle.writer.specs.Writing.{hour_text}
use Rattle.writer.specs.Line.{line_with}
use Rattle.writer.specs.Meaning.{Writes}
use Rattle.writer.specs.declared.Written.{Written}
use Rattle.writer.specs.declared.Written.TheVariants.{Length}
use Rattle.writer.proofs.Answers as answers
use Rattle.lines.specs.Reading.{load_of}
use Rattle.planlines.specs.Writing.{plan_text, plan_written}
use Rattle.planlines.specs.Meaning.{InRange, PlanText}
use Rattle.planlines.proofs.PlanLine as plan
use Rattle.planlines.proofs.RoundTrip as back
use Rattle.planlines.proofs.write_plan_line.Reads as write_plan_line

-- 1d: the writer's contract admits a single outcome
pub write_plan_line_single :
    (κs : Lfts 1) (order chamber start : ℕ) (buffer : _) (one other : Written) (held kept : _)
    → write_plan_line.Learnt κs (order, (chamber, (start, (buffer, tt)))) one held
    → write_plan_line.Learnt κs (order, (chamber, (start, (buffer, tt)))) other kept
    → (one ≡ other) × (held.1.1.1.0.now ≡ kept.1.1.1.0.now)
write_plan_line_single κs order chamber start buffer one other held kept p q = answers.single one other p.0 q.0 (p.1 ∙ sym q.1)

-- the text of a plan line is these three fields and no more: the order line and the chamber as plain numbers, and the start
pub plan_text_lem : (order chamber start : ℕ) → InRange order chamber start → PlanText order chamber start (plan_text order chamber start)
plan_text_lem = back.plan_text_lem

-- of whatever numbers it is the digits of order line and chamber and the text of the start, with a tab between each two and byte 10 behind
pub plan_text_exactly :
    (order chamber start : ℕ) (first second : List ℕ) → DigitsOf order first → DigitsOf chamber second
    → plan_text order chamber start ≡ tabbed (first ∷ second ∷ hour_text 44 start ∷ []) ++ 10 ∷ []
unfolding plan_text
plan_text_exactly order chamber start first second ordered housed =
    let line : List ℕ → List ℕ → List ℕ = λ one other. line_with (one ∷ other ∷ hour_text 44 start ∷ []) in
    ap (λ word. line word (spelled chamber)) (sym ((spelled_exactly order first).1 ordered)) ∙ ap (line first) (sym ((spelled_exactly chamber second).1 housed))

-- 1b, 1c: a plan line is refused by 4 exactly when a number is out of its range, whatever the room, then by 7 exactly when its text is
-- longer than the buffer, and every byte stays; in every other case its text stands at the front, every other byte stays, and its
-- length is answered
pub plan_line_writes :
    (κs : Lfts 1) (order chamber start : ℕ) (buffer : _) (answer : Written) (after : _)
    → write_plan_line.Learnt κs (order, (chamber, (start, (buffer, tt)))) answer after
    → Writes (InRange order chamber start) (plan_text order chamber start) buffer.now answer after.1.1.1.0.now
plan_line_writes κs order chamber start buffer answer after learnt =
    answers.writes (plan.in_range order chamber start) (InRange order chamber start) (plan.in_range_lem order chamber start) (plan_text order chamber start)
    buffer.now (plan_written order chamber start) (plan.tested order chamber start) answer after.1.1.1.0.now learnt.0 learnt.1

-- 2e: what was written reads back as its three numbers, with any list's count that admits the chamber
pub written_reads_back :
    (κs : Lfts 1) (order chamber start : ℕ) (buffer : _) (length : ℕ) (after : _)
    → write_plan_line.Learnt κs (order, (chamber, (start, (buffer, tt)))) (Length length) after → (count : ℕ) → chamber ≤ count
    → load_of count (take length after.1.1.1.0.now) ≡ right (record { order = order; chamber = chamber; start = start })
written_reads_back κs order chamber start buffer length after learnt count admitted =
    let writes = plan_line_writes κs order chamber start buffer (Length length) after learnt in
    ap (load_of count) (writes.front length refl) ∙ back.text_reads_back order chamber start count ((writes.written length).0 refl).0 admitted

-- 2e: different triples never give the same bytes
pub texts_differ :
    (order chamber start other_order other_chamber other_start : ℕ) → InRange order chamber start → InRange other_order other_chamber other_start
    → plan_text order chamber start ≡ plan_text other_order other_chamber other_start
    → (order ≡ other_order) × (chamber ≡ other_chamber) × (start ≡ other_start)
texts_differ = back.texts_differ

-- 1a: the function asks nothing of what it is passed
pub nothing_asked : (κs : Lfts 1) (passed : _) → write_plan_line.Asked κs passed
nothing_asked κs passed = tt
