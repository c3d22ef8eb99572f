-- The text of the yeses as plan lines: its lines, what they read as, how many they are and how long it is. Assumes nothing.
use Prim.Native.Nat.{ℕ, suc, ◌*◌, ◌≤◌}
use mathlib.Core.Path.{◌≡◌, refl, ap, ◌∙◌}
use mathlib.Core.Bool.{true}
use mathlib.Core.List.{List, [], ◌∷◌, ◌++◌, map}
use lib.ListN.{length, length-append}
use lib.Dec.{eqb}
use native.Mathlib.Omega.{arith}
use Rattle.ground.specs.Refusal.{right}
use Rattle.ground.proofs.Tests.{by_test}
use Rattle.texts.specs.Lines.{line_end, lines_of}
use Rattle.fields.specs.Fields.{is_ended}
use Rattle.lines.specs.Reading.{load_of}
use Rattle.fields.proofs.Splits.{none_behind}
use Rattle.planlines.specs.Writing.{plan_text}
use Rattle.planlines.specs.Meaning.{InRange}
use Rattle.texts.specs.Meaning.{joined}
use Rattle.lines.specs.declared.Load.{Load}
use Rattle.planlines.proofs.RoundTrip.{text_ended, text_reads_back}
use Rattle.book.specs.declared.Answer.{Answer}
use Rattle.book.specs.declared.Answer.TheVariants.{Yes, No, Refused}
use Rattle.orders.specs.Answers.{yeses}
use Rattle.orders.specs.Meaning.{Each}
use Rattle.orders.proofs.Each.{each_first, each_rest}
use Rattle.limit.specs.Yeses.{yes_plan}
use Rattle.limit.proofs.YesLoads.{yes_loads}
use Rattle.limit.proofs.LineRoom.{longest_line, line_short}

-- a load as a plan line
abbrev pub load_text : Load → List ℕ
load_text load = plan_text load.order load.chamber load.start

-- the yeses as a plan are their loads as plan lines, one behind the other
pub plan_joined : (line : ℕ) (answers : List Answer) → yes_plan line answers ≡ joined (map load_text (yes_loads line answers))
unfolding yes_plan yes_loads joined
plan_joined line [] = refl
plan_joined line (Yes chamber start ∷ answers) = ap (λ rest. plan_text line chamber start ++ rest) (plan_joined (suc line) answers)
plan_joined line (No ∷ answers) = plan_joined (suc line) answers
plan_joined line (Refused number ∷ answers) = plan_joined (suc line) answers

-- and there are as many loads as yeses
pub loads_counted_lem : (line : ℕ) (answers : List Answer) → length (yes_loads line answers) ≡ yeses answers
unfolding yes_loads yeses
loads_counted_lem line [] = refl
loads_counted_lem line (Yes chamber start ∷ answers) = omega (arith, loads_counted_lem (suc line) answers)
loads_counted_lem line (No ∷ answers) = omega (arith, loads_counted_lem (suc line) answers)
loads_counted_lem line (Refused number ∷ answers) = omega (arith, loads_counted_lem (suc line) answers)

-- an ended line is the first line of a text that it stands in front of
ended_first : (line rest : List ℕ) → is_ended line ≡ true → lines_of (line ++ rest) ≡ line ∷ lines_of rest
unfolding lines_of is_ended
ended_first [] rest ended = cc
ended_first (byte ∷ line) rest ended =
    by_test (eqb byte line_end) (λ end. rw (end, none_behind line (rw end at ended))) (λ other. rw (other, ended_first line rest (rw other at ended)))

-- so the lines of loads as plan lines are these
pub load_lines : (loads : List Load) → lines_of (joined (map load_text loads)) ≡ map load_text loads
unfolding joined lines_of
load_lines [] = refl
load_lines (load ∷ loads) =
    ended_first (load_text load) (joined (map load_text loads)) (text_ended load.order load.chamber load.start)
    ∙ ap (λ lines. load_text load ∷ lines) (load_lines loads)

-- a load that can be written, and read with a list of so many chambers
pub record Writable (count : ℕ) (load : Load) : Type 0 where
  pub in_range : InRange load.order load.chamber load.start
  pub admitted : load.chamber ≤ count

-- they read back as the loads
pub loads_read : {count : ℕ} (loads : List Load) → Each (Writable count) loads → map (load_of count) (map load_text loads) ≡ map right loads
loads_read [] each = refl
loads_read {count} (load ∷ loads) each =
    let first = each_first each in
    let here = text_reads_back load.order load.chamber load.start count first.in_range first.admitted in
    let later = loads_read loads (each_rest each) in
    λ i. here i ∷ later i

-- several plan lines have no more bytes than the longest one for each
pub loads_short : {count : ℕ} (loads : List Load) → Each (Writable count) loads → length (joined (map load_text loads)) ≤ longest_line * length loads
unfolding joined
loads_short [] each = omega arith
loads_short (load ∷ loads) each =
    simp length-append (omega (arith, line_short (each_first each).in_range, loads_short loads (each_rest each)))
