-- What the checker program prints: "`right→N`, or `fault`, number, `orders` or `plan`, line number". Assumes nothing.
use Rattle.std.specs.Prelude.{ℕ, Bool, true, false, List, [], ◌∷◌, Result}
use Rattle.ground.specs.Refusal.{Or, wrong, right}
use Rattle.ground.specs.Digits.{spelled}
use Rattle.ground.specs.Text.{bytes}
use Rattle.writer.specs.Line.{line_with}
use Rattle.plans.specs.Judging.{judged, as_judged}
use Rattle.plans.specs.declared.Fault.{Fault}

-- the word for the text at fault
abbrev pub text_word : Bool → List ℕ
text_word true = bytes "plan"
text_word false = bytes "orders"

-- the line of what a plan comes to: right with a number, or a fault
unfoldable pub outcome_line : Or Fault ℕ → List ℕ
outcome_line (right count) = line_with (bytes "right" ∷ spelled count ∷ [])
outcome_line (wrong fault) = line_with (bytes "fault" ∷ spelled fault.number ∷ text_word fault.plan ∷ spelled fault.line ∷ [])

-- the line of a judgement
abbrev pub judgement_line : Result ℕ Fault → List ℕ
judgement_line judgement = outcome_line (as_judged judgement)

-- the line for a list and a plan: that of what the plan comes to
unfoldable pub checked_line : List ℕ → List ℕ → List ℕ
checked_line list plan = outcome_line (judged list plan)
