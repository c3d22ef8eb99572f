-- The yeses of answers as the text of a plan, which the third demand holds against the checker. Assumes nothing.
use Rattle.std.specs.Prelude.{ℕ, suc, List, [], ◌∷◌, ◌++◌}
use Rattle.planlines.specs.Writing.{plan_text}
use Rattle.book.specs.declared.Answer.{Answer}
use Rattle.book.specs.declared.Answer.TheVariants.{Yes, No, Refused}

-- a yes as a plan line, with the number of its order's line; a no and a refusal have none
abbrev pub plan_line_for : ℕ → Answer → List ℕ
plan_line_for line (Yes chamber start) = plan_text line chamber start
plan_line_for line No = []
plan_line_for line (Refused number) = []

-- the yeses of answers as a plan, their lines counted from a number on
unfoldable pub yes_plan : ℕ → List Answer → List ℕ
yes_plan line [] = []
yes_plan line (answer ∷ answers) = plan_line_for line answer ++ yes_plan (suc line) answers
