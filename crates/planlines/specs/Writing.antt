-- How a plan line is written "from its three numbers (order line 2 to 513, chamber 1 to 8, start)". Assumes nothing.
use Rattle.std.specs.Prelude.{ℕ, List, [], ◌∷◌}
use Rattle.ground.specs.Refusal.{Read, right, check, ◌>>=◌, ◌>>◌}
use Rattle.ground.specs.Range.{within}
use Rattle.ground.specs.Limits.{most_chambers, first_order_line, last_order_line}
use Rattle.ground.specs.Digits.{spelled}
use Rattle.classes.specs.Classes.{comma}
use Rattle.writer.specs.Writing.{hour_text, hour_written}
use Rattle.writer.specs.Line.{line_with}

-- a plan line's text: order line, chamber and start
unfoldable pub plan_text : ℕ → ℕ → ℕ → List ℕ
plan_text order chamber start = line_with (spelled order ∷ spelled chamber ∷ hour_text comma start ∷ [])

-- 4 for "the order line or chamber of a plan line to be written"
abbrev pub places_checked : ℕ → ℕ → Read (Unit {0})
places_checked order chamber = check (within first_order_line last_order_line order) 4 >> check (within 1 most_chambers chamber) 4

-- the line to be written: 4 also for a start above the last hour
unfoldable pub plan_written : ℕ → ℕ → ℕ → Read (List ℕ)
plan_written order chamber start = do
  places_checked order chamber
  hour ← hour_written comma start
  right (plan_text order chamber start)

-- the fields of a plan line, of which the start may be refused
abbrev pub plan_fields : ℕ → ℕ → ℕ → List (Read (List ℕ))
plan_fields order chamber start = right (spelled order) ∷ right (spelled chamber) ∷ hour_written comma start ∷ []
