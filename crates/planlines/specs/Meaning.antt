-- What it means that the numbers of a plan line can be written, and what its text is. Assumes nothing.
use Rattle.std.specs.Prelude.{ℕ, ◌≤◌, ◌≡◌, List, [], ◌∷◌}
use Rattle.ground.specs.Spelling.{value_of, Plain}
use Rattle.fields.specs.Meaning.{Splits}
use Rattle.writer.specs.Meaning.{HourText}

-- "from its three numbers (order line 2 to 513, chamber 1 to 8, start)", and "an hour is a whole number of hundredths, 0 to 999,999"
pub record InRange (order chamber start : ℕ) : Type 0 where
  pub order_line : (2 ≤ order) × (order ≤ 513)
  pub chamber_number : (1 ≤ chamber) × (chamber ≤ 8)
  pub start_hour : start ≤ 999_999

-- "Each line: line number of the order in its list (the first line is 1, so orders start at 2), chamber, start hour":
-- these three fields and no more
pub record PlanText (order chamber start : ℕ) (text : List ℕ) : Type 0 where
  pub first : List ℕ
  pub second : List ℕ
  pub third : List ℕ
  pub splits : Splits text (first ∷ second ∷ third ∷ [])
  pub order_spelled : Plain first × (value_of first ≡ order)
  pub chamber_spelled : Plain second × (value_of second ≡ chamber)
  pub start_spelled : HourText start third
