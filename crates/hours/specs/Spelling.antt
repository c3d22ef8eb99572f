-- What it means that a field spells an hour. It is no way of reading; the reader is proved to go by it.
-- Stands on lists, numbers, numerals and the spelling of plain numbers. Assumes nothing.
use Rattle.std.specs.Prelude.{ℕ, ◌+◌, ◌-◌, ◌*◌, ◌≡◌, List, [], ◌∷◌, ◌++◌}
use Rattle.ground.specs.Spelling.{DigitByte, value_of, Plain}

-- "one to four digits, then, if wanted, a comma and one or two digits": the whole part is spelled as a plain number, one digit
-- after the comma means tenths, and "Inside, an hour is a whole number of hundredths"
pub data Spells (mark : ℕ) (field : List ℕ) (hour : ℕ) : Type 0 where
  hours : Plain field → hour ≡ value_of field * 100 → Spells mark field hour
  tenths :
      (whole : List ℕ) (tenth : ℕ) → Plain whole → DigitByte tenth → field ≡ whole ++ mark ∷ tenth ∷ []
      → hour ≡ value_of whole * 100 + (tenth - 48) * 10 → Spells mark field hour
  hundredths :
      (whole : List ℕ) (tenth hundredth : ℕ) → Plain whole → DigitByte tenth → DigitByte hundredth
      → field ≡ whole ++ mark ∷ tenth ∷ hundredth ∷ [] → hour ≡ value_of whole * 100 + (tenth - 48) * 10 + (hundredth - 48)
      → Spells mark field hour
