-- What it means for a byte to be of a class; the sorting is proved to go by it. Stands on numbers and numerals alone. Assumes nothing.
use Rattle.std.specs.Prelude.{ℕ, ◌-◌, ◌≡◌}
use Rattle.ground.specs.Spelling.{DigitByte}
use Rattle.classes.specs.declared.Class.{Class}
use Rattle.classes.specs.declared.Class.TheVariants.{Digit, Mark, Tab, LineEnd, Foreign}

-- "each byte is a digit, a comma, a tab, a line end or a foreign byte": a digit is worth its byte less 48; the comma is 44,
-- the tab 9, the line end 10
abbrev pub OfClass : ℕ → Class → Type 0
OfClass byte (Digit worth) = DigitByte byte × (worth ≡ byte - 48)
OfClass byte Mark = byte ≡ 44
OfClass byte Tab = byte ≡ 9
OfClass byte LineEnd = byte ≡ 10
OfClass byte Foreign = (DigitByte byte → ⊥) × (byte ≡ 44 → ⊥) × (byte ≡ 9 → ⊥) × (byte ≡ 10 → ⊥)
