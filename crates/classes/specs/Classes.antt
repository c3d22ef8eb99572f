-- "In reading, each byte is a digit, a comma, a tab, a line end or a foreign byte." The decimal mark is a parameter. Assumes nothing.
use Rattle.std.specs.Prelude.{ℕ, ◌-◌, Bool, cond, eqb}
use Rattle.ground.specs.Range.{within}
use Rattle.classes.specs.declared.Class.{Class}
use Rattle.classes.specs.declared.Class.TheVariants.{Digit, Mark, Tab, LineEnd, Foreign}

-- the decimal mark of an hour is the comma
abbrev pub comma : ℕ
comma = 44

-- a digit is a byte from '0', 48, to '9', 57
abbrev pub is_digit : ℕ → Bool
is_digit byte = within 48 57 byte

-- what a digit's byte is worth
abbrev pub digit_of : ℕ → ℕ
digit_of byte = byte - 48

-- the class of a byte; a digit comes with its worth
unfoldable pub class_of : ℕ → ℕ → Class
class_of mark byte =
    cond (is_digit byte) (Digit (digit_of byte))
    (cond (eqb byte mark) Mark (cond (eqb byte 9) Tab (cond (eqb byte 10) LineEnd Foreign)))
