-- A line as fields split at tabs, for any number of fields. Assumes nothing.
use Rattle.std.specs.Prelude.{ℕ, Bool, true, false, cond, ◌&&◌, List, [], ◌∷◌, length, eqb}
use Rattle.ground.specs.Refusal.{Read, check}
use Rattle.ground.specs.Range.{within}
use Rattle.texts.specs.Lines.{line_end, before}

-- "`→` stands for one tab (byte 9)"
abbrev pub tab : ℕ
tab = 9

-- two texts are the same, byte for byte
unfoldable pub same_bytes : List ℕ → List ℕ → Bool
same_bytes [] [] = true
same_bytes [] (other ∷ others) = false
same_bytes (byte ∷ rest) [] = false
same_bytes (byte ∷ rest) (other ∷ others) = eqb byte other && same_bytes rest others

-- nothing follows
abbrev pub is_none : List ℕ → Bool
is_none [] = true
is_none (byte ∷ rest) = false

-- "Each line ends with byte 10", and no other byte of it is one
unfoldable pub is_ended : List ℕ → Bool
is_ended [] = false
is_ended (byte ∷ rest) = cond (eqb byte line_end) (is_none rest) (is_ended rest)

-- the fields of a line, split at tabs, up to its end
unfoldable pub fields_of : List ℕ → List (List ℕ)
fields_of [] = [] ∷ []
fields_of (byte ∷ rest) = cond (eqb byte tab) ([] ∷ fields_of rest) (cond (eqb byte line_end) ([] ∷ []) (before byte (fields_of rest)))

-- 1: "line not ended, not three fields", for any least and most count of fields
unfoldable pub shape_of : ℕ → ℕ → List ℕ → Read (Unit {0})
shape_of least most line = check (is_ended line && within least most (length (fields_of line))) 1
