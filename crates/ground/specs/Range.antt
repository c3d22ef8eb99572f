-- Ranges of numbers, as the paper gives them: "1 to 8", both ends among them. Assumes nothing.
use Rattle.std.specs.Prelude.{ℕ, Bool, ◌&&◌, leb}

-- a number lies in a range
abbrev pub within : ℕ → ℕ → ℕ → Bool
within low high number = leb low number && leb number high
