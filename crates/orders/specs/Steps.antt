-- What the private steps of the desk come to. The public definitions do not rest on it. Assumes nothing.
use Rattle.std.specs.Prelude.{ℕ, suc, min}

-- the last number that a line can be counted by
abbrev pub last_line : ℕ
last_line = 4_294_967_295

-- the number of the next line
abbrev pub line_after : ℕ → ℕ
line_after line = min (suc line) last_line
