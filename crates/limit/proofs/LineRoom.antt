-- How many bytes a plan line has at most. Assumes nothing.
use Prim.Native.Nat.{ℕ, ◌/◌, ◌≤◌}
use lib.ListN.{length, length-append}
use native.Mathlib.Omega.{arith}
use Rattle.ground.proofs.Digits.{spelled_most}
use Rattle.classes.specs.Classes.{comma}
use Rattle.writer.proofs.Writing.{length_of_text}
use Rattle.fields.specs.Meaning.{tabbed}
use Rattle.planlines.specs.Writing.{plan_text}
use Rattle.planlines.specs.Meaning.{InRange}

-- a plan line's most bytes: an order line of three digits, a chamber of one, an hour of seven bytes, two tabs and the end
abbrev pub longest_line : ℕ
longest_line = 14

-- no plan line has more
pub line_short : {order chamber start : ℕ} → InRange order chamber start → length (plan_text order chamber start) ≤ longest_line
unfolding plan_text tabbed
line_short {order} {chamber} {start} range =
    simp length-append
    (omega (
      arith,
      spelled_most 2 order (omega arith),
      spelled_most 0 chamber (omega arith),
      length_of_text comma start,
      spelled_most 3 (start / 100) (omega arith),
    ))
