-- No line ends between the place that the loop started from and the one that it has come to.
use Prim.Native.Nat.{◌≤◌, max}
use mathlib.Core.Path.{◌≡◌}
use lib.ListN.{length}
use Rattle.texts.specs.Lines.{past_line}
use Rattle.texts.proofs.line_end.Given as goal

abbrev pub invariant-loop-place : goal.invariant-loop-place
invariant-loop-place l = (past_line l.text l.at ≡ past_line l.text l.place) × (l.at ≤ l.place) × (l.place ≤ max l.at (length l.text))
