-- What was read stands in the text, and each turn but the last puts a byte more there.
use Rattle.std.proofs.Common.{length, ◌-◌, ◌≤◌}
use Rattle.checker.proofs.read_full.Given as goal

abbrev pub invariant-loop-length : goal.invariant-loop-length
invariant-loop-length g l = l.length ≤ length l.text

abbrev pub decreases-loop-length : goal.decreases-loop-length
decreases-loop-length g l = length l.text - l.length
