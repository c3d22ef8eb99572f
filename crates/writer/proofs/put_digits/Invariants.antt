-- `put_digits` fills from the back: the digits still to come, before the bytes that stand there, are all the digits.
use mathlib.Core.Path.{◌≡◌}
use mathlib.Core.List.{◌++◌}
use lib.ListN.{length, drop}
use Rattle.ground.specs.Digits.{last_digits}
use Rattle.writer.proofs.put_digits.Given as goal

abbrev pub invariant-loop-at : goal.invariant-loop-at
invariant-loop-at l = last_digits l.at l.left ++ drop l.at l.buffer ≡ last_digits (length l.initial.buffer) l.number
