-- `print_some` leaves fewer lines: a buffer of its length has room for one.
use Rattle.std.proofs.Common.{arith}
use Rattle.replies.proofs.Filling.{fewer_left}
use Rattle.desk.proofs.print_some.Goals as goal

pub returns-then-print : goal.returns-then-print
returns-then-print c = fewer_left _ _ _ c.fill-filled.ensures c.requires (omega (arith, c.large_buffer-buffer.ensures))
