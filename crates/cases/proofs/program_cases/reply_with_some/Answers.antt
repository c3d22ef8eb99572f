-- `reply_with_some` leaves fewer lines: a buffer of its length has room for one.
use Rattle.std.proofs.Common.{arith}
use Rattle.replies.proofs.Filling.{fewer_left}
use Rattle.cases.proofs.program_cases.reply_with_some.Goals as goal

pub returns : goal.returns
returns c = fewer_left _ _ _ c.fill-filled.ensures c.requires (omega (arith, c.buffer-buffer.ensures))
