-- `fill` has filled the buffer once no line is left or has room.
use mathlib.Core.Path.{sym, ◌∙◌}
use Rattle.replies.proofs.Filling.{filled_up}
use Rattle.replies.proofs.fill.Goals as goal

pub returns : goal.returns
returns c = filled_up _ _ c.loop-buffer.invariant (sym c.goes_on.ensures ∙ c.loop-buffer-test.false)
