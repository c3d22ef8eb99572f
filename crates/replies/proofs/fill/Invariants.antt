use Rattle.replies.specs.Steps.{left_of}
use Rattle.replies.proofs.Filling.{Filling}
use Rattle.replies.proofs.fill.Given as goal

abbrev pub invariant-loop-buffer : goal.invariant-loop-buffer
invariant-loop-buffer l = Filling l.text l.initial.buffer l.initial.filled.reply l.buffer l.filled

abbrev pub decreases-loop-buffer : goal.decreases-loop-buffer
decreases-loop-buffer l = left_of l.text l.filled.reply
