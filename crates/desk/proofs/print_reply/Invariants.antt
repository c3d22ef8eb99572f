-- `print_reply` ends: fewer lines are left at each turn.
use Rattle.replies.specs.Steps.{left_of}
use Rattle.desk.proofs.print_reply.Given as goal

abbrev pub decreases-loop-reply : goal.decreases-loop-reply
decreases-loop-reply l = left_of l.text l.reply
