-- `read` ends: fewer bytes of the word are left past each piece.
use Rattle.std.proofs.Common.{length}
use Rattle.cases.proofs.case_text.read.Given as goal

abbrev pub decreases-loop-rest : goal.decreases-loop-rest
decreases-loop-rest l = length l.rest
