-- `next` hands out the part up to the place that `line_end` gives, and the walk moved there.
use Rattle.texts.proofs.Places.{handed_on}
use Rattle.texts.proofs.next.Goals as goal

pub returns : goal.returns
returns c = handed_on c.args.walk c.part-line.result _ c.line_end-at.ensures c.part-line.ensures.result_value c.part-line.ensures.lies_at
