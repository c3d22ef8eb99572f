-- `walked_line` is the line that `next` hands out of a walk at the place, and lies where that line lies.
use Rattle.texts.proofs.Places.{hands_line, lies_start}
use Rattle.texts.proofs.walked_line.Goals as goal

pub returns : goal.returns
returns c = (hands_line c.next-handed.ensures, lies_start c.next-handed.result.line c.args.text c.args.at c.next-handed.ensures.lies)
