-- `walked_place` is where `next` leaves a walk at the place.
use Rattle.texts.proofs.Places.{hands_past}
use Rattle.texts.proofs.walked_place.Goals as goal

pub returns : goal.returns
returns c = hands_past c.next-handed.ensures
