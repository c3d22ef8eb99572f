-- `fill_hour` fills all of its part: the whole hours before the mark, two digits behind it.
use Rattle.std.proofs.Common.{◌∙◌, arith, ◌≤◌, length}
use Rattle.std.proofs.lemmas.Grind.{common_steps}
use Rattle.classes.specs.Classes.{comma}
use Rattle.writer.proofs.Writing.{length_of_text, hour_fills}
use Rattle.writer.proofs.fill_hour.Goals as goal

pub returns : goal.returns
returns c =
    let room : 3 ≤ length c.args.buffer.now = omega (arith, length_of_text comma c.args.hour) in
    grind (arith, common_steps) ∙ hour_fills comma c.args.hour c.args.buffer.now c.requires
