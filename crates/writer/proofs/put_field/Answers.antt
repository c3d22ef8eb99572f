-- `put_field` lends a field a part that is as long as it is, and stores the byte that stops it behind it.
use mathlib.Core.Path.{refl, sym}
use lib.Dec.{ltb}
use native.Mathlib.Omega.{arith}
use borrow.Author.Tests.{ltb-true}
use Rattle.writer.proofs.Line.{check_met, Fits, part_sized, field_put}
use Rattle.writer.proofs.put_field.Goals as goal

pub returns : goal.returns
returns g c =
    λ field same fills.
    let a = c.args in
    let met = check_met (ltb a.size c.saturating_sub.result) _ c.check.ensures c.in_ok-check.was in
    let fits : Fits a.at field a.stop a.buffer.now a.size = record { counted = sym same; room = omega (arith, ltb-true _ _ met, c.saturating_sub.ensures) } in
    field_put fits (fills _ _ (part_sized fits) (record { shown = _; shows = refl; left = _; met = c.fill.ensures; leaves = refl })) refl refl
