-- `write_plan_line` writes the line that was put together in its own buffer, once its order line and its chamber were checked.
use mathlib.Core.Path.{◌≡◌, sym, ◌∙◌}
use mathlib.Core.Bool.{true}
use native.Mathlib.Omega.{arith}
use borrow.Author.Rules.{rules}
use Rattle.ground.specs.Refusal.{right}
use Rattle.ground.specs.Range.{within}
use Rattle.ground.specs.Limits.{most_chambers, first_order_line, last_order_line}
use Rattle.writer.specs.Steps.{bytes_of_all}
use Rattle.writer.proofs.Line.{check_met, then_put, last_put, line_put, line_written, number_short, hour_short}
use Rattle.planlines.specs.Writing.{places_checked, plan_written}
use Rattle.planlines.proofs.PlanLine.{line_of_fields}
use Rattle.planlines.proofs.write_plan_line.Goals as goal

pub returns : goal.returns
unfolding bytes_of_all
returns c =
    let a = c.args in
    let listed : within first_order_line last_order_line a.order ≡ true = sym c.within.ensures ∙ check_met c.within.result _ c.check.ensures c.in_ok-check.was in
    let housed : within 1 most_chambers a.chamber ≡ true = sym c.within-2.ensures ∙ check_met c.within-2.result _ c.check-2.ensures c.in_ok-check-2.was in
    let places : places_checked a.order a.chamber ≡ right tt = rw (listed, housed) in
    let first = c.put_number-ordered.ensures in
    let second = c.put_number-housed.ensures in
    let third = c.put_hour-line.ensures in
    let comes =
    then_put _ _ _ (first.result_value, first.buffer_after)
    (then_put _ _ _ (second.result_value, second.buffer_after) (last_put _ _ _ (third.result_value, third.buffer_after))) in
    let written =
    line_written a.buffer.now _ (plan_written a.order a.chamber a.start)
    (line_put (right tt) _ _ _
    (omega (arith, number_short a.order (omega arith), number_short a.chamber (omega arith), hour_short a.start)) comes
    ∙ sym (rw places at (line_of_fields a.order a.chamber a.start)))
    (c.write_line.ensures.result_value, c.write_line.ensures.buffer_after) in
    search rules
