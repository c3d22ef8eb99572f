-- Past the last byte the place past the line is the place that the loop has come to.
use mathlib.Core.Path.{◌≡◌, sym, ◌∙◌}
use native.Mathlib.Omega.{arith}
use Rattle.texts.proofs.Lines.{walk_done}
use Rattle.texts.proofs.line_end.Goals as goal

pub returns : goal.returns
returns c =
    let kept = c.loop-place.invariant in
    let here : c.max.result ≡ c.loop-place.place = omega (arith, c.max.ensures, c.loop-place-test.false, kept.1, kept.2) in
    here ∙ sym (kept.0 ∙ (walk_done _ _ (omega (arith, c.loop-place-test.false))).2)
