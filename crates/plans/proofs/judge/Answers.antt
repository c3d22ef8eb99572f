-- `judge` looks at the length of both texts, at how the list begins, and then at the rest.
use mathlib.Core.Path.{◌≡◌, refl, sym, ap, ◌∙◌}
use Rattle.std.proofs.Common.{Ok, Err, false, rules}
use Rattle.ground.specs.Refusal.{wrong, right, refusal_number}
use Rattle.texts.specs.Lines.{past_line}
use Rattle.orders.specs.Answers.{opening, begun_by, as_begun}
use Rattle.plans.specs.Judging.{as_judged}
use Rattle.plans.specs.Meaning.{fault_of}
use Rattle.plans.proofs.Faults.{made_of}
use Rattle.plans.proofs.Texts.{first_line_faulty, list_begun}
use Rattle.plans.proofs.judge.Goals as goal
use Rattle.plans.proofs.judge.Goals.{In_ok-begun}

-- the list begins so
begins_so : (c : goal.In_ok-begun) → begun_by c.args.list.now (opening c.args.list.now) ≡ right c.in_ok-begun.begun
begins_so c = sym c.begin.ensures ∙ (let same : c.begin.result ≡ Ok c.in_ok-begun.begun = search rules in ap as_begun same)

pub returns-in_err-begun : goal.returns-in_err-begun
returns-in_err-begun c =
    let a = c.args in
    let made = made_of _ _ c.in_err-begun.field-0.0 _ c.map_err.ensures.cases c.in_err-begun.was in
    let refused = made.0 in
    let same : c.begin.result ≡ Err refused = made.1 in
    let begun : begun_by a.list.now (opening a.list.now) ≡ wrong (refusal_number refused.refusal, refused.progress) = sym c.begin.ensures ∙ ap as_begun same in
    let fault : c.in_err-begun.field-0.0 ≡ fault_of (refusal_number refused.refusal) false 1 0 (past_line a.list.now 0) = search rules in
    let out : c.from_residual-in_err-begun.result ≡ Err c.in_err-begun.field-0.0 = search rules in
    ap as_judged out
    ∙ ap wrong fault
    ∙ sym
    (first_line_faulty a.list.now a.plan.now (sym c.in_ok-fitting.ensures) (sym c.in_ok-fitting-2.ensures) (refusal_number refused.refusal) refused.progress begun _ refl)

pub judge_with-requires : goal.judge_with-requires
judge_with-requires c =
    let a = c.args in
    let list = list_begun a.list.now a.plan.now (sym c.in_ok-fitting.ensures) (sym c.in_ok-fitting-2.ensures) c.in_ok-begun.begun (begins_so (goal.at.judge_with-requires c).In_ok-begun) in
    (list.0, list.1)

pub returns : goal.returns
returns c =
    let a = c.args in
    c.judge_with.ensures
    ∙ sym (list_begun a.list.now a.plan.now (sym c.in_ok-fitting.ensures) (sym c.in_ok-fitting-2.ensures) c.in_ok-begun.begun (begins_so (goal.at.returns c).In_ok-begun)).2
