-- `judge_with` reads the orders from where the list has begun, and then judges the plan.
use mathlib.Core.Path.{◌≡◌, refl, ap, ◌∙◌}
use lib.ListN.{length-take}
use native.Mathlib.Omega.{arith}
use Rattle.orders.proofs.Beginning.{opened_within}
use Rattle.std.proofs.Common.{Ok, Err, rules}
use Rattle.plans.specs.Judging.{list_judged, as_judged}
use Rattle.plans.specs.Steps.{OrdersAre}
use Rattle.plans.proofs.Texts.{orders_begun, begins, chambers_most, list_faulty, list_faultless}
use Rattle.plans.proofs.judge_with.Goals as goal
use Rattle.plans.proofs.judge_with.Goals.{In_ok-count}

-- the orders that were read are those that the list is judged by
are_at :
    (c : goal.In_ok-count)
    → let a = c.args in
    OrdersAre (list_judged a.list.now a.begun.book) (Ok c.in_ok-count.count) c.read_orders.new.readies c.read_orders.new.dues
are_at c = rw (orders_begun c.args.list.now c.args.begun c.requires.0 c.requires.1) at c.in_ok-count.ensures

pub read_orders-requires : goal.read_orders-requires
read_orders-requires c =
    record {
      list_len_bound = opened_within c.args.list.now _ c.requires.0;
      readies_len = (refl, refl);
      taken_value = begins c.args.list.now c.args.begun c.requires.0 c.requires.1;
    }

pub returns-in_err-count : goal.returns-in_err-count
returns-in_err-count c =
    let a = c.args in
    let out : c.from_residual.result ≡ Err c.in_err-count.field-0.0 = search rules in
    ap as_judged out
    ∙ list_faulty a.list.now a.plan.now a.begun.book c.in_err-count.field-0.0
    (rw (orders_begun a.list.now a.begun c.requires.0 c.requires.1) at c.in_err-count.ensures)

pub judge_plan-requires : goal.judge_plan-requires
judge_plan-requires c =
    let few = (are_at (goal.at.judge_plan-requires c).In_ok-count).3 in
    record {
      readies_len_bound = (simp length-take (omega (arith, few)), simp length-take (omega (arith, few)));
      chambers_le_most_chambers = chambers_most c.args.list.now c.args.begun c.requires.0 c.requires.1;
    }

pub returns : goal.returns
returns c =
    let a = c.args in
    c.judge_plan.ensures ∙ list_faultless a.list.now a.plan.now a.begun.book c.in_ok-count.count _ _ (are_at (goal.at.returns c).In_ok-count)
