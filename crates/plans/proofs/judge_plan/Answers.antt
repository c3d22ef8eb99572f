-- `judge_plan` notes one plan line after another: what is left gives what the whole gives. The search for an overlap goes back through the
-- loads of a chamber:
-- what is left of them overlaps where all of them do.
use Prim.Native.Nat.{◌≤◌, ◌<◌}
use mathlib.Core.Path.{◌≡◌, refl, sym, ap, ◌∙◌}
use lib.ListN.{length}
use native.Mathlib.Omega.{arith}
use Rattle.std.proofs.Common.{Ok, Err, rules}
use Rattle.ground.specs.Refusal.{wrong, refusal_number, as_read}
use Rattle.ground.specs.Limits.{most_chambers, most_orders}
use Rattle.texts.proofs.WholeText.{moves_on, ends_inside}
use Rattle.ground.proofs.Buffer.{zeros_at}
use Rattle.std.proofs.Common.{true}
use Rattle.plans.specs.Judging.{as_judged}
use Rattle.plans.specs.Meaning.{fault_of}
use Rattle.plans.specs.Steps.{line_at_place, starts_of, befores_of, lasts_of}
use Rattle.plans.proofs.Faults.{made_of}
use Rattle.plans.proofs.Planning.{noted_line, Noting, load_chamber, reached_room, order_room, reached_top, reached_end, reached_refused, reached_apart}
use Rattle.plans.proofs.Passing.{none_left, search_top, passed_next, there_room, before_falls, search_on, passed_overlap}
use Rattle.plans.proofs.judge_plan.Goals as goal
use Rattle.plans.proofs.judge_plan.Goals.{After-line_end-end, In_ok-load, In-Some, After-place_of-order, else-plan-test, then-plan-test+in_ok-load+in-Some+then-overlap}

-- the line at the place is a part of the plan
inside : (c : goal.After-line_end-end) → (c.plan.at < c.line_end-end.result) × (c.line_end-end.result ≤ length c.args.plan.now)
inside c = rw c.line_end-end.ensures (moves_on _ _ c.plan-test.true, ends_inside _ _ c.plan-test.true)

-- what was noted is the line there, as a load
noting :
    (c : goal.In_ok-load)
    → let a = c.args in
    let p = c.plan in
    Noting a.plan.now a.book a.readies.now a.dues.now p.lines (starts_of p.passed) (befores_of p.passed) (lasts_of p.lasts) p.line p.at c.in_ok-load.load
noting c =
    record {
      reached = c.plan.invariant;
      inside = c.plan-test.true;
      paired = c.requires.readies_len_bound.1;
      most = c.requires.readies_len_bound.0;
      chambers = c.requires.chambers_le_most_chambers;
      noted = noted_line _ _ _ _ _ _ _ _ _ c.line_end-end.ensures c.note_load.ensures ∙ (let same : c.note_load.result ≡ Ok c.in_ok-load.load = search rules in ap as_read same);
    }

-- there is room for the load, and for the line of its order
room_at : (c : goal.After-place_of-order) → (1 ≤ c.plan.line) × (c.plan.line ≤ most_orders) × (c.place_of-order.result < most_orders)
room_at c =
    let n = noting (goal.at.After-place_of-order c).In_ok-load in (
      omega (arith, c.plan.invariant.counted),
      omega (arith, n.most, reached_room n),
      omega (arith, c.place_of-order.ensures, order_room n),
    )

pub plan-init : goal.plan-init
plan-init c =
    let a = c.args in
    reached_top a.plan.now a.book a.readies.now a.dues.now _ _ _ _ (refl, refl, refl, refl) (zeros_at most_orders) (zeros_at most_chambers)

pub slice_bounds-note_load-count : goal.slice_bounds-note_load-count
slice_bounds-note_load-count c = omega (arith, (inside (goal.at.slice_bounds-note_load-count c).After-line_end-end).0)

pub slice_bounds-note_load-start : goal.slice_bounds-note_load-start
slice_bounds-note_load-start c = omega (arith, (inside (goal.at.slice_bounds-note_load-start c).After-line_end-end).0)

pub slice_bounds-note_load-end : goal.slice_bounds-note_load-end
slice_bounds-note_load-end c = omega (arith, (inside (goal.at.slice_bounds-note_load-end c).After-line_end-end).1)

pub returns-in_err-load : goal.returns-in_err-load
returns-in_err-load c =
    let made = made_of _ _ c.in_err-load.field-0.0 _ c.map_err.ensures.cases c.in_err-load.was in
    let refused : c.note_load.result ≡ Err made.0 = made.1 in
    let fault : c.in_err-load.field-0.0 ≡ fault_of (refusal_number made.0) true c.plan.line c.plan.at c.line_end-end.result = search rules in
    let out : c.from_residual.result ≡ Err c.in_err-load.field-0.0 = search rules in
    ap as_judged out
    ∙ ap wrong fault
    ∙ sym
    (reached_refused c.plan.invariant c.requires.readies_len_bound.1 c.plan-test.true (refusal_number made.0) c.line_end-end.result c.line_end-end.ensures
    (noted_line _ _ _ _ _ _ _ _ _ c.line_end-end.ensures c.note_load.ensures ∙ ap as_read refused))

pub overflow_sub-chamber : goal.overflow_sub-chamber
overflow_sub-chamber c = (load_chamber (noting (goal.at.overflow_sub-chamber c).In_ok-load)).0

pub bounds-lasts-chamber : goal.bounds-lasts-chamber
bounds-lasts-chamber c = let there = load_chamber (noting (goal.at.bounds-lasts-chamber c).In_ok-load) in omega (arith, there.0, there.1)

-- the line that the search has come to is one of those seen
there_at : (c : goal.In-Some) → c.in-Some.there < most_orders
there_at c =
    there_room c.plan.passed c.plan.lasts (noting (goal.at.In-Some c).In_ok-load) _ c.loop-earlier.earlier c.in-Some.there c.hold-hold.ensures c.in-Some.is c.loop-earlier.invariant

pub bounds-passed-there : goal.bounds-passed-there
bounds-passed-there c = there_at (goal.at.bounds-passed-there c).In-Some

pub offset_bounds-passed-there : goal.offset_bounds-passed-there
offset_bounds-passed-there c = omega (arith, there_at (goal.at.offset_bounds-passed-there c).In-Some)

pub loop-earlier-init : goal.loop-earlier-init
loop-earlier-init c = search_top c.plan.passed c.plan.lasts c.hold-hold.result c.in_ok-load.load

pub loop-earlier-smaller : goal.loop-earlier-smaller
loop-earlier-smaller c =
    before_falls c.plan.passed c.plan.lasts (noting (goal.at.loop-earlier-smaller c).In_ok-load) _ c.loop-earlier.earlier c.in-Some.there c.hold-hold.ensures c.in-Some.is c.loop-earlier.invariant

pub loop-earlier-preserved : goal.loop-earlier-preserved
loop-earlier-preserved c =
    search_on c.plan.passed c.plan.lasts (noting (goal.at.loop-earlier-preserved c).In_ok-load) _ c.loop-earlier.earlier c.in-Some.there c.hold-hold.ensures c.in-Some.is c.loop-earlier.invariant
    (sym c.overlap.ensures ∙ c.if-overlap.false)

pub bounds-lines-order : goal.bounds-lines-order
bounds-lines-order c = omega (arith, (room_at (goal.at.bounds-lines-order c).After-place_of-order).2)

pub bounds-passed-place : goal.bounds-passed-place
bounds-passed-place c = let room = room_at (goal.at.bounds-passed-place c).After-place_of-order in omega (arith, room.0, room.1)

pub bounds-lasts-chamber-in-plan : goal.bounds-lasts-chamber-in-plan
bounds-lasts-chamber-in-plan c = let there = load_chamber (noting (goal.at.bounds-lasts-chamber-in-plan c).In_ok-load) in omega (arith, there.0, there.1)

pub plan-smaller : goal.plan-smaller
plan-smaller c = omega (arith, (inside (goal.at.plan-smaller c).After-line_end-end).0)

pub plan-preserved : goal.plan-preserved
plan-preserved c =
    let n = noting (goal.at.plan-preserved c).In_ok-load in
    rw (c.line_end-end.ensures, c.place_of-order.ensures)
    (passed_next c.plan.passed c.plan.lasts n (reached_apart n _ (line_at_place c.loop-earlier.earlier) c.hold-hold.ensures c.loop-earlier.invariant (none_left c.loop-earlier.earlier c.in_default.not-Some)))

pub returns-then-plan-at : goal.returns-then-plan-at
returns-then-plan-at c = sym (reached_end c.plan.invariant (omega arith))

pub returns : goal.returns
returns c =
    elim c.plan-test.branch [
      | else-plan-test w ↦ absurd (omega (arith, w.plan-test.false, c.if-plan-at.false))
      | then-plan-test+in_ok-load+in-Some+then-overlap w ↦
          let pre = c.requires in
          let n : Noting c.args.plan.now c.args.book c.args.readies.now c.args.dues.now c.plan.lines (starts_of c.plan.passed) (befores_of c.plan.passed) (lasts_of c.plan.lasts) c.plan.line c.plan.at w.in_ok-load.load =
          record {
            reached = c.plan.invariant;
            inside = w.plan-test.true;
            paired = pre.readies_len_bound.1;
            most = pre.readies_len_bound.0;
            chambers = pre.chambers_le_most_chambers;
            noted =
                noted_line _ _ _ _ _ _ _ _ _ w.line_end-end.ensures w.note_load.ensures
                ∙ (let same : w.note_load.result ≡ Ok w.in_ok-load.load = search rules in ap as_read same);
          } in
          ap wrong c.fault_of.ensures
          ∙ rw (c.number-number.ensures, c.line_end.ensures)
          (sym
          (passed_overlap c.plan.passed c.plan.lasts n _ w.loop-earlier.earlier w.in-Some.there c.hold-hold.ensures w.in-Some.is w.loop-earlier.invariant (sym w.overlap.ensures ∙ w.if-overlap.true)))
    ]
