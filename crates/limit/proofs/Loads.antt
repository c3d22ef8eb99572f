-- The loads of plan lines with no fault are a good plan. Assumes nothing.
use Prim.Native.Nat.{ℕ, ◌+◌, ◌-◌, ◌≤◌}
use mathlib.Core.Path.{◌≡◌}
use mathlib.Core.List.{List, [], ◌∷◌, ◌++◌, map}
use lib.ListN.{length}
use native.Mathlib.Omega.{arith}
use Rattle.ground.specs.Limits.{first_order_line}
use Rattle.lines.specs.declared.Heading.{Heading}
use Rattle.lines.specs.declared.Order.{Order}
use Rattle.lines.specs.declared.Load.{Load}
use Rattle.lines.specs.Meaning.{LoadReads}
use Rattle.lines.proofs.Promises.{load_reads, load_ranges}
use Rattle.orders.specs.Meaning.{EachReads, none_left, one_more, Each, EachTwo}
use Rattle.plans.specs.Meaning.{InTime, hold_of, Apart, GoodLoads}
use Rattle.orders.proofs.Each.{each_first, each_rest, two_first, two_rest}
use Rattle.bound.specs.Plans.{KeepsTo, Separate, SeparateFrom, GoodPlan}
use Rattle.limit.proofs.Numbers.{as_order, as_plan_load, lengths_of}
use Rattle.orders.specs.Answers.{book_for}

-- a load that is in time for an order keeps to it, wherever the order stands
keeps_at_its_place :
    (run : ℕ) (front : List Order) (order : Order) (rest : List Order) (start : ℕ) → order.ready ≤ start → start + run ≤ order.due
    → KeepsTo run (map as_order (front ++ order ∷ rest)) (length front) start
unfolding KeepsTo
keeps_at_its_place run [] order rest start not_early not_late = (not_early, not_late)
keeps_at_its_place run (first ∷ front) order rest start not_early not_late = keeps_at_its_place run front order rest start not_early not_late

module _ (heading : Heading) (orders : List Order) where
  -- a load in time keeps to the order that it names
  keeps_to : (load : Load) → InTime heading.run orders load → KeepsTo heading.run (map as_order orders) (as_plan_load load).order load.start
  keeps_to load in_time =
      let named = in_time.named in
      let place : load.order - first_order_line ≡ length named.front = omega arith in
      rw (named.among, place) (keeps_at_its_place heading.run named.front in_time.order named.rest load.start in_time.not_early in_time.not_late)

  -- two loads that are apart by their lines are separate by their orders' places
  both_separate :
      (one other : Load) → InTime heading.run orders one → InTime heading.run orders other → Apart (hold_of heading) one other
      → Separate (lengths_of (book_for heading)) (as_plan_load one) (as_plan_load other)
  both_separate one other in_time also apart = record {
    orders_differ = λ same. apart.orders_differ (omega arith);
    never_overlap = λ together one_first other_first.
        apart.never_overlap (record { together = together; one_first = one_first; other_first = other_first });
  }

  -- so is one that is apart from each of several
  separate_from :
      (one : Load) (loads : List Load) → InTime heading.run orders one → Each (InTime heading.run orders) loads → Each (Apart (hold_of heading) one) loads
      → SeparateFrom (lengths_of (book_for heading)) (as_plan_load one) (map as_plan_load loads)
  unfolding SeparateFrom
  separate_from one [] in_time each apart = tt
  separate_from one (other ∷ loads) in_time each apart =
      (both_separate one other in_time (each_first each) (each_first apart), separate_from one loads in_time (each_rest each) (each_rest apart))

  -- loads that read, are in time and are apart are a good plan for the orders of the list
  reads_good :
      {lines : List (List ℕ)} {loads : List Load} → EachReads (LoadReads heading.chambers) lines loads
      → Each (InTime heading.run orders) loads → EachTwo (Apart (hold_of heading)) loads
      → GoodPlan heading.chambers (lengths_of (book_for heading)) (map as_order orders) (map as_plan_load loads)
  unfolding GoodPlan
  reads_good none_left in_time apart = tt
  reads_good {loads = load ∷ loads} (one_more {line = line} read others) in_time apart =
      let first = each_first in_time in
      let ranges = load_ranges heading.chambers line load ((load_reads heading.chambers line load).1 read) in (
        record { keeps = keeps_to load first; numbered = (ranges.1, ranges.2) },
        separate_from load loads first (each_rest in_time) (two_first apart),
        reads_good others (each_rest in_time) (two_rest apart),
      )

  -- so are those of plan lines with no fault
  pub good_plan :
      (lines : List (List ℕ)) (loads : List Load) → GoodLoads heading orders lines loads
      → GoodPlan heading.chambers (lengths_of (book_for heading)) (map as_order orders) (map as_plan_load loads)
  good_plan lines loads good = reads_good good.read good.in_time good.apart
