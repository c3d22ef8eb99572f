-- From above: all loads of a good plan together gain at most the last weight by one yes, and so at most that many times the number of
-- yeses by all answers. Assumes nothing.
use Prim.Native.Nat.{ℕ, zero, suc, ◌+◌, ◌-◌, ◌*◌, ◌≤◌}
use mathlib.Core.Path.{◌≡◌, refl}
use mathlib.Core.List.{List, [], ◌∷◌}
use lib.ListN.{length}
use lib.Dec.{leb}
use native.Mathlib.Nat.{mul-le-mul_left, mul-le-mul_right}
use native.Mathlib.Omega.{arith}
use borrow.Author.Tests.{leb-true, leb-false}
use Rattle.ground.proofs.Tests.{by_test}
use Rattle.choice.specs.BestFit.{chamber_at}
use Rattle.book.specs.History.{OrderHours}
use Rattle.std.specs.Prelude.{Option, Some, None}
use Rattle.choice.specs.declared.Offer.{Offer}
use Rattle.bound.specs.Plans.{Lengths, PlanLoad, KeepsTo, GoodLoad, SeparateFrom, GoodPlan}
use Rattle.bound.specs.Keeping.{choice_of, free_after, kept_by, kept_of}
use Rattle.bound.proofs.Steps.{weight, step, pre}
use Rattle.bound.proofs.Weights.{steps_grow, pre_grows, steps_and_rest}
use Rattle.bound.proofs.Counting.{above, unfit, window, unfit_above, window_from}
use Rattle.bound.proofs.OneOrder.{CountedYes, Counted, counted}
use Rattle.bound.proofs.Windows.{sum, in_window, few_in_window}
use Rattle.bound.proofs.Gains.{if_own, gain, total, same_length}
use Rattle.bound.proofs.Later.{load_at, moved, later, good_later}

-- what a load gains by one answer
abbrev gain_of : ℕ → ℕ → List ℕ → Option Offer → PlanLoad → ℕ
gain_of m hold free choice load = gain m hold free choice load.order load.start

-- what a load gains by all answers up to that to its own order
abbrev pub total_of : ℕ → Lengths → List ℕ → List OrderHours → PlanLoad → ℕ
total_of m lengths free orders load = total m lengths.run lengths.hold free orders load.order load.start

-- what a load gains by its own order
abbrev own_of : ℕ → List ℕ → PlanLoad → ℕ
own_of m free load = if_own load.order (pre m m - pre m (above load.start free))

-- how many chambers do not fit an order
abbrev unfit_of : ℕ → List ℕ → OrderHours → ℕ
unfit_of run free order = unfit order.ready order.due run free

-- a load of another order gains nothing by this one
not_own : (place rest : ℕ) → (place ≡ 0 → ⊥) → if_own place rest ≡ 0
not_own zero rest other = absurd (other refl)
not_own (suc place) rest other = refl

-- beside a load of the order no other gains by its own order
none_own :
    (m : ℕ) (lengths : Lengths) (free : List ℕ) (load : PlanLoad) (loads : List PlanLoad) → load.order ≡ 0 → SeparateFrom lengths load loads
    → sum (own_of m free) loads ≡ 0
unfolding sum SeparateFrom
none_own m lengths free load [] own separate = refl
none_own m lengths free load (other ∷ loads) own separate =
    rw (
      not_own other.order (pre m m - pre m (above other.start free)) (λ own_too. separate.0.orders_differ (omega arith)),
      none_own m lengths free load loads own separate.1,
    )
    refl

-- by a no all loads gain nothing
no_gains : (m hold : ℕ) (free : List ℕ) (loads : List PlanLoad) → sum (gain_of m hold free None) loads ≡ 0
unfolding sum
no_gains m hold free [] = refl
no_gains m hold free (load ∷ loads) = rw (no_gains m hold free loads) refl

module _ (m : ℕ) (lengths : Lengths) (free : List ℕ) (order : OrderHours) where
  -- the step of a window is at most that of the chambers that do not fit
  step_most :
      (chamber start hour : ℕ) → length free ≡ m → CountedYes order.ready order.due lengths.run 1 free chamber start
      → window start lengths.hold hour * step m (above hour free) ≤ window start lengths.hold hour * step m (unfit_of lengths.run free order)
  step_most chamber start hour sized known =
      by_test (leb 1 (window start lengths.hold hour))
      (λ inside.
      let from = window_from start lengths.hold hour (leb-true 1 (window start lengths.hold hour) inside) in
      let few = known.taken_unfit hour from in
      let up : above hour free + (unfit_of lengths.run free order - above hour free) ≡ unfit_of lengths.run free order = omega arith in
      let grown : step m (above hour free) ≤ step m (unfit_of lengths.run free order) =
      rw up at (steps_grow m (above hour free) (unfit_of lengths.run free order - above hour free) (omega (arith, known.some_fits)))
      in
      mul-le-mul_left (window start lengths.hold hour) grown)
      (λ outside.
      let none : window start lengths.hold hour ≡ 0 = omega (arith, leb-false 1 (window start lengths.hold hour) outside) in rw none (omega arith))

  -- the rest that the load of the order itself gains is at most what is left over the chambers that do not fit
  rest_most :
      (hour : ℕ) → order.ready ≤ hour → hour + lengths.run ≤ order.due
      → pre m m - pre m (above hour free) ≤ pre m m - pre m (unfit_of lengths.run free order)
  rest_most hour early late =
      let few = unfit_above order.ready order.due lengths.run hour free early late in
      let up : unfit_of lengths.run free order + (above hour free - unfit_of lengths.run free order) ≡ above hour free = omega arith in
      let grown : pre m (unfit_of lengths.run free order) ≤ pre m (above hour free) =
      rw up at (pre_grows m (unfit_of lengths.run free order) (above hour free - unfit_of lengths.run free order))
      in
      omega arith

  -- one load's part of the next law
  own_step :
      (orders : List OrderHours) (place chamber start : ℕ) (loads : List PlanLoad) → GoodLoad m lengths.run (order ∷ orders) (load_at place chamber start)
      → SeparateFrom lengths (load_at place chamber start) loads
      → sum (own_of m free) loads ≤ pre m m - pre m (unfit_of lengths.run free order)
      → own_of m free (load_at place chamber start) + sum (own_of m free) loads ≤ pre m m - pre m (unfit_of lengths.run free order)
  unfolding KeepsTo
  own_step orders zero chamber start loads good separate rest =
      rw (none_own m lengths free (load_at zero chamber start) loads refl separate) (omega (arith, rest_most start good.keeps.0 good.keeps.1))
  own_step orders (suc place) chamber start loads good separate rest = omega (arith, rest)

  -- one load at most gains by its own order
  own_most :
      (orders : List OrderHours) (loads : List PlanLoad) → GoodPlan m lengths (order ∷ orders) loads
      → sum (own_of m free) loads ≤ pre m m - pre m (unfit_of lengths.run free order)
  unfolding sum GoodPlan
  own_most orders [] good = omega arith
  own_most orders (load ∷ loads) good =
      own_step orders load.order load.chamber load.start loads good.0 good.1 (own_most orders loads good.2)

  -- by a yes all loads gain a step for each in its window, and what the load of the order itself gains
  gains_parted :
      (chamber start : ℕ) (loads : List PlanLoad) → length free ≡ m → CountedYes order.ready order.due lengths.run 1 free chamber start
      → sum (gain_of m lengths.hold free (chamber_at chamber start)) loads
      ≤ sum (in_window start lengths) loads * step m (unfit_of lengths.run free order) + sum (own_of m free) loads
  unfolding sum
  gains_parted chamber start [] sized known = omega arith
  gains_parted chamber start (load ∷ loads) sized known =
      let one = step_most chamber start load.start sized known in
      let rest = gains_parted chamber start loads sized known in
      omega arith

  -- by one answer all loads gain at most the last weight if it is a yes, and nothing if it is a no
  one_answer :
      (choice : Option Offer) (orders : List OrderHours) (loads : List PlanLoad) → length free ≡ m → Counted order.ready order.due lengths.run 1 free choice
      → GoodPlan m lengths (order ∷ orders) loads → sum (gain_of m lengths.hold free choice) loads ≤ weight m m * kept_by choice
  one_answer None orders loads sized known good = omega (arith, no_gains m lengths.hold free loads)
  one_answer (Some offer) orders loads sized known good =
      let parted = gains_parted offer.chamber offer.start loads sized known in
      let windows = mul-le-mul_right (step m (unfit_of lengths.run free order)) (few_in_window offer.start lengths m (order ∷ orders) loads good) in
      let own = own_most orders loads good in
      let together = steps_and_rest m (unfit_of lengths.run free order) (omega (arith, known.some_fits)) in
      omega arith

  -- one load's part of the next law
  total_step :
      (orders : List OrderHours) (place chamber start : ℕ) (loads : List PlanLoad)
      → total_of m lengths free (order ∷ orders) (load_at place chamber start)
      + sum (total_of m lengths (free_after lengths.hold free (choice_of lengths.run free order)) orders) loads
      ≡ gain_of m lengths.hold free (choice_of lengths.run free order) (load_at place chamber start)
      + sum (total_of m lengths (free_after lengths.hold free (choice_of lengths.run free order)) orders) (moved place chamber start loads)
  unfolding total sum
  total_step orders zero chamber start loads = refl
  total_step orders (suc place) chamber start loads = omega arith

  -- all gains are those by the first answer and those of the later loads
  totals_parted :
      (orders : List OrderHours) (loads : List PlanLoad)
      → sum (total_of m lengths free (order ∷ orders)) loads
      ≡ sum (gain_of m lengths.hold free (choice_of lengths.run free order)) loads
      + sum (total_of m lengths (free_after lengths.hold free (choice_of lengths.run free order)) orders) (later loads)
  unfolding sum later
  totals_parted orders [] = refl
  totals_parted orders (load ∷ loads) =
      let rest = totals_parted orders loads in
      let one = total_step orders load.order load.chamber load.start (later loads) in
      omega arith

-- by no orders they gain nothing
no_totals : (m : ℕ) (lengths : Lengths) (free : List ℕ) (loads : List PlanLoad) → sum (total_of m lengths free []) loads ≡ 0
unfolding sum total
no_totals m lengths free [] = refl
no_totals m lengths free (load ∷ loads) = rw (no_totals m lengths free loads) refl

-- by all answers the loads of a good plan gain at most the last weight for each yes
pub upper :
    (m : ℕ) (lengths : Lengths) (free : List ℕ) (orders : List OrderHours) (loads : List PlanLoad) → length free ≡ m → GoodPlan m lengths orders loads
    → sum (total_of m lengths free orders) loads ≤ weight m m * kept_of lengths free orders
unfolding kept_of
upper m lengths free [] loads sized good = omega (arith, no_totals m lengths free loads)
upper m lengths free (order ∷ orders) loads sized good =
    let choice : Option Offer = choice_of lengths.run free order in
    let parted = totals_parted m lengths free order orders loads in
    let now = one_answer m lengths free order choice orders loads sized (counted order.ready order.due lengths.run 1 free) good in
    let next =
    upper m lengths (free_after lengths.hold free choice) orders (later loads) (omega (arith, same_length lengths.hold free choice))
    (good_later m lengths order orders loads good)
    in
    omega arith
