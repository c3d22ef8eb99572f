-- At most one load of a good plan for each chamber starts within a window as long as a load holds its chamber. Assumes nothing.
use Prim.Native.Nat.{ℕ, zero, suc, ◌+◌, ◌≤◌, ◌<◌}
use mathlib.Core.Path.{◌≡◌, refl}
use mathlib.Core.Bool.{cond}
use mathlib.Core.List.{List, [], ◌∷◌}
use lib.Dec.{leb, eqb}
use native.Mathlib.Omega.{arith}
use borrow.Author.Tests.{leb-true, leb-false, eqb-true, eqb-false, le-leb, lt-leb, ne_eqb}
use Rattle.ground.proofs.Tests.{by_test}
use Rattle.book.specs.History.{OrderHours}
use Rattle.bound.specs.Plans.{Lengths, PlanLoad, SeparateFrom, GoodPlan}
use Rattle.bound.proofs.Counting.{window, window_most, window_from, window_until}

-- a number for each load, together
unfoldable pub sum : (PlanLoad → ℕ) → List PlanLoad → ℕ
sum each [] = 0
sum each (load ∷ loads) = each load + sum each loads

module _ (start : ℕ) (lengths : Lengths) where
  -- 1 where a load starts in the window
  abbrev pub in_window : PlanLoad → ℕ
  in_window load = window start lengths.hold load.start

  -- the same of the loads of one chamber
  unfoldable in_chamber : ℕ → PlanLoad → ℕ
  in_chamber chamber load = cond (eqb load.chamber chamber) (in_window load) 0

  -- the same of the loads of the chambers up to one
  unfoldable in_chambers : ℕ → PlanLoad → ℕ
  in_chambers chamber load = cond (leb load.chamber chamber) (in_window load) 0

  -- the chambers up to the next are those up to this one, and the next
  next_chamber : (chamber : ℕ) (load : PlanLoad) → in_chambers (suc chamber) load ≡ in_chambers chamber load + in_chamber (suc chamber) load
  unfolding in_chamber in_chambers
  next_chamber chamber load =
      by_test (leb load.chamber chamber)
      (λ test.
      let low : load.chamber ≤ chamber = leb-true load.chamber chamber test in
      rw (test, le-leb load.chamber (suc chamber) (omega arith), ne_eqb load.chamber (suc chamber) (λ same. omega arith)) (omega arith))
      (λ test.
      let high : chamber < load.chamber = leb-false load.chamber chamber test in
      by_test (eqb load.chamber (suc chamber))
      (λ next.
      let same : load.chamber ≡ suc chamber = eqb-true load.chamber (suc chamber) next in
      rw (test, next, le-leb load.chamber (suc chamber) (omega arith)) (omega arith))
      (λ next.
      let above : suc chamber < load.chamber = higher load.chamber chamber high (eqb-false load.chamber (suc chamber) next) in
      rw (test, next, lt-leb load.chamber (suc chamber) above) refl))
    where
      higher : (number chamber : ℕ) → chamber < number → (number ≡ suc chamber → ⊥) → suc chamber < number
      higher number chamber high differ =
          by_test (leb number (suc chamber))
          (λ test. let low : number ≤ suc chamber = leb-true number (suc chamber) test in absurd (differ (omega arith)))
          (λ test. leb-false number (suc chamber) test)

  -- beside a load that starts in the window no other of its chamber does
  alone :
      (chamber : ℕ) (load : PlanLoad) (loads : List PlanLoad) → load.chamber ≡ chamber → 1 ≤ in_window load → SeparateFrom lengths load loads
      → sum (in_chamber chamber) loads ≡ 0
  unfolding sum SeparateFrom in_chamber
  alone chamber load [] here inside separate = refl
  alone chamber load (other ∷ loads) here inside separate =
      let rest : sum (in_chamber chamber) loads ≡ 0 = alone chamber load loads here inside separate.1 in
      by_test (eqb other.chamber chamber)
      (λ test.
      by_test (leb 1 (in_window other))
      (λ too.
      let its : other.chamber ≡ chamber = eqb-true other.chamber chamber test in
      let begun = window_from start lengths.hold load.start inside in
      let other_begun = window_from start lengths.hold other.start (leb-true 1 (in_window other) too) in
      let unfinished = window_until start lengths.hold load.start inside in
      let other_unfinished = window_until start lengths.hold other.start (leb-true 1 (in_window other) too) in
      absurd (separate.0.never_overlap (omega arith) (omega arith) (omega arith)))
      (λ never. let none = leb-false 1 (in_window other) never in rw test (omega arith)))
      (λ test. rw test (omega arith))

  -- at most one load of a chamber starts in the window
  one_a_chamber :
      (chamber chambers : ℕ) (orders : List OrderHours) (loads : List PlanLoad) → GoodPlan chambers lengths orders loads
      → sum (in_chamber chamber) loads ≤ 1
  unfolding sum GoodPlan in_chamber
  one_a_chamber chamber chambers orders [] good = omega arith
  one_a_chamber chamber chambers orders (load ∷ loads) good =
      let rest : sum (in_chamber chamber) loads ≤ 1 = one_a_chamber chamber chambers orders loads good.2 in
      by_test (eqb load.chamber chamber)
      (λ test.
      by_test (leb 1 (in_window load))
      (λ inside.
      let none = alone chamber load loads (eqb-true load.chamber chamber test) (leb-true 1 (in_window load) inside) good.1 in
      let most = window_most start lengths.hold load.start in
      rw test (omega arith))
      (λ never. let none = leb-false 1 (in_window load) never in rw test (omega arith)))
      (λ test. rw test (omega arith))

  -- no chamber has number 0
  none_in_none :
      (chambers : ℕ) (orders : List OrderHours) (loads : List PlanLoad) → GoodPlan chambers lengths orders loads → sum (in_chambers 0) loads ≡ 0
  unfolding sum GoodPlan in_chambers
  none_in_none chambers orders [] good = refl
  none_in_none chambers orders (load ∷ loads) good =
      rw (lt-leb load.chamber 0 (omega (arith, good.0.numbered)), none_in_none chambers orders loads good.2) refl

  -- a chamber more
  sum_next : (chamber : ℕ) (loads : List PlanLoad) → sum (in_chambers (suc chamber)) loads ≡ sum (in_chambers chamber) loads + sum (in_chamber (suc chamber)) loads
  unfolding sum
  sum_next chamber [] = refl
  sum_next chamber (load ∷ loads) = rw (next_chamber chamber load, sum_next chamber loads) (omega arith)

  -- at most as many as there are chambers up to one
  some_chambers :
      (chamber chambers : ℕ) (orders : List OrderHours) (loads : List PlanLoad) → GoodPlan chambers lengths orders loads
      → sum (in_chambers chamber) loads ≤ chamber
  some_chambers zero chambers orders loads good = omega (arith, none_in_none chambers orders loads good)
  some_chambers (suc chamber) chambers orders loads good =
      omega (
        arith,
        some_chambers chamber chambers orders loads good,
        sum_next chamber loads,
        one_a_chamber (suc chamber) chambers orders loads good,
      )

  -- every load is in one of the chambers
  all_chambers :
      (chambers : ℕ) (orders : List OrderHours) (loads : List PlanLoad) → GoodPlan chambers lengths orders loads
      → sum (in_chambers chambers) loads ≡ sum in_window loads
  unfolding sum GoodPlan in_chambers
  all_chambers chambers orders [] good = refl
  all_chambers chambers orders (load ∷ loads) good =
      rw (le-leb load.chamber chambers good.0.numbered.1, all_chambers chambers orders loads good.2) refl

  -- at most as many loads as there are chambers start in the window
  pub few_in_window :
      (chambers : ℕ) (orders : List OrderHours) (loads : List PlanLoad) → GoodPlan chambers lengths orders loads → sum in_window loads ≤ chambers
  few_in_window chambers orders loads good =
      omega (arith, all_chambers chambers orders loads good, some_chambers chambers chambers orders loads good)
