-- A plan after its list's first order is answered: the load of that order left out, and the others counted from the next order on. It is
-- a good plan for the other orders. Assumes nothing.
use Prim.Native.Nat.{ℕ, zero, suc}
use mathlib.Core.Path.{ap}
use mathlib.Core.List.{List, [], ◌∷◌}
use Rattle.book.specs.History.{OrderHours}
use Rattle.bound.specs.Plans.{Lengths, PlanLoad, KeepsTo, GoodLoad, Separate, SeparateFrom, GoodPlan}

-- a load by its numbers
abbrev pub load_at : ℕ → ℕ → ℕ → PlanLoad
load_at place chamber start = record { order = place; chamber = chamber; start = start }

-- a load before others, moved up by one order; one of the first order falls out
abbrev pub moved : ℕ → ℕ → ℕ → List PlanLoad → List PlanLoad
moved zero chamber start loads = loads
moved (suc place) chamber start loads = load_at place chamber start ∷ loads

-- the loads of the later orders
unfoldable pub later : List PlanLoad → List PlanLoad
later [] = []
later (load ∷ loads) = moved load.order load.chamber load.start (later loads)

-- two loads of later orders stay separate
separate_moved :
    (lengths : Lengths) (place chamber start other_place other_chamber other_start : ℕ) (loads : List PlanLoad)
    → Separate lengths (load_at (suc place) chamber start) (load_at other_place other_chamber other_start)
    → SeparateFrom lengths (load_at place chamber start) loads
    → SeparateFrom lengths (load_at place chamber start) (moved other_place other_chamber other_start loads)
unfolding SeparateFrom
separate_moved lengths place chamber start zero other_chamber other_start loads separate rest = rest
separate_moved lengths place chamber start (suc other_place) other_chamber other_start loads separate rest = (
  record { orders_differ = λ same. separate.orders_differ (ap suc same); never_overlap = separate.never_overlap },
  rest,
)

-- a load stays separate from those of later orders
separate_later :
    (lengths : Lengths) (place chamber start : ℕ) (loads : List PlanLoad) → SeparateFrom lengths (load_at (suc place) chamber start) loads
    → SeparateFrom lengths (load_at place chamber start) (later loads)
unfolding SeparateFrom later
separate_later lengths place chamber start [] separate = tt
separate_later lengths place chamber start (other ∷ loads) separate =
    separate_moved lengths place chamber start other.order other.chamber other.start (later loads) separate.0
    (separate_later lengths place chamber start loads separate.1)

module _ (chambers : ℕ) (lengths : Lengths) (order : OrderHours) (orders : List OrderHours) where
  -- a load stays good
  good_moved :
      (place chamber start : ℕ) (loads : List PlanLoad) → GoodLoad chambers lengths.run (order ∷ orders) (load_at place chamber start)
      → SeparateFrom lengths (load_at place chamber start) loads → GoodPlan chambers lengths orders (later loads)
      → GoodPlan chambers lengths orders (moved place chamber start (later loads))
  unfolding GoodPlan KeepsTo
  good_moved zero chamber start loads good separate rest = rest
  good_moved (suc place) chamber start loads good separate rest = (
    record { keeps = good.keeps; numbered = good.numbered },
    separate_later lengths place chamber start loads separate,
    rest,
  )

  -- the plan stays good
  pub good_later : (loads : List PlanLoad) → GoodPlan chambers lengths (order ∷ orders) loads → GoodPlan chambers lengths orders (later loads)
  unfolding GoodPlan later
  good_later [] good = tt
  good_later (load ∷ loads) good =
      good_moved load.order load.chamber load.start loads good.0 good.1 (good_later loads good.2)
