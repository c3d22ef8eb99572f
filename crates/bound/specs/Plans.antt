-- What the limit speaks of: how many orders the rule keeps, and the plans that its count is held against. Orders and loads are given as
-- numbers, not as text. Assumes nothing.
use Rattle.std.specs.Prelude.{ℕ, zero, suc, ◌+◌, ◌-◌, ◌≤◌, ◌<◌, ◌≡◌, List, [], ◌∷◌, length, set}
use Rattle.choice.specs.Meaning.{BestFitting, NoneFits}
use Rattle.book.specs.History.{OrderHours}

-- how long a run lasts, and how long a load holds its chamber
pub record Lengths : Type 0 where
  pub run : ℕ
  pub hold : ℕ

-- the rule keeps so many of several orders, answered one after another, where the chambers have these free hours: an order with a yes
-- counts one, and the chamber that fits it best is then free when the load no longer holds it; one that no chamber fits has a no, counts
-- none and changes nothing
pub data Keeps (lengths : Lengths) : List ℕ → List OrderHours → ℕ → Type 0 where
  none_left : {free : List ℕ} → Keeps lengths free [] 0
  with_yes :
      {free : List ℕ} {orders : List OrderHours} {count : ℕ} (order : OrderHours) (chamber start : ℕ)
      → BestFitting order.ready order.due lengths.run free (length free) chamber start
      → Keeps lengths (set free (chamber - 1) (start + lengths.hold)) orders count → Keeps lengths free (order ∷ orders) (suc count)
  with_no :
      {free : List ℕ} {orders : List OrderHours} {count : ℕ} (order : OrderHours)
      → NoneFits order.ready order.due lengths.run free (length free) → Keeps lengths free orders count
      → Keeps lengths free (order ∷ orders) count

-- ready hours never fall, and none is below the clock
unfoldable pub InTurn : ℕ → List OrderHours → Type 0
InTurn clock [] = Unit {0}
InTurn clock (order ∷ orders) = (clock ≤ order.ready) × InTurn order.ready orders

-- a load of a plan: the place of its order in the list, from 0 on, its chamber, and the hour it starts
pub record PlanLoad : Type 0 where
  pub order : ℕ
  pub chamber : ℕ
  pub start : ℕ

-- there is an order at a place, and a load of it that starts at an hour starts at ready or later and ends at due or earlier
unfoldable pub KeepsTo : ℕ → List OrderHours → ℕ → ℕ → Type 0
KeepsTo run [] place start = ⊥
KeepsTo run (order ∷ orders) zero start = (order.ready ≤ start) × (start + run ≤ order.due)
KeepsTo run (order ∷ orders) (suc place) start = KeepsTo run orders place start

-- a good load for a list of orders and a number of chambers: it keeps to its order, and it is in one of the chambers
pub record GoodLoad (chambers run : ℕ) (orders : List OrderHours) (load : PlanLoad) : Type 0 where
  pub keeps : KeepsTo run orders load.order load.start
  pub numbered : (1 ≤ load.chamber) × (load.chamber ≤ chambers)

-- two loads are of different orders, and in one chamber they do not overlap: it is never so that each starts before the other ends
pub record Separate (lengths : Lengths) (one other : PlanLoad) : Type 0 where
  pub orders_differ : one.order ≡ other.order → ⊥
  pub never_overlap :
      one.chamber ≡ other.chamber → one.start < other.start + lengths.hold → other.start < one.start + lengths.hold → ⊥

-- a load is separate from each of several
unfoldable pub SeparateFrom : Lengths → PlanLoad → List PlanLoad → Type 0
SeparateFrom lengths load [] = Unit {0}
SeparateFrom lengths load (other ∷ loads) = Separate lengths load other × SeparateFrom lengths load loads

-- a good plan: each load is good, and separate from every other
unfoldable pub GoodPlan : ℕ → Lengths → List OrderHours → List PlanLoad → Type 0
GoodPlan chambers lengths orders [] = Unit {0}
GoodPlan chambers lengths orders (load ∷ loads) =
    GoodLoad chambers lengths.run orders load × SeparateFrom lengths load loads × GoodPlan chambers lengths orders loads
