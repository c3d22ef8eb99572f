-- With one chamber the limit is reached: of two orders the rule keeps one, and a good plan has both. So the definitions are no empty
-- ones, and for one chamber no greater part can be promised. Assumes nothing.
use Prim.Native.Nat.{ℕ, ◌*◌}
use mathlib.Core.Path.{◌≡◌, refl}
use mathlib.Core.List.{List, [], ◌∷◌}
use lib.ListN.{length, replicate}
use native.Mathlib.Omega.{arith}
use Rattle.choice.specs.BestFit.{offer, best_fit}
use Rattle.book.specs.History.{OrderHours}
use Rattle.bound.specs.Plans.{Lengths, Keeps, InTurn, PlanLoad, KeepsTo, SeparateFrom, GoodPlan}
use Rattle.bound.specs.Keeping.{kept_of}
use Rattle.bound.proofs.Keeping.{kept_exactly}

-- runs of three hours
abbrev pub three_hours : Lengths
three_hours = record { run = 300; hold = 300 }

-- an order with time, and a later one with none
abbrev pub two_orders : List OrderHours
two_orders = record { ready = 0; due = 700 } ∷ record { ready = 100; due = 400 } ∷ []

-- the second runs at once, and the first after it
abbrev pub both_loads : List PlanLoad
both_loads = record { order = 0; chamber = 1; start = 400 } ∷ record { order = 1; chamber = 1; start = 100 } ∷ []

-- ready hours never fall
pub reached_in_turn : InTurn 0 two_orders
unfolding InTurn
reached_in_turn = (omega arith, (omega arith, tt))

-- the plan is good
pub reached_plan : GoodPlan 1 three_hours two_orders both_loads
unfolding GoodPlan KeepsTo SeparateFrom
reached_plan = (
  record { keeps = (omega arith, omega arith); numbered = (omega arith, omega arith) },
  (record { orders_differ = λ same. omega arith; never_overlap = λ together one other. omega arith }, tt),
  (record { keeps = (omega arith, omega arith); numbered = (omega arith, omega arith) }, tt, tt),
)

-- the rule keeps one of the two orders
pub reached_kept : Keeps three_hours (replicate 1 0) two_orders 1
unfolding kept_of best_fit offer
reached_kept = (kept_exactly three_hours (replicate 1 0) two_orders 1).1 refl

-- and no other number of them, which is half of the plan
pub reached : (A : ℕ) → Keeps three_hours (replicate 1 0) two_orders A → 1 * length both_loads ≡ 2 * A
unfolding kept_of best_fit offer
reached A keeps = rw ((kept_exactly three_hours (replicate 1 0) two_orders A).0 keeps) refl
