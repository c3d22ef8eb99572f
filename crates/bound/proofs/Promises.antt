-- What this room promises, of orders and loads given as numbers. Each is a line over a law of this folder. Assumes nothing.
use Prim.Native.Nat.{ℕ, ◌+◌, ◌-◌, ◌*◌, ◌^◌, ◌≤◌}
use mathlib.Core.Path.{◌≡◌}
use mathlib.Core.List.{List, ◌++◌}
use mathlib.Core.Logic.{◌↔◌}
use lib.ListN.{length, replicate}
use Rattle.book.specs.History.{OrderHours}
use Rattle.bound.specs.Plans.{Lengths, Keeps, InTurn, PlanLoad, GoodPlan}
use Rattle.bound.specs.Keeping.{kept_of}
use Rattle.bound.proofs.Keeping as keeping
use Rattle.bound.proofs.Limit as bound
use Rattle.bound.proofs.Reached as reaching
use Rattle.bound.proofs.Reached.{three_hours, two_orders, both_loads}

-- the rule keeps one number of orders, which is the computed one
pub kept_exactly :
    (lengths : Lengths) (free : List ℕ) (orders : List OrderHours) (count : ℕ)
    → Keeps lengths free orders count ↔ (count ≡ kept_of lengths free orders)
kept_exactly = keeping.kept_exactly

-- 3b: with m chambers, A orders kept by the rule and any good plan, for every run and hold and every list in turn
pub limit :
    (m A : ℕ) (lengths : Lengths) (orders : List OrderHours) (loads : List PlanLoad) → InTurn 0 orders → GoodPlan m lengths orders loads
    → Keeps lengths (replicate m 0) orders A → ((m + 1) ^ m - m ^ m) * length loads ≤ (m + 1) ^ m * A
limit = bound.limit

-- two chambers: at least 5 of 9
pub limit_of_two :
    (A : ℕ) (lengths : Lengths) (orders : List OrderHours) (loads : List PlanLoad) → InTurn 0 orders → GoodPlan 2 lengths orders loads
    → Keeps lengths (replicate 2 0) orders A → 5 * length loads ≤ 9 * A
limit_of_two = bound.limit 2

-- it holds after every order, not only at the end: for the first orders of a list, and every good plan for them
pub limit_at_front :
    (m A : ℕ) (lengths : Lengths) (front rest : List OrderHours) (loads : List PlanLoad) → InTurn 0 (front ++ rest)
    → GoodPlan m lengths front loads → Keeps lengths (replicate m 0) front A → ((m + 1) ^ m - m ^ m) * length loads ≤ (m + 1) ^ m * A
limit_at_front m A lengths front rest loads turn = bound.limit m A lengths front loads (bound.front_in_turn 0 front rest turn)

-- it is reached with one chamber: of two orders in turn the rule keeps one, and a good plan has both
pub reached_in_turn : InTurn 0 two_orders
reached_in_turn = reaching.reached_in_turn

pub reached_plan : GoodPlan 1 three_hours two_orders both_loads
reached_plan = reaching.reached_plan

pub reached_kept : Keeps three_hours (replicate 1 0) two_orders 1
reached_kept = reaching.reached_kept

pub reached : (A : ℕ) → Keeps three_hours (replicate 1 0) two_orders A → 1 * length both_loads ≡ 2 * A
reached = reaching.reached
