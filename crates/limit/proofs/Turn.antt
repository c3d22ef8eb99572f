-- Ready hours of which no later one is lower come in turn. Assumes nothing.
use Prim.Native.Nat.{ℕ, ◌≤◌}
use mathlib.Core.List.{List, [], ◌∷◌, map}
use native.Mathlib.Omega.{arith}
use Rattle.lines.specs.declared.Order.{Order}
use Rattle.orders.specs.Meaning.{Each, EachTwo}
use Rattle.orders.proofs.Each.{each_first, two_first, two_rest}
use Rattle.bound.specs.Plans.{InTurn}
use Rattle.limit.proofs.Numbers.{as_order}

-- where no ready hour is below the clock, they come in turn from the clock on
in_turn_from :
    (clock : ℕ) (orders : List Order) → Each (λ order. clock ≤ order.ready) orders → EachTwo (λ earlier later. earlier.ready ≤ later.ready) orders
    → InTurn clock (map as_order orders)
unfolding InTurn
in_turn_from clock [] each two = tt
in_turn_from clock (order ∷ orders) each two = (each_first each, in_turn_from order.ready orders (two_first two) (two_rest two))

-- and no hour is below 0
pub in_turn : (orders : List Order) → EachTwo (λ earlier later. earlier.ready ≤ later.ready) orders → InTurn 0 (map as_order orders)
in_turn orders = in_turn_from 0 orders (record { holds = λ front one rest e. omega arith })
