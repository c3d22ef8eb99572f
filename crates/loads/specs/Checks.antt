-- What is asked of a load of a plan: 11 to 14 of its order, and that it does not overlap another load. Assumes nothing.
use Rattle.std.specs.Prelude.{ℕ, suc, ◌+◌, ◌-◌, Bool, ◌&&◌, List, length, get_or, leb, ltb, eqb}
use Rattle.ground.specs.Refusal.{Read, check, ◌>>◌}
use Rattle.ground.specs.Range.{within}
use Rattle.ground.specs.Limits.{first_order_line}
use Rattle.lines.specs.declared.Order.{Order}
use Rattle.lines.specs.declared.Load.{Load}

-- the place that a load names among the orders of a list: "the first line is 1, so orders start at 2"
abbrev pub place_named : Load → ℕ
place_named load = load.order - first_order_line

-- the order there; zeros past the last
abbrev pub order_named : List Order → Load → Order
order_named orders load = get_or orders (place_named load) (record { grower = 0; ready = 0; due = 0 })

-- what is asked of a load, 11 to 14, for a list with so many orders, where it names this one: "a plan line names no order line of the list
-- (0, 1, or past the end)", "the same order stands on an earlier plan line", unless the load is alone with its order, "start is before
-- ready", "start plus run is after due"
unfoldable pub load_asked : ℕ → ℕ → Order → Bool → Load → Read (Unit {0})
load_asked run count order alone load = do
  check (within first_order_line (suc count) load.order) 11
  check alone 12
  check (leb order.ready load.start) 13
  check (leb (load.start + run) order.due) 14

-- an order of these hours, whoever its grower
abbrev pub order_from : ℕ → ℕ → Order
order_from ready due = record { grower = 0; ready = ready; due = due }

-- the same for orders of which the hours are kept, and for each the plan line on which it stands, 0 for none
abbrev pub load_marked : ℕ → List ℕ → List ℕ → List ℕ → Load → Read (Unit {0})
load_marked run readies dues lines load =
    load_asked run (length readies) (order_from (get_or readies (place_named load) 0) (get_or dues (place_named load) 0))
    (eqb (get_or lines (place_named load) 0) 0) load

-- "Two loads overlap when each starts before the other ends"; here in one chamber, which each takes for the hold
abbrev pub overlap : ℕ → Load → Load → Bool
overlap hold one other =
    eqb one.chamber other.chamber && (ltb one.start (other.start + hold) && ltb other.start (one.start + hold))

-- a load in this chamber from this hour on, whichever its order
abbrev pub load_from : ℕ → ℕ → Load
load_from chamber start = record { order = 0; chamber = chamber; start = start }
