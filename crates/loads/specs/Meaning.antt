-- What is wrong with a load by the order that it names. It is no way of checking; the checks are proved to go by it. Assumes nothing.
use Rattle.std.specs.Prelude.{ℕ, ◌+◌, ◌-◌, ◌≤◌, ◌<◌, ◌≡◌, List, length, get_or}
use Rattle.lines.specs.declared.Load.{Load}

-- a load names an order line of a list with so many orders: not "0, 1, or past the end"
pub record Listed (count : ℕ) (load : Load) : Type 0 where
  pub least : 2 ≤ load.order
  pub most : load.order ≤ 1 + count

-- the refusal of a load, 0 for none, for orders with these hours, of which each stands on this plan line, 0 for none: "a plan line names
-- no order line of the list", "the same order stands on an earlier plan line", "start is before ready", "start plus run is after due", in
-- this order
pub data Refused (run : ℕ) (readies dues lines : List ℕ) (load : Load) : ℕ → Type 0 where
  unlisted : (Listed (length readies) load → ⊥) → Refused run readies dues lines load 11
  again : Listed (length readies) load → (get_or lines (load.order - 2) 0 ≡ 0 → ⊥) → Refused run readies dues lines load 12
  early :
      Listed (length readies) load → get_or lines (load.order - 2) 0 ≡ 0 → load.start < get_or readies (load.order - 2) 0
      → Refused run readies dues lines load 13
  late :
      Listed (length readies) load → get_or lines (load.order - 2) 0 ≡ 0 → get_or readies (load.order - 2) 0 ≤ load.start
      → get_or dues (load.order - 2) 0 < load.start + run → Refused run readies dues lines load 14
  in_time :
      Listed (length readies) load → get_or lines (load.order - 2) 0 ≡ 0 → get_or readies (load.order - 2) 0 ≤ load.start
      → load.start + run ≤ get_or dues (load.order - 2) 0 → Refused run readies dues lines load 0
