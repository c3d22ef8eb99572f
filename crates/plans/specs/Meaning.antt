-- What it means that a plan obeys its list, and that a fault is the first. It is no way of judging; the judge is proved to go by it.
-- Assumes nothing.
use Rattle.std.specs.Prelude.{ℕ, ◌+◌, ◌≤◌, ◌<◌, ◌≡◌, Bool, true, false, List, [], ◌∷◌, ◌++◌, length}
use Rattle.std.specs.Borrow.{Bor}
use Rattle.texts.specs.Meaning.{joined, Between, LiesAt}
use Rattle.lines.specs.Meaning.{HeadingReads, HeadingFault, LoadReads, LoadFault}
use Rattle.lines.specs.declared.Heading.{Heading}
use Rattle.lines.specs.declared.Order.{Order}
use Rattle.lines.specs.declared.Load.{Load}
use Rattle.orders.specs.Meaning.{HasLines, FirstOf, EachReads, Each, EachTwo, Some, CleanOrders, CleanList, OrderWrong}
use Rattle.plans.specs.declared.Fault.{Fault}

-- a fault by its parts
abbrev pub fault_of : ℕ → Bool → ℕ → ℕ → ℕ → Fault
fault_of number plan line from to = record { number = number; plan = plan; line = line; from = from; to = to }

-- the fault of a line that follows others of its text: it is counted from the top, where "the first line is 1", and stands past them
abbrev pub fault_behind : ℕ → Bool → List (List ℕ) → List ℕ → Fault
fault_behind number plan front line = fault_of number plan (1 + length front) (length (joined front)) (length (joined front) + length line)

-- the order that a load names: "the first line is 1, so orders start at 2"
pub record Names (orders : List Order) (load : Load) (order : Order) : Type 0 where
  pub front : List Order
  pub rest : List Order
  pub among : orders ≡ front ++ order ∷ rest
  pub line : load.order ≡ 2 + length front

-- none of 11, 13 and 14: a load names an order, starts at ready or later, and ends at due or earlier
pub record InTime (run : ℕ) (orders : List Order) (load : Load) : Type 0 where
  pub order : Order
  pub named : Names orders load order
  pub not_early : order.ready ≤ load.start
  pub not_late : load.start + run ≤ order.due

-- how long a load takes its chamber: the run
abbrev pub hold_of : Heading → ℕ
hold_of heading = heading.run

-- "Two loads overlap when each starts before the other ends", in one chamber
pub record Overlap (held : ℕ) (one other : Load) : Type 0 where
  pub together : one.chamber ≡ other.chamber
  pub one_first : one.start < other.start + held
  pub other_first : other.start < one.start + held

-- neither 12 nor 15: two loads are of different orders, and they do not overlap
pub record Apart (held : ℕ) (one other : Load) : Type 0 where
  pub orders_differ : one.order ≡ other.order → ⊥
  pub never_overlap : Overlap held one other → ⊥

-- plan lines with no fault: each reads as a load, each load keeps to its order, and each two are apart
pub record GoodLoads (heading : Heading) (orders : List Order) (lines : List (List ℕ)) (loads : List Load) : Type 0 where
  pub read : EachReads (LoadReads heading.chambers) lines loads
  pub in_time : Each (InTime heading.run orders) loads
  pub apart : EachTwo (Apart (hold_of heading)) loads

-- a plan that obeys its list: the list is clean, the plan is "at most 65,536 bytes", and its lines have no fault
pub record Obeys (list plan : List ℕ) : Type 0 where
  pub heading : Heading
  pub orders : List Order
  pub lines : List (List ℕ)
  pub loads : List Load
  pub clean : CleanList list heading orders
  pub fits : length plan ≤ 65_536
  pub cut : HasLines plan lines
  pub good : GoodLoads heading orders lines loads

-- the fault of a plan line that follows good ones: "A plan line: the line checks, then 11, 12, 13, 14, 15"
pub data LoadWrong (heading : Heading) (orders : List Order) (earlier : List Load) (line : List ℕ) : ℕ → Type 0 where
  misread : {number : ℕ} → LoadFault heading.chambers line number → LoadWrong heading orders earlier line number
  unlisted :
      (load : Load) → LoadReads heading.chambers line load → ((order : Order) → Names orders load order → ⊥)
      → LoadWrong heading orders earlier line 11
  again :
      (load : Load) (order : Order) → LoadReads heading.chambers line load → Names orders load order
      → Some (λ before. before.order ≡ load.order) earlier → LoadWrong heading orders earlier line 12
  early :
      (load : Load) (order : Order) → LoadReads heading.chambers line load → Names orders load order
      → Each (λ before. before.order ≡ load.order → ⊥) earlier → load.start < order.ready → LoadWrong heading orders earlier line 13
  late :
      (load : Load) (order : Order) → LoadReads heading.chambers line load → Names orders load order
      → Each (λ before. before.order ≡ load.order → ⊥) earlier → order.ready ≤ load.start → order.due < load.start + heading.run
      → LoadWrong heading orders earlier line 14
  overlapping :
      (load : Load) → LoadReads heading.chambers line load → InTime heading.run orders load
      → Each (λ before. before.order ≡ load.order → ⊥) earlier → Some (λ before. Overlap (hold_of heading) before load) earlier
      → LoadWrong heading orders earlier line 15

-- "The first fault is the answer, with its number, which text, its line number, and the line at fault shown as a part of the text it
-- stands in": "It looks first for 9 in the list, then in the plan. Then it goes through the list from the top … Then it goes through the
-- plan from the top"
pub data FirstFault (list plan : List ℕ) : Fault → List ℕ → Type 0 where
  list_long : 65_536 < length list → FirstFault list plan (fault_of 9 false 0 0 0) []
  plan_long : length list ≤ 65_536 → 65_536 < length plan → FirstFault list plan (fault_of 9 true 0 0 0) []
  in_heading :
      {number : ℕ} (first : List ℕ) (further : List (List ℕ)) → length list ≤ 65_536 → length plan ≤ 65_536 → FirstOf list first further
      → HeadingFault first number → FirstFault list plan (fault_behind number false [] first) first
  in_list :
      {number : ℕ} (heading : Heading) (first : List ℕ) (front rest : List (List ℕ)) (line : List ℕ) (orders : List Order)
      → length list ≤ 65_536 → length plan ≤ 65_536 → FirstOf list first (front ++ line ∷ rest) → HeadingReads first heading
      → CleanOrders front orders → OrderWrong orders line number → FirstFault list plan (fault_behind number false (first ∷ front) line) line
  in_plan :
      {number : ℕ} (heading : Heading) (orders : List Order) (front rest : List (List ℕ)) (line : List ℕ) (loads : List Load)
      → CleanList list heading orders → length plan ≤ 65_536 → HasLines plan (front ++ line ∷ rest) → GoodLoads heading orders front loads
      → LoadWrong heading orders loads line number → FirstFault list plan (fault_behind number true front line) line

-- a plan with a fault on one of its lines is a front that obeys the list, with one line less than the number of the line at fault, then
-- that line, then the rest
pub record RightBefore (list plan : List ℕ) (fault : Fault) (line : List ℕ) : Type 0 where
  pub part : Between plan line fault.from fault.to
  pub before : Obeys list part.front
  pub counted : 1 + length before.lines ≡ fault.line

-- "the line at fault shown as a part of the text it stands in": of whatever fault, the part between its places, which lies there, where
-- these are places of the text in order, and else the empty front
pub record PartShown (fault : Fault) (text part : Bor (List ℕ)) : Type 0 where
  pub in_order :
      fault.from ≤ fault.to → fault.to ≤ length text.now
      → Between text.now part.now fault.from fault.to × LiesAt part text fault.from
  pub else_front : (fault.from ≤ fault.to → fault.to ≤ length text.now → ⊥) → (part.now ≡ []) × LiesAt part text 0
