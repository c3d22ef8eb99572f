-- What the private steps of the judge come to. The public definitions do not rest on it. Assumes nothing.
use Rattle.std.specs.Prelude.{ℕ, ◌≤◌, ◌≡◌, false, List, [], ◌∷◌, suc, map, take, drop, Option, Some, None, Result, Ok, Err}
use Rattle.ground.specs.Refusal.{Or, Read, wrong, right, ◌>>=◌, ◌>>◌}
use Rattle.ground.specs.Limits.{most_orders}
use Rattle.texts.specs.Lines.{lines_of}
use Rattle.lines.specs.Reading.{load_of}
use Rattle.lines.specs.declared.Order.{Order}
use Rattle.lines.specs.declared.Load.{Load}
use Rattle.orders.specs.declared.Progress.{Progress}
use Rattle.loads.specs.Checks.{order_from, load_marked}
use Rattle.plans.specs.Judging.{ListKnown, through, note_order}
use Rattle.plans.specs.declared.Fault.{Fault}
use Rattle.plans.specs.declared.Passed.{Passed}

-- what the orders of a list come to that are left where its reading has come to, with these orders before them
abbrev pub orders_left : List ℕ → Progress → List Order → Or Fault ListKnown
orders_left list progress orders =
    let known : ListKnown = record { book = progress.book; orders = orders } in
    through note_order false progress.line progress.at known (lines_of (drop progress.at list))

-- the hours of so many orders stand at the front of two buffers
pub record HoursAre (orders : List Order) (readies dues : List ℕ) : Type 0 where
  pub ready_hours : readies ≡ map (λ order. order.ready) orders
  pub due_hours : dues ≡ map (λ order. order.due) orders

-- the orders of a list that were read into two buffers: the fault, or how many of them stand at the front of both
abbrev pub OrdersAre : Or Fault ListKnown → Result ℕ Fault → List ℕ → List ℕ → Type 0
OrdersAre all (Err fault) readies dues = all ≡ wrong fault
OrdersAre all (Ok count) readies dues =
    (known : ListKnown) × (all ≡ right known) × HoursAre known.orders (take count readies) (take count dues) × (count ≤ most_orders)

-- the orders of these hours, whoever their growers
unfoldable pub orders_from : List ℕ → List ℕ → List Order
orders_from [] dues = []
orders_from (ready ∷ readies) [] = []
orders_from (ready ∷ readies) (due ∷ dues) = order_from ready due ∷ orders_from readies dues

-- a plan line read and checked up to 14, for orders of which the hours are kept
unfoldable pub load_noted : ℕ → ℕ → List ℕ → List ℕ → List ℕ → List ℕ → Read Load
load_noted count run readies dues lines text = do
  load ← load_of count text
  load_marked run readies dues lines load
  right load

-- the place of a plan line as the line's number, 0 for none
abbrev pub line_at_place : Option ℕ → ℕ
line_at_place None = 0
line_at_place (Some place) = suc place

-- of the plan lines gone through, the starts of their loads, and the numbers of the lines before them in their chambers
abbrev pub starts_of : List Passed → List ℕ
starts_of passed = map (λ line. line.start) passed

abbrev pub befores_of : List Passed → List ℕ
befores_of passed = map (λ line. line_at_place line.before) passed

-- the numbers of the last lines of the chambers
abbrev pub lasts_of : List (Option ℕ) → List ℕ
lasts_of lasts = map line_at_place lasts
