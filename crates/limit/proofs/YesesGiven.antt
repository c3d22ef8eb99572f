-- The yeses to lines that read as orders have loads that are given to these orders, each two of them apart. Assumes nothing.
use Prim.Native.Nat.{ℕ, suc}
use mathlib.Core.Path.{◌≡◌, refl}
use mathlib.Core.List.{List, [], ◌∷◌, ◌++◌, map, cons≢nil, head-eq_of_cons-eq, tail-eq_of_cons-eq}
use native.Mathlib.Omega.{arith}
use Rattle.ground.specs.Refusal.{Read, wrong, right}
use Rattle.lines.specs.Reading.{order_of}
use Rattle.lines.specs.declared.Order.{Order}
use Rattle.lines.specs.declared.Load.{Load}
use Rattle.book.specs.Taking.{decided, next_book, answer_of}
use Rattle.book.specs.Settling.{Sized}
use Rattle.book.specs.declared.Book.{Book}
use Rattle.std.specs.Prelude.{Option, Some, None}
use Rattle.choice.specs.declared.Offer.{Offer}
use Rattle.book.proofs.Steps.{next_sized}
use Rattle.orders.specs.Answers.{answers_from}
use Rattle.orders.proofs.Each.{each_none, each_before, each_so, two_none, two_before}
use Rattle.limit.proofs.YesLoads.{yes_load, yes_loads, GivenLoads, given_later, given_now, apart_later}

-- An order that is given to a book, and the orders behind it.
module _ (line : ℕ) (book : Book) (sized : Sized book) (order : Order) (orders : List Order) where
  -- so the loads from the next book on, with that of its yes before them, are such loads from this book on
  loads_more :
      {loads : List Load} (choice : Read (Option Offer)) → (decided book order.ready order.due ≡ choice) → GivenLoads (suc line) (next_book book order.ready choice) orders loads
      → GivenLoads line book (order ∷ orders) (yes_load line (answer_of choice) ++ loads)
  loads_more (wrong number) decision later =
      record { few = omega (arith, later.few); each = each_so (given_later line book sized order orders (wrong number) decision) later.each; apart = later.apart }
  loads_more (right None) decision later =
      record { few = omega (arith, later.few); each = each_so (given_later line book sized order orders (right None) decision) later.each; apart = later.apart }
  loads_more (right (Some offer)) decision later =
      record {
        few = omega (arith, later.few);
        each = each_before (given_now line book sized order orders offer.chamber offer.start decision) (each_so (given_later line book sized order orders (right (Some offer)) decision) later.each);
        apart = two_before (each_so (apart_later line book sized order orders offer.chamber offer.start decision) later.each) later.apart;
      }

  -- these are the loads of the yeses to its line and those behind it
  line_more :
      (text : List ℕ) (lines : List (List ℕ)) → order_of text ≡ right order
      → let after = next_book book order.ready (decided book order.ready order.due) in
      GivenLoads (suc line) after orders (yes_loads (suc line) (answers_from after lines))
      → GivenLoads line book (order ∷ orders) (yes_loads line (answers_from book (text ∷ lines)))
  unfolding yes_loads answers_from
  line_more text lines read later = rw read (loads_more (decided book order.ready order.due) refl later)

-- the yeses to lines that read as these orders have such loads
pub yeses_given :
    (line : ℕ) (book : Book) → Sized book → (lines : List (List ℕ)) (orders : List Order) → map order_of lines ≡ map right orders
    → GivenLoads line book orders (yes_loads line (answers_from book lines))
unfolding yes_loads answers_from
yeses_given line book sized [] orders read = record { few = omega arith; each = each_none; apart = two_none }
yeses_given line book sized (text ∷ lines) [] read = absurd (cons≢nil read)
yeses_given line book sized (text ∷ lines) (order ∷ orders) read =
    let choice = decided book order.ready order.due in
    line_more line book sized order orders text lines (head-eq_of_cons-eq read)
    (yeses_given (suc line) (next_book book order.ready choice) (next_sized book order.ready order.due choice sized) lines orders
    (tail-eq_of_cons-eq read))
