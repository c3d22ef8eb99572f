-- What a book has counted past the lines of a list. Assumes nothing.
use Prim.Native.Nat.{ℕ, ◌+◌}
use mathlib.Core.Path.{◌≡◌, refl}
use mathlib.Core.List.{List, [], ◌∷◌}
use lib.ListN.{length}
use native.Mathlib.Omega.{arith}
use Rattle.ground.specs.Refusal.{Read, wrong, right}
use Rattle.lines.specs.Reading.{order_of}
use Rattle.lines.specs.declared.Order.{Order}
use Rattle.book.specs.Taking.{decided, next_book, answer_of}
use Rattle.book.specs.declared.Book.{Book}
use Rattle.book.specs.declared.Answer.TheVariants.{Refused}
use Rattle.std.specs.Prelude.{Option, Some, None}
use Rattle.choice.specs.declared.Offer.{Offer}
use Rattle.book.proofs.Promises.{refused_order_stays}
use Rattle.orders.specs.Answers.{answers_from, book_after, decision, book_past, refusals_in, refusals, yeses_in, yeses}

-- one order counts as taken unless it is refused, and as kept with a yes
module _ (book : Book) where
  order_taken : (ready : ℕ) (choice : Read (Option Offer)) → (next_book book ready choice).taken + refusals_in (answer_of choice) ≡ book.taken + 1
  order_taken ready (wrong number) = refl
  order_taken ready (right None) = omega arith
  order_taken ready (right (Some offer)) = omega arith

  order_kept : (ready : ℕ) (choice : Read (Option Offer)) → (next_book book ready choice).kept ≡ book.kept + yeses_in (answer_of choice)
  order_kept ready (wrong number) = omega arith
  order_kept ready (right None) = omega arith
  order_kept ready (right (Some offer)) = refl

  -- so does one line
  line_taken : (order : Read Order) → (book_past book order).taken + refusals_in (answer_of (decision book order)) ≡ book.taken + 1
  line_taken (wrong number) = refl
  line_taken (right order) = order_taken order.ready (decided book order.ready order.due)

  line_kept : (order : Read Order) → (book_past book order).kept ≡ book.kept + yeses_in (answer_of (decision book order))
  line_kept (wrong number) = omega arith
  line_kept (right order) = order_kept order.ready (decided book order.ready order.due)

-- and so do all lines
pub all_taken : (book : Book) (lines : List (List ℕ)) → (book_after book lines).taken + refusals (answers_from book lines) ≡ book.taken + length lines
unfolding book_after answers_from refusals
all_taken book [] = refl
all_taken book (line ∷ lines) = omega (arith, line_taken book (order_of line), all_taken (book_past book (order_of line)) lines)

pub all_kept : (book : Book) (lines : List (List ℕ)) → (book_after book lines).kept ≡ book.kept + yeses (answers_from book lines)
unfolding book_after answers_from yeses
all_kept book [] = omega arith
all_kept book (line ∷ lines) = omega (arith, line_kept book (order_of line), all_kept (book_past book (order_of line)) lines)

-- every line has an answer
pub answers_length : (book : Book) (lines : List (List ℕ)) → length (answers_from book lines) ≡ length lines
unfolding answers_from
answers_length book [] = refl
answers_length book (line ∷ lines) = omega (arith, answers_length (book_past book (order_of line)) lines)

-- a refused line leaves the book as it stood
pub refused_line_stays : (book : Book) (order : Read Order) (number : ℕ) → decision book order ≡ wrong number → book_past book order ≡ book
refused_line_stays book (wrong other) number refused = refl
refused_line_stays book (right order) number refused = refused_order_stays book order.ready order.due number refused

-- and the next line is answered from it
pub refused_line_goes_on :
    (book : Book) (line : List ℕ) (lines : List (List ℕ)) (number : ℕ) → decision book (order_of line) ≡ wrong number
    → answers_from book (line ∷ lines) ≡ Refused number ∷ answers_from book lines
unfolding answers_from
refused_line_goes_on book line lines number refused = rw (refused, refused_line_stays book (order_of line) number refused)
