-- Laws of orders given one after another: that each is answered, and what the book has counted then. Assumes nothing.
use Prim.Native.Nat.{ℕ, ◌+◌}
use mathlib.Core.Path.{◌≡◌, refl, ap, ◌∙◌}
use mathlib.Core.List.{List, [], ◌∷◌, ◌++◌, map}
use lib.ListN.{length, length-append}
use native.Mathlib.Omega.{arith}
use Rattle.book.specs.Taking.{decided, next_book, answer_of}
use Rattle.book.specs.Meaning.{RightAnswer}
use Rattle.book.specs.History.{OrderHours, GivenOrder, OneAfterAnother, last_book, load_kept, loads_kept, ready_taken, readies_taken, last_hour_of}
use Rattle.book.specs.declared.Book.{Book}
use Rattle.book.specs.declared.Answer.{Answer}
use Rattle.book.specs.declared.Answer.TheVariants.{Yes, No, Refused}
use Rattle.book.proofs.Steps.{right_answer}

-- what a book answers to an order
abbrev given_to : Book → OrderHours → GivenOrder
given_to book order =
    let decision = decided book order.ready order.due in
    record { order = order; taken = record { answer = answer_of decision; book = next_book book order.ready decision } }

-- orders can be given to any book, and each is answered
pub orders_answered :
    (book : Book) (orders : List OrderHours)
    → (history : List GivenOrder) × (map (λ given. given.order) history ≡ orders) × OneAfterAnother book history
unfolding OneAfterAnother
orders_answered book [] = ([], refl, tt)
orders_answered book (order ∷ orders) =
    let given = given_to book order in
    let later = orders_answered given.taken.book orders in (
      given ∷ later.0,
      ap (λ rest. order ∷ rest) later.1,
      (right_answer book order.ready order.due (decided book order.ready order.due) refl, later.2),
    )

-- What is counted: an order as taken unless it is refused, and as kept with a yes; and the clock is the ready hour of the last one taken.
module _ (book : Book) (ready due : ℕ) (next : Book) where
  one_kept : (answer : Answer) → RightAnswer book ready due next answer → next.kept ≡ book.kept + length (load_kept answer)
  one_kept (Yes chamber start) answered = answered.2.one_kept
  one_kept No answered = omega (arith, answered.2.kept_stays)
  one_kept (Refused number) answered = rw answered.1 (omega arith)

  one_taken : (answer : Answer) → RightAnswer book ready due next answer → next.taken ≡ book.taken + length (ready_taken ready answer)
  one_taken (Yes chamber start) answered = answered.2.one_taken
  one_taken No answered = answered.2.one_taken
  one_taken (Refused number) answered = rw answered.1 (omega arith)

  one_clock :
      (answer : Answer) → RightAnswer book ready due next answer → (later : List ℕ)
      → last_hour_of next.clock later ≡ last_hour_of book.clock (ready_taken ready answer ++ later)
  unfolding last_hour_of
  one_clock (Yes chamber start) answered later = rw answered.2.clock_ready
  one_clock No answered later = rw answered.2.clock_ready
  one_clock (Refused number) answered later = rw answered.1

pub kept_counted :
    (book : Book) (history : List GivenOrder) → OneAfterAnother book history → (last_book book history).kept ≡ book.kept + length (loads_kept history)
unfolding OneAfterAnother last_book loads_kept
kept_counted book [] answered = omega arith
kept_counted book (given ∷ later) answered =
    rw (length-append (loads_kept later) (load_kept given.taken.answer))
    (omega (
      arith,
      one_kept book given.order.ready given.order.due given.taken.book given.taken.answer answered.0,
      kept_counted given.taken.book later answered.1,
    ))

pub taken_counted :
    (book : Book) (history : List GivenOrder) → OneAfterAnother book history → (last_book book history).taken ≡ book.taken + length (readies_taken history)
unfolding OneAfterAnother last_book readies_taken
taken_counted book [] answered = omega arith
taken_counted book (given ∷ later) answered =
    rw (length-append (ready_taken given.order.ready given.taken.answer) (readies_taken later))
    (omega (
      arith,
      one_taken book given.order.ready given.order.due given.taken.book given.taken.answer answered.0,
      taken_counted given.taken.book later answered.1,
    ))

pub clock_last :
    (book : Book) (history : List GivenOrder) → OneAfterAnother book history → (last_book book history).clock ≡ last_hour_of book.clock (readies_taken history)
unfolding OneAfterAnother last_book readies_taken last_hour_of
clock_last book [] answered = refl
clock_last book (given ∷ later) answered =
    clock_last given.taken.book later answered.1
    ∙ one_clock book given.order.ready given.order.due given.taken.book given.taken.answer answered.0 (readies_taken later)
