-- What it means that the lines of a list are answered one after another, and what is counted of the answers.
-- It is no way of answering; the desk is proved to go by it. Assumes nothing.
use Rattle.std.specs.Prelude.{ℕ, suc, List, [], ◌∷◌}
use Rattle.lines.specs.Meaning.{OrderReads, OrderFault}
use Rattle.lines.specs.declared.Order.{Order}
use Rattle.book.specs.declared.Book.{Book}
use Rattle.book.specs.declared.Taken.{Taken}
use Rattle.book.specs.declared.Answer.{Answer}
use Rattle.book.specs.declared.Answer.TheVariants.{Yes, No, Refused}

-- "A fresh book has every chamber free from hour 0, the clock at 0 and both counts 0";
-- with no chambers and no run it is "a book with every field 0"
abbrev pub new_book : ℕ → ℕ → Book
new_book chambers run =
    record { chambers = chambers; run = run; clock = 0; taken = 0; kept = 0; free = 0 ∷ 0 ∷ 0 ∷ 0 ∷ 0 ∷ 0 ∷ 0 ∷ 0 ∷ [] }

-- lines answered one after another from a book on, and the book past them, over what it means that a book takes an order: a line that
-- reads as an order is taken, and of one that does not "Refused lines change nothing and it goes on"
pub data Answers (Takes : Book → ℕ → ℕ → Taken → Type 0) : Book → List (List ℕ) → List Answer → Book → Type 0 where
  none_left : {book : Book} → Answers Takes book [] [] book
  read_line :
      {book last : Book} {lines : List (List ℕ)} {answers : List Answer} (line : List ℕ) (order : Order) (taken : Taken)
      → OrderReads line order → Takes book order.ready order.due taken → Answers Takes taken.book lines answers last
      → Answers Takes book (line ∷ lines) (taken.answer ∷ answers) last
  faulty_line :
      {book last : Book} {lines : List (List ℕ)} {answers : List Answer} (line : List ℕ) (number : ℕ) → OrderFault line number
      → Answers Takes book lines answers last → Answers Takes book (line ∷ lines) (Refused number ∷ answers) last

-- what the answers to lines count from a clock on, how many are kept, how many taken, and the clock then: with a yes "Taken and kept each
-- rise by 1 and the clock becomes r", with a no "taken rises by 1, the clock becomes r", and "Refused lines change nothing"
pub data Counts : ℕ → List (List ℕ) → List Answer → ℕ → ℕ → ℕ → Type 0 where
  of_none : {clock : ℕ} → Counts clock [] [] 0 0 clock
  with_yes :
      {before after kept taken chamber start : ℕ} {lines : List (List ℕ)} {answers : List Answer} (line : List ℕ) (order : Order)
      → OrderReads line order → Counts order.ready lines answers kept taken after
      → Counts before (line ∷ lines) (Yes chamber start ∷ answers) (suc kept) (suc taken) after
  with_no :
      {before after kept taken : ℕ} {lines : List (List ℕ)} {answers : List Answer} (line : List ℕ) (order : Order)
      → OrderReads line order → Counts order.ready lines answers kept taken after
      → Counts before (line ∷ lines) (No ∷ answers) kept (suc taken) after
  with_refused :
      {before after kept taken : ℕ} {lines : List (List ℕ)} {answers : List Answer} (line : List ℕ) (number : ℕ)
      → Counts before lines answers kept taken after → Counts before (line ∷ lines) (Refused number ∷ answers) kept taken after
