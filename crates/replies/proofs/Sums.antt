-- How many replies there are, and what the sum of a clean list says. Assumes nothing.
use Prim.Native.Nat.{ℕ, suc}
use mathlib.Core.Path.{◌≡◌, refl}
use mathlib.Core.List.{List, [], ◌∷◌, ◌++◌}
use lib.ListN.{length, length-append}
use native.Mathlib.Omega.{arith}
use Rattle.book.specs.declared.Book.{Book}
use Rattle.book.specs.declared.Answer.{Answer}
use Rattle.lines.specs.declared.Heading.{Heading}
use Rattle.lines.specs.declared.Order.{Order}
use Rattle.orders.specs.Answers.{book_for, order_lines, answers_from, book_after, yeses}
use Rattle.orders.specs.Meaning.{CleanList}
use Rattle.replies.specs.Replies.{sum_line, numbered, replies_from}
use Rattle.orders.proofs.Counting.{all_taken, all_kept, answers_length}
use Rattle.orders.proofs.Promises.{clean_exactly}

-- every answer has a reply
pub numbered_length : (line : ℕ) (answers : List Answer) → length (numbered line answers) ≡ length answers
unfolding numbered
numbered_length line [] = refl
numbered_length line (answer ∷ answers) = omega (arith, numbered_length (suc line) answers)

-- a reply for each line, and the sum
pub replies_length : (line : ℕ) (book : Book) (lines : List (List ℕ)) → length (replies_from line book lines) ≡ suc (length lines)
unfolding replies_from
replies_length line book lines = simp length-append (omega (arith, numbered_length line (answers_from book lines), answers_length book lines))

-- the sum of a clean list is the number of its orders and the number of its yeses
pub clean_replies :
    (text : List ℕ) (heading : Heading) (orders : List Order) → CleanList text heading orders
    → let answers = answers_from (book_for heading) (order_lines text) in
    replies_from 2 (book_for heading) (order_lines text) ≡ numbered 2 answers ++ sum_line (length (order_lines text)) (yeses answers) ∷ []
unfolding replies_from
clean_replies text heading orders clean =
    let book : Book = book_for heading in
    let none = ((clean_exactly text heading).1 (orders, clean)).1 in
    let taken : (book_after book (order_lines text)).taken ≡ length (order_lines text) = omega (arith, all_taken book (order_lines text), none) in
    let kept : (book_after book (order_lines text)).kept ≡ yeses (answers_from book (order_lines text)) = omega (arith, all_kept book (order_lines text)) in
    rw (taken, kept)
