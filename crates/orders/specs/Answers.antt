-- What a list is answered, line by line: "The desk program reads an order list … a line for each line after the first … Refused lines
-- change nothing and it goes on." Assumes nothing.
use Rattle.std.specs.Prelude.{ℕ, suc, ◌+◌, min, ◌≡◌, cond, Option, Result, Ok, Err, List, [], ◌∷◌, length, drop, leb, eqb}
use Rattle.ground.specs.Refusal.{Or, Read, wrong, right, refusal_number, check, ◌>>=◌, ◌>>◌}
use Rattle.ground.specs.Limits.{longest_text}
use Rattle.texts.specs.Lines.{lines_of, line_at, past_line}
use Rattle.lines.specs.Reading.{heading_of, order_of}
use Rattle.lines.specs.declared.Heading.{Heading}
use Rattle.lines.specs.declared.Order.{Order}
use Rattle.book.specs.Soundness.{fresh_book}
use Rattle.book.specs.Taking.{decided, next_book, told, answer_of}
use Rattle.book.specs.declared.Book.{Book}
use Rattle.choice.specs.declared.Offer.{Offer}
use Rattle.book.specs.declared.Answer.{Answer}
use Rattle.book.specs.declared.Answer.TheVariants.{Yes, No, Refused}
use Rattle.orders.specs.declared.Progress.{Progress}
use Rattle.orders.specs.declared.NotBegun.{NotBegun}
use Rattle.orders.specs.declared.Step.{Step}

-- the book that a first line opens: "A fresh book has every chamber free from hour 0"
abbrev pub book_for : Heading → Book
book_for heading = fresh_book heading.chambers heading.run

-- a list begins: 9 for "longer than 65,536 bytes", then what is wrong with its first line, else a fresh book; an empty text has an empty
-- first line, which is refused by 1
unfoldable pub opening : List ℕ → Read Book
opening text = do
  check (leb (length text) longest_text) 9
  heading ← heading_of (line_at text 0)
  right (book_for heading)

-- "Each further line is an order"
unfoldable pub order_lines : List ℕ → List (List ℕ)
order_lines text = drop 1 (lines_of text)

-- what is decided of an order line: the line's own refusal, else what the book decides of its hours
abbrev pub decision : Book → Read Order → Read (Option Offer)
decision book (wrong number) = wrong number
decision book (right order) = decided book order.ready order.due

-- the book past an order line; "Refused lines change nothing"
abbrev pub book_past : Book → Read Order → Book
book_past book (wrong number) = book
book_past book (right order) = next_book book order.ready (decided book order.ready order.due)

-- the answers to order lines, one after another
unfoldable pub answers_from : Book → List (List ℕ) → List Answer
answers_from book [] = []
answers_from book (line ∷ lines) = answer_of (decision book (order_of line)) ∷ answers_from (book_past book (order_of line)) lines

-- the book past them
unfoldable pub book_after : Book → List (List ℕ) → Book
book_after book [] = book
book_after book (line ∷ lines) = book_after (book_past book (order_of line)) lines

-- how many of some answers are refusals
abbrev pub refusals_in : Answer → ℕ
refusals_in (Yes chamber start) = 0
refusals_in No = 0
refusals_in (Refused number) = 1

unfoldable pub refusals : List Answer → ℕ
refusals [] = 0
refusals (answer ∷ answers) = refusals_in answer + refusals answers

-- and how many are yeses
abbrev pub yeses_in : Answer → ℕ
yeses_in (Yes chamber start) = 1
yeses_in No = 0
yeses_in (Refused number) = 0

unfoldable pub yeses : List Answer → ℕ
yeses [] = 0
yeses (answer ∷ answers) = yeses_in answer + yeses answers

-- the number of the line that is refused before any order: "A bad first line prints `1→bad→N`", "a text too long prints `0→bad→9`"
abbrev pub refused_line : ℕ → ℕ
refused_line number = cond (eqb number 9) 0 1

-- what a function answers of a list's beginning: the progress past its first line, or the refusal's number and the progress that comes
-- with it
abbrev pub as_begun : Result Progress NotBegun → Or (ℕ × Progress) Progress
as_begun (Ok progress) = right progress
as_begun (Err refused) = wrong (refusal_number refused.refusal, refused.progress)

-- the progress of a list that does not begin: the line refused, and "any other number in the answer is 0"
abbrev pub stopped_at : ℕ → Progress
stopped_at line = record { at = 0; line = line; book = fresh_book 0 0 }

-- a list that does not begin, refused at this line
abbrev pub not_begun : ℕ → ℕ → Or (ℕ × Progress) Progress
not_begun line number = wrong (number, stopped_at line)

-- one that begins is past its first line, and its first order stands on line 2
abbrev pub begun_with : List ℕ → Book → Progress
begun_with text book = record { at = past_line text 0; line = 2; book = book }

abbrev pub begun_by : List ℕ → Read Book → Or (ℕ × Progress) Progress
begun_by text (wrong number) = not_begun (refused_line number) number
begun_by text (right book) = right (begun_with text book)

-- the progress past the line at its place; a line's number stops at the last of 32 bits
abbrev pub progress_past : List ℕ → Progress → Progress
progress_past text progress =
    let book = book_past progress.book (order_of (line_at text progress.at)) in
    record { at = past_line text progress.at; line = min (suc progress.line) 4_294_967_295; book = book }

-- the order that a line reads as; zeros where it does not read
abbrev pub order_in : Read Order → Order
order_in (wrong number) = record { grower = 0; ready = 0; due = 0 }
order_in (right order) = order

-- the order at a place, its answer, and the progress past it
pub record Stepped (text : List ℕ) (progress : Progress) (step : Step) : Type 0 where
  pub read : step.order ≡ order_in (order_of (line_at text progress.at))
  pub said : told step.answer ≡ told (answer_of (decision progress.book (order_of (line_at text progress.at))))
  pub next : step.progress ≡ progress_past text progress
