-- What the desk program prints: "line number, then `yes`, chamber and start; or `no`; or `bad` and the refusal number", and "`sum`,
-- taken, kept". Assumes nothing.
use Rattle.std.specs.Prelude.{ℕ, suc, Bool, true, List, [], ◌∷◌, ◌++◌, leb}
use Rattle.ground.specs.Refusal.{Read, wrong, right, check, ◌>>◌}
use Rattle.ground.specs.Limits.{last_hour}
use Rattle.ground.specs.Digits.{spelled}
use Rattle.ground.specs.Text.{bytes}
use Rattle.classes.specs.Classes.{comma}
use Rattle.writer.specs.Writing.{hour_text}
use Rattle.writer.specs.Line.{line_with}
use Rattle.texts.specs.Meaning.{joined}
use Rattle.book.specs.declared.Book.{Book}
use Rattle.book.specs.declared.Answer.{Answer}
use Rattle.book.specs.declared.Answer.TheVariants.{Yes, No, Refused}
use Rattle.orders.specs.Answers.{opening, order_lines, answers_from, book_after, refused_line}

-- an answer's fields: "`yes`, chamber and start; or `no`; or `bad` and the refusal number"
abbrev pub answer_fields : Answer → List (List ℕ)
answer_fields (Yes chamber start) = bytes "yes" ∷ spelled chamber ∷ hour_text comma start ∷ []
answer_fields No = bytes "no" ∷ []
answer_fields (Refused number) = bytes "bad" ∷ spelled number ∷ []

-- the reply to a line: its number and its answer
unfoldable pub reply_line : ℕ → Answer → List ℕ
reply_line line answer = line_with (spelled line ∷ answer_fields answer)

-- "The last line is `sum`, taken, kept"
unfoldable pub sum_line : ℕ → ℕ → List ℕ
sum_line taken kept = line_with (bytes "sum" ∷ spelled taken ∷ spelled kept ∷ [])

-- the replies to answers, their lines counted from a number on
unfoldable pub numbered : ℕ → List Answer → List (List ℕ)
numbered line [] = []
numbered line (answer ∷ answers) = reply_line line answer ∷ numbered (suc line) answers

-- the replies to order lines counted from a number on, and then the sum
unfoldable pub replies_from : ℕ → Book → List (List ℕ) → List (List ℕ)
replies_from line book lines =
    numbered line (answers_from book lines) ++ sum_line (book_after book lines).taken (book_after book lines).kept ∷ []

-- the lines of a whole reply; "A bad first line prints `1→bad→N` and nothing more"
abbrev pub replies_by : List ℕ → Read Book → List (List ℕ)
replies_by text (wrong number) = reply_line (refused_line number) (Refused number) ∷ []
replies_by text (right book) = replies_from 2 book (order_lines text)

-- the whole reply to a text
unfoldable pub reply_of : List ℕ → List ℕ
reply_of text = joined (replies_by text (opening text))

-- an answer's start, where it has one, is an hour
abbrev pub start_in_range : Answer → Bool
start_in_range (Yes chamber start) = leb start last_hour
start_in_range No = true
start_in_range (Refused number) = true

-- the reply line to be written: 4 for a start that is "an hour above 999,999 given as a number"
unfoldable pub reply_written : ℕ → Answer → Read (List ℕ)
reply_written line answer = do
  check (start_in_range answer) 4
  right (reply_line line answer)
