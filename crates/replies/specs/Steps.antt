-- What only private functions and the prover need: the fields of an answer as the reply writer puts them, its word and what stands behind
-- it; a buffer as one line more is put to it; and how many lines are left, so that writing a reply ends. No public contract and no promise
-- speaks of them. Assumes nothing.
use Rattle.std.specs.Prelude.{ℕ, suc, ◌+◌, ◌-◌, ◌≤◌, ◌≡◌, cond, List, [], ◌∷◌, ◌++◌, length, take, drop}
use Rattle.ground.specs.Refusal.{Read, wrong, right}
use Rattle.ground.specs.Buffer.{onto}
use Rattle.ground.specs.Digits.{spelled}
use Rattle.ground.specs.Text.{bytes}
use Rattle.classes.specs.Classes.{comma}
use Rattle.writer.specs.Writing.{hour_written}
use Rattle.writer.specs.Line.{line_room}
use Rattle.book.specs.declared.Answer.{Answer}
use Rattle.book.specs.declared.Answer.TheVariants.{Yes, No, Refused}
use Rattle.replies.specs.Filling.{bytes_in, line_due, past_line_due}
use Rattle.replies.specs.declared.Reply.{Reply}
use Rattle.replies.specs.declared.Filled.{Filled}

-- the word of an answer
abbrev pub answer_word : Answer → List ℕ
answer_word (Yes chamber start) = bytes "yes"
answer_word No = bytes "no"
answer_word (Refused number) = bytes "bad"

-- the fields behind it, of which a start may be refused
abbrev pub answer_rest : Answer → List (Read (List ℕ))
answer_rest (Yes chamber start) = right (spelled chamber) ∷ hour_written comma start ∷ []
answer_rest No = []
answer_rest (Refused number) = right (spelled number) ∷ []

-- the fields of an answer, of a reply and of the sum
abbrev pub answer_put : Answer → List (Read (List ℕ))
answer_put answer = right (answer_word answer) ∷ answer_rest answer

abbrev pub reply_put : ℕ → Answer → List (Read (List ℕ))
reply_put line answer = right (spelled line) ∷ answer_put answer

abbrev pub sum_put : ℕ → ℕ → List (Read (List ℕ))
sum_put taken kept = right (bytes "sum") ∷ right (spelled taken) ∷ right (spelled kept) ∷ []

-- room enough for the fields of any answer: a word, a number of at most ten digits and an hour of seven bytes, each with its stop
abbrev pub answer_room : ℕ
answer_room = 24

-- how many bytes a writing wrote
abbrev pub count_in : Read ℕ → ℕ
count_in (wrong number) = 0
count_in (right count) = count

-- a line that was put behind those that a buffer is filled with
pub record LineBehind (text : List ℕ) (filled : Filled) (buffer : List ℕ) (next : Filled) (held : List ℕ) : Type 0 where
  pub counted : next.length ≡ filled.length + length (bytes_in (line_due text filled.reply))
  pub comes : next.reply ≡ past_line_due text filled.reply
  pub holds : held ≡ take filled.length buffer ++ onto (bytes_in (line_due text filled.reply)) (drop filled.length buffer)
  pub fits : length (bytes_in (line_due text filled.reply)) ≤ line_room

-- how many lines are left at most: none of a reply that is over, else one for each byte of the list from its place on, and the sum
unfoldable pub left_of : List ℕ → Reply → ℕ
left_of text reply = cond reply.over 0 (suc (length text - reply.progress.at))
