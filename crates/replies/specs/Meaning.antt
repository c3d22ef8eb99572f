-- What a line of a reply says, that an answer cannot be written, and that a reply is written out piece by piece.
-- Stands on lists, numbers, numerals and what other rooms say; assumes nothing.
use Rattle.std.specs.Prelude.{ℕ, ◌-◌, ◌≤◌, ◌<◌, ◌≡◌, true, false, None, Some, List, [], ◌∷◌, length, take}
use Rattle.ground.specs.Spelling.{DigitsOf}
use Rattle.fields.specs.Meaning.{Splits}
use Rattle.writer.specs.Meaning.{HourText}
use Rattle.book.specs.declared.Answer.{Answer}
use Rattle.book.specs.declared.Answer.TheVariants.{Yes, No, Refused}
use Rattle.orders.specs.declared.Progress.{Progress}
use Rattle.orders.specs.declared.Step.{Step}
use Rattle.replies.specs.declared.Reply.{Reply}
use Rattle.replies.specs.declared.Filled.{Filled}

-- the fields of an answer: "`yes`, chamber and start; or `no`; or `bad` and the refusal number", the words as their bytes
pub data AnswerFields : Answer → List (List ℕ) → Type 0 where
  yes_fields :
      (chamber start : ℕ) (house hour : List ℕ) → DigitsOf chamber house → HourText start hour
      → AnswerFields (Yes chamber start) ((121 ∷ 101 ∷ 115 ∷ []) ∷ house ∷ hour ∷ [])
  no_fields : AnswerFields No ((110 ∷ 111 ∷ []) ∷ [])
  bad_fields : (number : ℕ) (digits : List ℕ) → DigitsOf number digits → AnswerFields (Refused number) ((98 ∷ 97 ∷ 100 ∷ []) ∷ digits ∷ [])

-- the reply to a line: "line number, then" the fields of its answer
pub record ReplyTo (line : ℕ) (answer : Answer) (text : List ℕ) : Type 0 where
  pub number : List ℕ
  pub fields : List (List ℕ)
  pub numbered : DigitsOf line number
  pub answered : AnswerFields answer fields
  pub splits : Splits text (number ∷ fields)

-- "The last line is `sum`, taken, kept"
pub record SumOf (taken kept : ℕ) (text : List ℕ) : Type 0 where
  pub taken_digits : List ℕ
  pub kept_digits : List ℕ
  pub counts_taken : DigitsOf taken taken_digits
  pub counts_kept : DigitsOf kept kept_digits
  pub splits : Splits text ((115 ∷ 117 ∷ 109 ∷ []) ∷ taken_digits ∷ kept_digits ∷ [])

-- an answer that cannot be written: a yes whose start is above the last hour
pub data StartsPastLast : Answer → Type 0 where
  past : (chamber start : ℕ) → 999_999 < start → StartsPastLast (Yes chamber start)

-- a reply is written out piece by piece, from how far it has come to how far it comes:
-- while it is not over a buffer of 48 bytes or more is filled,
-- as is said of filling, and what stands at its front is the next piece
pub data WrittenOut (Fill : Reply → List ℕ → Filled → List ℕ → Type 0) : Reply → List (List ℕ) → Reply → Type 0 where
  nothing_more : (reply : Reply) → WrittenOut Fill reply [] reply
  a_piece :
      (reply last : Reply) (buffer held : List ℕ) (filled : Filled) (pieces : List (List ℕ)) → reply.over ≡ false → 48 ≤ length buffer
      → Fill reply buffer filled held → WrittenOut Fill filled.reply pieces last
      → WrittenOut Fill reply (take filled.length held ∷ pieces) last

-- the next line of a reply that is not over, and the reply past it, over what it means that the list goes on by a step: "A bad first line
-- prints `1→bad→N` and nothing more", a line of the text is answered under its number, and "The last line is `sum`, taken, kept"
pub data NextLine (text : List ℕ) (Steps : Progress → Step → Type 0) (reply : Reply) : List ℕ → Reply → Type 0 where
  of_refusal :
      (line : List ℕ) (number : ℕ) → reply.refusal ≡ Some number → ReplyTo reply.progress.line (Refused number) line
      → NextLine text Steps reply line (record { refusal = reply.refusal; progress = reply.progress; over = true })
  of_answer :
      (line : List ℕ) (step : Step) → reply.refusal ≡ None → reply.progress.at < length text → Steps reply.progress step
      → ReplyTo reply.progress.line step.answer line
      → NextLine text Steps reply line (record { refusal = reply.refusal; progress = step.progress; over = false })
  of_sum :
      (line : List ℕ) → reply.refusal ≡ None → length text ≤ reply.progress.at
      → SumOf reply.progress.book.taken reply.progress.book.kept line
      → NextLine text Steps reply line (record { refusal = reply.refusal; progress = reply.progress; over = true })

-- the lines that so much room is filled with, one behind the other: while the reply is not over and there is room for 48 bytes
pub data FilledWith (text : List ℕ) (Steps : Progress → Step → Type 0) : Reply → ℕ → List (List ℕ) → Reply → Type 0 where
  stops : (reply : Reply) (room : ℕ) → (reply.over ≡ false → 48 ≤ room → ⊥) → FilledWith text Steps reply room [] reply
  goes_on :
      (reply next last : Reply) (room : ℕ) (line : List ℕ) (lines : List (List ℕ)) → reply.over ≡ false → 48 ≤ room
      → NextLine text Steps reply line next → FilledWith text Steps next (room - length line) lines last
      → FilledWith text Steps reply room (line ∷ lines) last
