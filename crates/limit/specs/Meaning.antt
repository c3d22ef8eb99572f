-- What the third demand says of the lines that the desk prints, and of the plan that is written of its yeses. It is no way of printing or
-- writing. Assumes nothing.
use Rattle.std.specs.Prelude.{ℕ, suc, ◌≡◌, List, [], ◌∷◌, ◌++◌}
use Rattle.fields.specs.Meaning.{Splits}
use Rattle.book.specs.declared.Answer.{Answer}
use Rattle.book.specs.declared.Answer.TheVariants.{Yes, No, Refused}
use Rattle.replies.specs.Meaning.{ReplyTo, SumOf}

-- "line number, then … `bad` and the refusal number": a line whose second field is that word, as its bytes
pub record SaysBad (line : List ℕ) : Type 0 where
  pub number : List ℕ
  pub behind : List (List ℕ)
  pub splits : Splits line (number ∷ (98 ∷ 97 ∷ 100 ∷ []) ∷ behind)

-- "The last line is `sum`, taken, kept"
pub record EndsInSum (taken kept : ℕ) (lines : List (List ℕ)) : Type 0 where
  pub front : List (List ℕ)
  pub last : List ℕ
  pub whole : lines ≡ front ++ last ∷ []
  pub sum : SumOf taken kept last

-- the plan of the yeses among answers, their lines counted from a number on, over what it means that a plan line was written of its three
-- numbers: each yes as a plan line, one behind the other in the order of the list
pub data YesesWritten (Wrote : ℕ → ℕ → ℕ → List ℕ → Type 0) : ℕ → List Answer → List ℕ → Type 0 where
  none_left : {line : ℕ} → YesesWritten Wrote line [] []
  with_yes :
      {line chamber start : ℕ} {answers : List Answer} {plan : List ℕ} (text : List ℕ) → Wrote line chamber start text
      → YesesWritten Wrote (suc line) answers plan → YesesWritten Wrote line (Yes chamber start ∷ answers) (text ++ plan)
  with_no :
      {line : ℕ} {answers : List Answer} {plan : List ℕ} → YesesWritten Wrote (suc line) answers plan
      → YesesWritten Wrote line (No ∷ answers) plan
  with_refused :
      {line number : ℕ} {answers : List Answer} {plan : List ℕ} → YesesWritten Wrote (suc line) answers plan
      → YesesWritten Wrote line (Refused number ∷ answers) plan

-- the plan of the yeses that a reply prints, and how many they are, over what it means that a plan line was written of its three numbers:
-- each line that says yes as a plan line, one behind the other; one that says no has none, and the last is the sum
pub data YesesPrinted (Wrote : ℕ → ℕ → ℕ → List ℕ → Type 0) : List (List ℕ) → List ℕ → ℕ → Type 0 where
  the_sum : (taken kept : ℕ) (reply : List ℕ) → SumOf taken kept reply → YesesPrinted Wrote (reply ∷ []) [] 0
  yes_line :
      {replies : List (List ℕ)} {plan : List ℕ} {count : ℕ} (line chamber start : ℕ) (reply text : List ℕ)
      → ReplyTo line (Yes chamber start) reply → Wrote line chamber start text → YesesPrinted Wrote replies plan count
      → YesesPrinted Wrote (reply ∷ replies) (text ++ plan) (suc count)
  no_line :
      {replies : List (List ℕ)} {plan : List ℕ} {count : ℕ} (line : ℕ) (reply : List ℕ) → ReplyTo line No reply
      → YesesPrinted Wrote replies plan count → YesesPrinted Wrote (reply ∷ replies) plan count
