-- The fields of each line of a reply, and that one text is the reply of one number and one answer. Assumes nothing.
use Prim.Native.Nat.{ℕ}
use mathlib.Core.Path.{◌≡◌, refl, sym, ap, ◌∙◌}
use mathlib.Core.Bool.{true}
use mathlib.Core.List.{List, [], ◌∷◌}
use lib.ListN.{get_or}
use native.Mathlib.Omega.{arith}
use borrow.Author.Tests.{leb-true}
use Rattle.ground.specs.Text.{bytes}
use Rattle.ground.specs.Digits.{spelled}
use Rattle.ground.specs.Spelling.{DigitsOf}
use Rattle.ground.proofs.Checks.{same_right}
use Rattle.ground.proofs.Tests.{both}
use Rattle.ground.proofs.Promises.{spelled_exactly}
use Rattle.hours.specs.Spelling.{Spells}
use Rattle.hours.proofs.Promises.{reads_exactly}
use Rattle.fields.specs.Meaning.{all_clean, is_clean, Splits}
use Rattle.fields.proofs.Promises.{one_split}
use Rattle.planlines.proofs.RoundTrip.{clean_number}
use Rattle.writer.proofs.Promises.{hour_text_lem, line_splits}
use Rattle.book.specs.declared.Answer.{Answer}
use Rattle.book.specs.declared.Answer.TheVariants.{Yes, No, Refused}
use Rattle.replies.specs.Replies.{answer_fields, reply_line, sum_line, start_in_range}
use Rattle.replies.specs.Meaning.{AnswerFields, yes_fields, no_fields, bad_fields, ReplyTo, SumOf}
use Rattle.replies.proofs.ReplyText.{answer_clean}

-- a spelled number is its digits
spelled_digits : (number : ℕ) → DigitsOf number (spelled number)
spelled_digits number = (spelled_exactly number (spelled number)).0 refl

-- and no other number's
digits_of_one : {one other : ℕ} {word : List ℕ} → DigitsOf one word → DigitsOf other word → one ≡ other
digits_of_one p q = sym p.worth ∙ q.worth

-- the fields of an answer that can be written
answer_fields_lem : (answer : Answer) → start_in_range answer ≡ true → AnswerFields answer (answer_fields answer)
unfolding bytes
answer_fields_lem (Yes chamber start) within = yes_fields chamber start _ _ (spelled_digits chamber) (hour_text_lem start (leb-true start 999_999 within))
answer_fields_lem No within = no_fields
answer_fields_lem (Refused number) within = bad_fields number _ (spelled_digits number)

-- the fields that any reply splits into
pub reply_splits : (line : ℕ) (answer : Answer) → Splits (reply_line line answer) (spelled line ∷ answer_fields answer)
unfolding reply_line all_clean
reply_splits line answer = line_splits (spelled line) (answer_fields answer) (both (clean_number line) (answer_clean answer))

-- so the fields of the reply to such an answer
pub reply_fields : (line : ℕ) (answer : Answer) → start_in_range answer ≡ true → ReplyTo line answer (reply_line line answer)
reply_fields line answer within =
    record {
      number = spelled line;
      fields = answer_fields answer;
      numbered = spelled_digits line;
      answered = answer_fields_lem answer within;
      splits = reply_splits line answer;
    }

pub sum_fields : (taken kept : ℕ) → SumOf taken kept (sum_line taken kept)
unfolding sum_line all_clean is_clean bytes
sum_fields taken kept =
    record {
      taken_digits = spelled taken;
      kept_digits = spelled kept;
      counts_taken = spelled_digits taken;
      counts_kept = spelled_digits kept;
      splits = record { some = omega arith; clean = both (clean_number taken) (both (clean_number kept) refl); joined = refl };
    }

-- a text spells one hour
hour_of_one : (text : List ℕ) (one other : ℕ) → Spells 44 text one → Spells 44 text other → one ≡ other
hour_of_one text one other p q = same_right (sym ((reads_exactly text one).1 p) ∙ (reads_exactly text other).1 q)

-- the first byte of some fields, and their field at a place
abbrev initial : List (List ℕ) → ℕ
initial fields = get_or (get_or fields 0 []) 0 0

abbrev field_at : ℕ → List (List ℕ) → List ℕ
field_at place fields = get_or fields place []

-- fields are those of one answer
answer_once : {one other : Answer} {fields same : List (List ℕ)} → AnswerFields one fields → AnswerFields other same → fields ≡ same → one ≡ other
answer_once (yes_fields chamber start house hour digits timed) (yes_fields other later room time figures clocked) e =
    let chambers : chamber ≡ other = digits_of_one digits (rw (← ap (field_at 1) e) at figures) in
    let starts : start ≡ later = hour_of_one hour start later timed.spells (rw (← ap (field_at 2) e) at clocked.spells) in
    rw (chambers, starts)
answer_once (yes_fields chamber start house hour digits timed) no_fields e = absurd (omega (arith, ap initial e))
answer_once (yes_fields chamber start house hour digits timed) (bad_fields number word figures) e = absurd (omega (arith, ap initial e))
answer_once no_fields (yes_fields other later room time figures clocked) e = absurd (omega (arith, ap initial e))
answer_once no_fields no_fields e = refl
answer_once no_fields (bad_fields number word figures) e = absurd (omega (arith, ap initial e))
answer_once (bad_fields number word digits) (yes_fields other later room time figures clocked) e = absurd (omega (arith, ap initial e))
answer_once (bad_fields number word digits) no_fields e = absurd (omega (arith, ap initial e))
answer_once (bad_fields number word digits) (bad_fields other same figures) e =
    ap Refused (digits_of_one digits (rw (← ap (field_at 1) e) at figures))

-- so a text is the reply to one line, with one answer
pub reply_once :
    (text : List ℕ) (line other_line : ℕ) (answer other : Answer) → ReplyTo line answer text → ReplyTo other_line other text → (line ≡ other_line) × (answer ≡ other)
reply_once text line other_line answer other p q =
    let same = one_split p.splits q.splits in (
      digits_of_one p.numbered (rw (← ap (field_at 0) same) at q.numbered),
      answer_once p.answered q.answered (ap rest same),
    )
  where
    rest : List (List ℕ) → List (List ℕ)
    rest [] = []
    rest (first ∷ others) = others

-- and one sum
pub sum_once : (text : List ℕ) (taken kept other_taken other_kept : ℕ) → SumOf taken kept text → SumOf other_taken other_kept text → (taken ≡ other_taken) × (kept ≡ other_kept)
sum_once text taken kept other_taken other_kept p q =
    let same = one_split p.splits q.splits in (
      digits_of_one p.counts_taken (rw (← ap (field_at 1) same) at q.counts_taken),
      digits_of_one p.counts_kept (rw (← ap (field_at 2) same) at q.counts_kept),
    )
