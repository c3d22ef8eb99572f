-- Laws of the line of a judgement: the fields that it is put together from, how long the word in it is, what the line means, and that it
-- tells judgements apart. Assumes nothing.
use Prim.Native.Nat.{ℕ, ◌≤◌}
use mathlib.Core.Path.{◌≡◌, refl, sym, ap, ◌∙◌}
use mathlib.Core.Bool.{Bool, true, false}
use mathlib.Core.List.{List, [], ◌∷◌, head-eq_of_cons-eq, tail-eq_of_cons-eq}
use mathlib.Core.Logic.{◌↔◌}
use lib.ListN.{length, length-append}
use native.Mathlib.Omega.{arith}
use Rattle.std.specs.Prelude.{Result, Ok, Err}
use Rattle.ground.specs.Refusal.{Or, wrong, right}
use Rattle.ground.specs.Digits.{spelled}
use Rattle.ground.specs.Spelling.{value_of, DigitsOf}
use Rattle.ground.specs.Text.{bytes}
use Rattle.ground.proofs.Tests.{both, never_both}
use Rattle.ground.proofs.Checks.{never_right}
use Rattle.ground.proofs.Promises.{spelled_exactly}
use Rattle.fields.specs.Meaning.{is_clean, all_clean, tabbed}
use Rattle.fields.proofs.Promises.{one_split}
use Rattle.writer.specs.Line.{line_room}
use Rattle.writer.specs.Steps.{texts_of, line_made, bytes_of_all}
use Rattle.writer.proofs.Promises.{line_splits}
use Rattle.planlines.proofs.RoundTrip.{clean_number}
use Rattle.plans.specs.Judging.{judged, as_judged}
use Rattle.plans.specs.declared.Fault.{Fault}
use Rattle.judgements.specs.Judgements.{text_word, outcome_line, judgement_line, checked_line}
use Rattle.judgements.specs.Meaning.{RightLine, TextNamed, FaultLine}
use Rattle.judgements.specs.Steps.{judgement_put}

-- the word for a text at fault has at most six bytes
pub word_short : (plan : Bool) → length (text_word plan) ≤ 6
unfolding bytes
word_short true = omega arith
word_short false = omega arith

-- the line to be written is that of its fields
pub judgement_of_fields : (judged : Result ℕ Fault) → right (judgement_line judged) ≡ line_made (judgement_put judged)
unfolding outcome_line texts_of line_made
judgement_of_fields (Ok count) = refl
judgement_of_fields (Err fault) = refl

-- and no longer than they are
pub judgement_fits : (judged : Result ℕ Fault) → bytes_of_all (judgement_put judged) ≤ line_room → length (judgement_line judged) ≤ line_room
unfolding outcome_line bytes_of_all tabbed
judgement_fits (Ok count) room = simp length-append (omega arith)
judgement_fits (Err fault) room = simp length-append (omega arith)

-- and the line for two texts is that of the judgement that they have
pub checked_of : (list plan : List ℕ) (given : Result ℕ Fault) → as_judged given ≡ judged list plan → checked_line list plan ≡ judgement_line given
unfolding checked_line
checked_of list plan given same = ap outcome_line (sym same)

-- a number's digits are those that it is spelled by
spelled_so : (number : ℕ) → DigitsOf number (spelled number)
spelled_so number = (spelled_exactly number (spelled number)).0 refl

-- the word for a text at fault, and no other
text_named : (in_plan : Bool) (word : List ℕ) → (word ≡ text_word in_plan) ↔ TextNamed in_plan word
unfolding bytes
text_named true word = (λ same. record { as_plan = λ so. same; as_orders = λ so. absurd (never_both refl so) }, λ named. named.as_plan refl)
text_named false word = (λ same. record { as_plan = λ so. absurd (never_both so refl); as_orders = λ so. same }, λ named. named.as_orders refl)

-- no field has a tab or a line end in it
right_clean : (count : ℕ) → all_clean (bytes "right" ∷ spelled count ∷ []) ≡ true
unfolding all_clean is_clean bytes
right_clean count = both (clean_number count) refl

fault_clean : (number : ℕ) (in_plan : Bool) (at : ℕ) → all_clean (bytes "fault" ∷ spelled number ∷ text_word in_plan ∷ spelled at ∷ []) ≡ true
unfolding all_clean is_clean bytes
fault_clean number true at = both (clean_number number) (both (clean_number at) refl)
fault_clean number false at = both (clean_number number) (both (clean_number at) refl)

-- the line of right with a number, and no other
pub right_line : (count : ℕ) (line : List ℕ) → (line ≡ outcome_line (right count)) ↔ RightLine count line
unfolding outcome_line bytes
right_line count line = (
  λ same. record { digits = spelled count; splits = rw same (line_splits (bytes "right") (spelled count ∷ []) (right_clean count)); counted = spelled_so count },
  λ meant. rw (sym ((spelled_exactly count meant.digits).1 meant.counted)) meant.splits.joined,
)

-- the line of a fault, and no other
pub fault_line : (fault : Fault) (line : List ℕ) → (line ≡ outcome_line (wrong fault)) ↔ FaultLine fault.number fault.plan fault.line line
unfolding outcome_line bytes
fault_line fault line = (
  λ same.
      record {
        digits = spelled fault.number;
        text = text_word fault.plan;
        place = spelled fault.line;
        splits =
            rw same
            (line_splits (bytes "fault") (spelled fault.number ∷ text_word fault.plan ∷ spelled fault.line ∷ [])
            (fault_clean fault.number fault.plan fault.line));
        numbered = spelled_so fault.number;
        named = (text_named fault.plan (text_word fault.plan)).0 refl;
        placed = spelled_so fault.line;
      },
  λ meant.
      rw (
        sym ((spelled_exactly fault.number meant.digits).1 meant.numbered),
        sym ((text_named fault.plan meant.text).1 meant.named),
        sym ((spelled_exactly fault.line meant.place).1 meant.placed),
      ) meant.splits.joined,
)

-- digits are those of one number
one_number : {number other : ℕ} {word another : List ℕ} → word ≡ another → DigitsOf number word → DigitsOf other another → number ≡ other
one_number same p q = sym p.worth ∙ ap value_of same ∙ q.worth

-- a word names one text
one_text : (in_plan other : Bool) {word : List ℕ} → TextNamed in_plan word → TextNamed other word → in_plan ≡ other
one_text true true p q = refl
one_text true false p q = absurd (omega (arith, ap length (sym (p.as_plan refl) ∙ q.as_orders refl)))
one_text false true p q = absurd (omega (arith, ap length (sym (p.as_orders refl) ∙ q.as_plan refl)))
one_text false false p q = refl

-- a line says right with one number, or one fault's number, text and line, and never both
pub one_right : {count other : ℕ} {line : List ℕ} → RightLine count line → RightLine other line → count ≡ other
one_right p q = one_number (head-eq_of_cons-eq (tail-eq_of_cons-eq (one_split p.splits q.splits))) p.counted q.counted

pub one_fault :
    {number other at place : ℕ} {in_plan in_other : Bool} {line : List ℕ} → FaultLine number in_plan at line → FaultLine other in_other place line
    → (number ≡ other) × (in_plan ≡ in_other) × (at ≡ place)
one_fault p q =
    let behind = tail-eq_of_cons-eq (one_split p.splits q.splits) in
    let further = tail-eq_of_cons-eq behind in (
      one_number (head-eq_of_cons-eq behind) p.numbered q.numbered,
      one_text _ _ p.named (rw (sym (head-eq_of_cons-eq further)) at q.named),
      one_number (head-eq_of_cons-eq (tail-eq_of_cons-eq further)) p.placed q.placed,
    )

pub never_both_lines : {count number at : ℕ} {in_plan : Bool} {line : List ℕ} → RightLine count line → FaultLine number in_plan at line → ⊥
never_both_lines p q = omega (arith, ap length (one_split p.splits q.splits))

-- so the line of an outcome says right with a number exactly when the outcome is that
pub right_told : (outcome : Or Fault ℕ) (count : ℕ) → RightLine count (outcome_line outcome) ↔ (outcome ≡ right count)
right_told (right other) count = (
  λ said. ap right (one_right ((right_line other _).0 refl) said),
  λ same. (right_line count _).0 (ap outcome_line same),
)
right_told (wrong fault) count = (
  λ said. absurd (never_both_lines said ((fault_line fault _).0 refl)),
  λ same. absurd (never_right same),
)

-- and a fault exactly when it is one with that number, text and line
pub fault_told :
    (outcome : Or Fault ℕ) (number : ℕ) (in_plan : Bool) (at : ℕ)
    → FaultLine number in_plan at (outcome_line outcome)
    ↔ ((fault : Fault) × (outcome ≡ wrong fault) × (fault.number ≡ number) × (fault.plan ≡ in_plan) × (fault.line ≡ at))
fault_told (right count) number in_plan at = (
  λ said. absurd (never_both_lines ((right_line count _).0 refl) said),
  λ told. absurd (never_right (sym told.1)),
)
fault_told (wrong fault) number in_plan at = (
  λ said. let same = one_fault ((fault_line fault _).0 refl) said in (fault, refl, same.0, same.1, same.2),
  λ told. rw (sym told.2, sym told.3, sym told.4) ((fault_line told.0 _).0 (ap outcome_line told.1)),
)
