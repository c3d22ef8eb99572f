-- What this room promises, about what its functions answer and about the definitions that their contracts cite, at the comma, 44.
-- Each is a line over a law of this folder. Assumes nothing.
use Prim.Native.Nat.{ℕ, ◌≤◌}
use mathlib.Core.Path.{◌≡◌, refl}
use mathlib.Core.List.{List}
use mathlib.Core.Logic.Iff
use mathlib.Core.Logic.{◌↔◌}
use contract.Lifetimes.{Lfts}
use Rattle.std.specs.Prelude.{Result, Ok, Err}
use Rattle.ground.specs.declared.Refusal.{Refusal}
use Rattle.ground.specs.declared.Refusal.TheVariants.{NotPlain, NotHour}
use Rattle.ground.specs.Refusal.{wrong, right, refusal_number, as_read}
use Rattle.ground.specs.Spelling.{Plain, value_of}
use Rattle.ground.specs.Outcome.{Single}
use Rattle.ground.proofs.Refusals.{refusals_told, answers_told}
use Rattle.ground.proofs.Outcome.{single_answer, answered_exactly}
use Rattle.hours.specs.Spelling.{Spells}
use Rattle.hours.specs.Reading.{hour_of, plain_of}
use Rattle.hours.proofs.Spelling as spelling
use Rattle.hours.proofs.read_hour.Reads as read_hour
use Rattle.hours.proofs.read_plain.Reads as read_plain

-- 2d: a field reads as an hour exactly when it is spelled as the paper says
pub reads_exactly : (field : List ℕ) (hour : ℕ) → (hour_of 44 field ≡ right hour) ↔ Spells 44 field hour
reads_exactly = spelling.reads_exactly 44 refl

-- and every hour that is read is at most 999,999
pub read_at_most : (field : List ℕ) (hour : ℕ) → hour_of 44 field ≡ right hour → hour ≤ 999_999
read_at_most = spelling.read_at_most 44 refl

-- 1b: refusal 3, and no other, exactly when the field spells no hour
pub refused_by_three : (field : List ℕ) (number : ℕ) → (hour_of 44 field ≡ wrong number) ↔ ((number ≡ 3) × ((hour : ℕ) → Spells 44 field hour → ⊥))
refused_by_three = spelling.refused_exactly 44 refl

-- a field reads as a plain number exactly when it is one, and as what it is worth
pub plain_exactly : (field : List ℕ) (number : ℕ) → (plain_of field ≡ right number) ↔ (Plain field × (number ≡ value_of field))
plain_exactly = spelling.plain_exactly

-- 1b: refusal 2, and no other, exactly when it is none
pub refused_by_two : (field : List ℕ) (number : ℕ) → (plain_of field ≡ wrong number) ↔ ((number ≡ 2) × (Plain field → ⊥))
refused_by_two = spelling.plain_refused

module _ (κs : Lfts 1) (field : _) (after : _) where
  -- 1d: the contract of `read_hour` admits a single outcome
  pub read_hour_single : Single (λ answer. read_hour.Learnt κs (field, tt) answer (after, tt))
  read_hour_single = single_answer as_read answers_told (hour_of 44 field.now)

  -- it answers an hour exactly when the field spells it
  pub read_hour_exactly :
      (answer : Result ℕ Refusal) → read_hour.Learnt κs (field, tt) answer (after, tt) → (hour : ℕ) → (answer ≡ Ok hour) ↔ Spells 44 field.now hour
  read_hour_exactly answer learnt hour =
      Iff.trans (answered_exactly as_read answers_told answer (Ok hour) learnt) (reads_exactly field.now hour)

  -- and refuses it as no hour, by 3, exactly when it spells none
  pub read_hour_refused :
      (answer : Result ℕ Refusal) → read_hour.Learnt κs (field, tt) answer (after, tt) → (refusal : Refusal)
      → (answer ≡ Err refusal) ↔ ((refusal ≡ NotHour) × (refusal_number refusal ≡ 3) × ((hour : ℕ) → Spells 44 field.now hour → ⊥))
  read_hour_refused answer learnt refusal =
      let exactly = Iff.trans (answered_exactly as_read answers_told answer (Err refusal) learnt) (refused_by_three field.now (refusal_number refusal)) in (
        λ refused. let is = exactly.0 refused in (refusals_told refusal NotHour is.0, is.0, is.1),
        λ is. exactly.1 (is.1, is.2),
      )

  -- 1d: the contract of `read_plain` admits a single outcome
  pub read_plain_single : Single (λ answer. read_plain.Learnt κs (field, tt) answer (after, tt))
  read_plain_single = single_answer as_read answers_told (plain_of field.now)

  -- it answers a number exactly when the field is plain and worth it
  pub read_plain_exactly :
      (answer : Result ℕ Refusal) → read_plain.Learnt κs (field, tt) answer (after, tt) → (number : ℕ)
      → (answer ≡ Ok number) ↔ (Plain field.now × (number ≡ value_of field.now))
  read_plain_exactly answer learnt number =
      Iff.trans (answered_exactly as_read answers_told answer (Ok number) learnt) (plain_exactly field.now number)

  -- and refuses it as no plain number, by 2, exactly when it is not plain
  pub read_plain_refused :
      (answer : Result ℕ Refusal) → read_plain.Learnt κs (field, tt) answer (after, tt) → (refusal : Refusal)
      → (answer ≡ Err refusal) ↔ ((refusal ≡ NotPlain) × (refusal_number refusal ≡ 2) × (Plain field.now → ⊥))
  read_plain_refused answer learnt refusal =
      let exactly = Iff.trans (answered_exactly as_read answers_told answer (Err refusal) learnt) (refused_by_two field.now (refusal_number refusal)) in (
        λ refused. let is = exactly.0 refused in (refusals_told refusal NotPlain is.0, is.0, is.1),
        λ is. exactly.1 (is.1, is.2),
      )

-- 1a: no public function asks anything of what it is passed
pub nothing_asked :
    ((κs : Lfts 1) (passed : _) → read_hour.Asked κs passed)
    × ((κs : Lfts 1) (passed : _) → read_plain.Asked κs passed)
nothing_asked = (λ κs passed. tt, λ κs passed. tt)
