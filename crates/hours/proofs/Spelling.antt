-- Reading goes by the spelling: a field reads as an hour exactly when it spells it,
-- over any decimal mark that is no digit. Assumes nothing.
use Prim.Native.Nat.{ℕ, ◌+◌, ◌*◌, ◌≤◌, ◌<◌}
use mathlib.Core.Path.{◌≡◌, refl, sym, ap, ◌∙◌}
use mathlib.Core.Bool.{false}
use mathlib.Core.List.{List, [], ◌∷◌, ◌++◌, append-nil, append_assoc}
use mathlib.Core.Logic.{◌↔◌}
use lib.ListN.{length, length-append}
use lib.Dec.{eqb}
use borrow.Author.Tests.{eqb-true}
use native.Mathlib.Omega.{arith}
use Rattle.ground.specs.Refusal.{wrong, right}
use Rattle.ground.specs.Range.{within}
use Rattle.ground.specs.Limits.{last_hour}
use Rattle.ground.specs.Spelling.{DigitByte, value_after, value_of, Plain}
use Rattle.ground.proofs.Tests.{by_test}
use Rattle.ground.proofs.Promises.{within_exactly}
use Rattle.ground.proofs.Checks.{ReadAs, refused_otherwise}
use Rattle.ground.proofs.Digits.{plain_one, plain_more, plain_worth, value_more}
use Rattle.classes.specs.Classes.{comma, is_digit, digit_of, class_of}
use Rattle.classes.proofs.Classes.{digit_found, class_of_digit, class_of_mark}
use Rattle.hours.specs.Spelling.{Spells}
use Rattle.hours.specs.Spelling.Spells.{hours, tenths, hundredths}
use Rattle.hours.specs.Reading.{longer, next_at_digit, next_at_mark, next, scanned, ended, hour_of, ended_plain, plain_of}
use Rattle.hours.specs.declared.Stage.{Stage}
use Rattle.hours.specs.declared.Stage.TheVariants.{Start, Whole, Marked, Tenth, Hundredth, Broken}
use Rattle.hours.proofs.Scanning.{scan_append, after_another, scan_plain}

-- a word that is a whole part, and what it is worth
record WholePart (word : List ℕ) (whole : ℕ) : Type 0 where
  plain : Plain word
  worth : value_of word ≡ whole

-- a word, the mark, and digits after it
record Front (mark : ℕ) (front : List ℕ) (whole : ℕ) (after : List ℕ) : Type 0 where
  word : List ℕ
  part : WholePart word whole
  spelled : front ≡ word ++ mark ∷ after

-- what has been read where the reading has come to a stage
abbrev Reached : ℕ → List ℕ → Stage → Type 0
Reached mark front Start = front ≡ []
Reached mark front (Whole whole) = WholePart front whole
Reached mark front (Marked whole) = Front mark front whole []
Reached mark front (Tenth whole tenth) =
    (first : ℕ) × DigitByte first × (digit_of first ≡ tenth) × Front mark front whole (first ∷ [])
Reached mark front (Hundredth whole tenth hundredth) =
    (first : ℕ) × (second : ℕ) × DigitByte first × DigitByte second × (digit_of first ≡ tenth) × (digit_of second ≡ hundredth)
    × Front mark front whole (first ∷ second ∷ [])
Reached mark front Broken = Unit {0}

-- a byte more behind the mark
front_more : {mark : ℕ} {front : List ℕ} {whole : ℕ} {after : List ℕ} (byte : ℕ) → Front mark front whole after → Front mark (front ++ byte ∷ []) whole (after ++ byte ∷ [])
front_more {mark} {after = after} byte f =
    record { word = f.word; part = f.part; spelled = ap (λ (l : List ℕ). l ++ byte ∷ []) f.spelled ∙ append_assoc f.word (mark ∷ after) (byte ∷ []) }

-- a digit more in the whole part, where it takes one
part_more :
    (mark : ℕ) (front : List ℕ) (whole byte : ℕ) → DigitByte byte → WholePart front whole
    → Reached mark (front ++ byte ∷ []) (longer whole (digit_of byte))
part_more mark front whole byte digit p =
    by_test (within 1 999 whole)
    (λ inside.
    let bounds = (within_exactly 1 999 whole).0 inside in
    rw inside
    (record {
      plain = plain_more front byte p.plain (omega (arith, p.worth, bounds.0)) (omega (arith, p.worth, bounds.1)) digit;
      worth = value_more front byte ∙ ap (λ (w : ℕ). w * 10 + digit_of byte) p.worth;
    }))
    (λ outside. rw outside tt)

reached_digit :
    (mark : ℕ) (front : List ℕ) (stage : Stage) (byte : ℕ) → DigitByte byte → Reached mark front stage
    → Reached mark (front ++ byte ∷ []) (next_at_digit stage (digit_of byte))
unfolding value_of value_after
reached_digit mark front Start byte digit r =
    rw r (record { plain = plain_one byte digit; worth = omega arith })
reached_digit mark front (Whole whole) byte digit r = part_more mark front whole byte digit r
reached_digit mark front (Marked whole) byte digit r = (byte, digit, refl, front_more byte r)
reached_digit mark front (Tenth whole tenth) byte digit r = (r.0, byte, r.1, digit, r.2, refl, front_more byte r.3)
reached_digit mark front (Hundredth whole tenth hundredth) byte digit r = tt
reached_digit mark front Broken byte digit r = tt

reached_mark : (mark : ℕ) (front : List ℕ) (stage : Stage) → Reached mark front stage → Reached mark (front ++ mark ∷ []) (next_at_mark stage)
reached_mark mark front Start r = tt
reached_mark mark front (Whole whole) r = record { word = front; part = r; spelled = refl }
reached_mark mark front (Marked whole) r = tt
reached_mark mark front (Tenth whole tenth) r = tt
reached_mark mark front (Hundredth whole tenth hundredth) r = tt
reached_mark mark front Broken r = tt

-- an hour that is spelled is at most 9999,99, in at most seven bytes
spelled_most : {mark : ℕ} (field : List ℕ) (hour : ℕ) → Spells mark field hour → (hour ≤ last_hour) × (length field ≤ 7)
spelled_most field hour (hours plain e) = (omega (arith, plain_worth field plain), omega (arith, plain.most))
spelled_most field hour (tenths word tenth plain digit spelled e) =
    (omega (arith, plain_worth word plain), rw spelled (simp length-append (omega (arith, plain.most))))
spelled_most field hour (hundredths word tenth hundredth plain digit other spelled e) =
    (omega (arith, plain_worth word plain), rw spelled (simp length-append (omega (arith, plain.most))))

module _ (mark : ℕ) (unlike : is_digit mark ≡ false) where
  reached_byte :
      (front : List ℕ) (stage : Stage) (byte : ℕ) → Reached mark front stage → Reached mark (front ++ byte ∷ []) (next stage (class_of mark byte))
  reached_byte front stage byte r =
      by_test (is_digit byte)
      (λ tested. let digit = digit_found byte tested in rw (class_of_digit mark byte digit) (reached_digit mark front stage byte digit r))
      (λ other.
      by_test (eqb byte mark) (λ same. rw (eqb-true byte mark same, class_of_mark mark unlike) (reached_mark mark front stage r))
      (λ foreign. rw (after_another mark byte stage other foreign) tt))

  reached :
      (front : List ℕ) (stage : Stage) (rest : List ℕ) → Reached mark front stage → Reached mark (front ++ rest) (scanned mark stage rest)
  unfolding scanned
  reached front stage [] r = rw append-nil r
  reached front stage (byte ∷ rest) r =
      rw append_assoc at
      (reached (front ++ byte ∷ []) (next stage (class_of mark byte)) rest (reached_byte front stage byte r))

  -- what has been read at the end of a field is what it spells, and the only refusal is 3
  says_at : (field : List ℕ) (stage : Stage) → Reached mark field stage → ReadAs (Spells mark field) 3 (ended stage)
  says_at field Start r = refl
  says_at field (Whole whole) r = hours r.plain (omega (arith, r.worth))
  says_at field (Marked whole) r = refl
  says_at field (Tenth whole tenth) r =
      let f = r.3 in
      tenths f.word r.0 f.part.plain r.1 f.spelled (omega (arith, f.part.worth, r.2))
  says_at field (Hundredth whole tenth hundredth) r =
      let f = r.6 in
      hundredths f.word r.0 r.1 f.part.plain r.2 r.3 f.spelled (omega (arith, f.part.worth, r.4, r.5))
  says_at field Broken r = refl

  says : (field : List ℕ) → ReadAs (Spells mark field) 3 (hour_of mark field)
  unfolding hour_of
  says field = says_at field (scanned mark Start field) (reached [] Start field refl)

  -- and a field reads as what it spells
  reads_what_it_spells : (field : List ℕ) (hour : ℕ) → Spells mark field hour → hour_of mark field ≡ right hour
  unfolding hour_of scanned
  reads_what_it_spells field hour (hours plain e) = rw (scan_plain mark field plain, e) (ap right (omega arith))
  reads_what_it_spells field hour (tenths word tenth plain digit spelled e) =
      rw (spelled, scan_append mark Start word, scan_plain mark word plain, class_of_mark mark unlike, class_of_digit mark tenth digit, e) (ap right (omega arith))
  reads_what_it_spells field hour (hundredths word tenth hundredth plain digit other spelled e) =
      rw (spelled, scan_append mark Start word, scan_plain mark word plain, class_of_mark mark unlike, class_of_digit mark tenth digit, class_of_digit mark hundredth other, e)

  -- a field reads as an hour exactly when it spells it
  pub reads_exactly : (field : List ℕ) (hour : ℕ) → (hour_of mark field ≡ right hour) ↔ Spells mark field hour
  reads_exactly field hour = (λ e. rw e at (says field), reads_what_it_spells field hour)

  -- and it is refused, by 3, exactly when it spells none
  pub refused_exactly : (field : List ℕ) (number : ℕ) → (hour_of mark field ≡ wrong number) ↔ ((number ≡ 3) × ((hour : ℕ) → Spells mark field hour → ⊥))
  refused_exactly field = refused_otherwise (hour_of mark field) 3 (Spells mark field) (says field) (reads_what_it_spells field)

  -- every hour that is read is at most the last one
  pub read_at_most : (field : List ℕ) (hour : ℕ) → hour_of mark field ≡ right hour → hour ≤ last_hour
  read_at_most field hour e = (spelled_most field hour ((reads_exactly field hour).0 e)).0

  -- a field of more than seven bytes is no hour
  pub too_long : (field : List ℕ) → 7 < length field → hour_of mark field ≡ wrong 3
  too_long field long = (refused_exactly field 3).1 (refl, λ hour spells. omega (arith, (spelled_most field hour spells).1))

-- and none with the comma
pub no_hour : (field : List ℕ) → 7 < length field → hour_of comma field ≡ wrong 3
no_hour = too_long comma refl

-- A field is a whole part with nothing behind it exactly when it is a plain number, and the only refusal of such a reading is 2.
plain_says_at : (field : List ℕ) (stage : Stage) → Reached comma field stage → ReadAs (λ number. Plain field × (number ≡ value_of field)) 2 (ended_plain stage)
plain_says_at field Start r = refl
plain_says_at field (Whole whole) r = (r.plain, sym r.worth)
plain_says_at field (Marked whole) r = refl
plain_says_at field (Tenth whole tenth) r = refl
plain_says_at field (Hundredth whole tenth hundredth) r = refl
plain_says_at field Broken r = refl

module _ (field : List ℕ) where
  plain_says : ReadAs (λ number. Plain field × (number ≡ value_of field)) 2 (plain_of field)
  unfolding plain_of
  plain_says = plain_says_at field (scanned comma Start field) (reached comma refl [] Start field refl)

  plain_reads : (number : ℕ) → Plain field × (number ≡ value_of field) → plain_of field ≡ right number
  unfolding plain_of
  plain_reads number facts = rw (scan_plain comma field facts.0, facts.1)

  pub plain_exactly : (number : ℕ) → (plain_of field ≡ right number) ↔ (Plain field × (number ≡ value_of field))
  plain_exactly number = (λ e. rw e at plain_says, plain_reads number)

  -- and it is refused, by 2, exactly when it is none
  pub plain_refused : (number : ℕ) → (plain_of field ≡ wrong number) ↔ ((number ≡ 2) × (Plain field → ⊥))
  plain_refused number =
      let exactly = refused_otherwise (plain_of field) 2 (λ worth. Plain field × (worth ≡ value_of field)) plain_says plain_reads number in (
        λ refused. ((exactly.0 refused).0, λ plain. (exactly.0 refused).1 (value_of field) (plain, refl)),
        λ none. exactly.1 (none.0, λ worth meant. none.1 meant.0),
      )
