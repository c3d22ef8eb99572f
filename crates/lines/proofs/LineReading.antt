-- Laws of reading a line by its cut: one of any number of fields, and one of three. Assumes nothing.
use Prim.Native.Nat.{ℕ, zero, suc, ◌+◌, ◌≤◌, ◌<◌}
use mathlib.Core.Path.{◌≡◌, refl, sym, ap, ◌∙◌}
use mathlib.Core.Bool.{Bool, true, false, cond}
use mathlib.Core.List.{List, [], ◌∷◌}
use mathlib.Core.Logic.{⊎_elim}
use lib.ListN.{length, get_or, drop, drop_of_length-le}
use lib.Seq.{drop-cons}
use lib.Dec.{eqb}
use native.Mathlib.Omega.{arith}
use borrow.Author.Tests.{eqb-true, eqb-false}
use Rattle.ground.specs.Refusal.{Read, wrong, right, check, ◌>>=◌, ◌>>◌}
use Rattle.ground.specs.Range.{within}
use Rattle.ground.proofs.Tests.{by_test, never_both}
use Rattle.ground.proofs.Range.{within_from, within_low, within_high}
use Rattle.classes.specs.Classes.{comma}
use Rattle.hours.specs.Reading.{hour_of, plain_of}
use Rattle.fields.specs.Fields.{same_bytes, fields_of}
use Rattle.fields.specs.Cutting.{most_fields, cut_of, field_at}
use Rattle.fields.specs.declared.Cut.{Cut}
use Rattle.fields.proofs.Found.{count_exactly, field_found}
use Rattle.fields.proofs.Promises.{splits_exactly, has_fields, shape_ways}
use Rattle.ground.specs.Text.{bytes}
use Rattle.lines.specs.Reading.{steam, steam_at, ranged, plain_within, hour_within, read_all, line_of}
use Rattle.lines.specs.Steps.{three_of}

-- the fields of a line by its cut, so many from a place on
abbrev pub by_cut : List ℕ → Cut → ℕ → ℕ → List (List ℕ)
by_cut line cut place zero = []
by_cut line cut place (suc count) = field_at line cut place ∷ by_cut line cut (suc place) count

-- texts that are these fields, one by one, are their list
texts_by_cut :
    (line : List ℕ) (cut : Cut) (texts : List (List ℕ)) → ((place : ℕ) → place < length texts → field_at line cut place ≡ get_or texts place [])
    → (place count : ℕ) → place + count ≡ length texts → drop place texts ≡ by_cut line cut place count
texts_by_cut line cut texts same place zero ends = drop_of_length-le texts {i = place} (omega arith)
texts_by_cut line cut texts same place (suc count) ends =
    rw (drop-cons texts place [] (omega arith), same place (omega arith)) (ap (λ rest. get_or texts place [] ∷ rest) (texts_by_cut line cut texts same (suc place) count (omega arith)))

-- A line by its cut, with a field for each reader or not.
module _
    (readers : List (List ℕ → Read ℕ))
    (line : List ℕ)
    {cut : Cut}
    (was_cut : cut ≡ cut_of line)
    (some : 1 ≤ length readers)
    {shaped : Bool}
    (tested : shaped ≡ within (length readers) (length readers) cut.count)
  where
    counted : cut.count ≡ (cut_of line).count
    counted = ap (λ (found : Cut). found.count) was_cut

    -- with too few fields or too many it is refused by 1
    pub line_misshapen : shaped ≡ false → line_of (length readers) readers line ≡ wrong 1
    unfolding line_of
    line_misshapen failed =
        ⊎_elim
        (λ met.
        let has = (has_fields (length readers) (length readers) line).0 met in
        let count = (count_exactly line has.0 (omega (arith, has.2))).1 has.1 in
        let inside = within_from (length readers) (length readers) cut.count (omega (arith, has.2, counted)) (omega (arith, has.3, counted)) in
        absurd (never_both inside (sym tested ∙ failed)))
        (λ unmet. rw unmet) (shape_ways (length readers) (length readers) line)

    -- else it comes to what its fields do, each read by its reader
    pub line_read : length readers ≤ most_fields → shaped ≡ true → line_of (length readers) readers line ≡ read_all readers (by_cut line cut 0 (length readers))
    unfolding line_of
    line_read room passed =
        let inside = sym tested ∙ passed in
        let low = within_low (length readers) (length readers) cut.count inside in
        let high = within_high (length readers) (length readers) cut.count inside in
        let has = (count_exactly line (length readers) some).0 (omega (arith, counted)) in
        let shape = (has_fields (length readers) (length readers) line).1 (length readers, has, omega arith, omega arith) in
        let count : length readers ≡ length has.fields = sym has.counted in
        rw (shape, ((splits_exactly line has.fields).1 has.splits).1)
        (ap (read_all readers)
        (texts_by_cut line cut has.fields
        (λ place there. ap (λ (found : Cut). field_at line found place) was_cut ∙ field_found line has.fields has.splits place there (omega arith)) 0
        (length readers) (omega arith)))

    -- so in both cases it comes to one or the other
    pub line_comes : length readers ≤ most_fields → line_of (length readers) readers line ≡ cond shaped (read_all readers (by_cut line cut 0 (length readers))) (wrong 1)
    line_comes room = by_test shaped (λ passed. rw passed (line_read room passed)) (λ failed. rw failed (line_misshapen failed))

-- three texts are their list
three_texts : (texts : List (List ℕ)) → length texts ≡ 3 → texts ≡ get_or texts 0 [] ∷ get_or texts 1 [] ∷ get_or texts 2 [] ∷ []
three_texts [] count = absurd (omega arith)
three_texts (one ∷ []) count = absurd (omega arith)
three_texts (one ∷ other ∷ []) count = absurd (omega arith)
three_texts (one ∷ other ∷ last ∷ []) count = refl
three_texts (one ∷ other ∷ last ∷ more ∷ texts) count = absurd (omega arith)

-- a line of three fields by its cut has them, and any other is refused by 1
pub three_by_cut :
    (line : List ℕ)
    → three_of line
    ≡ cond (eqb (cut_of line).count 3) (right (field_at line (cut_of line) 0 ∷ field_at line (cut_of line) 1 ∷ field_at line (cut_of line) 2 ∷ [])) (wrong 1)
unfolding three_of
three_by_cut line =
    by_test (eqb (cut_of line).count 3)
    (λ three.
    let has = (count_exactly line 3 (omega arith)).0 (eqb-true _ _ three) in
    let shape = (has_fields 3 3 line).1 (3, has, omega arith, omega arith) in
    let count = has.counted in
    let one = field_found line has.fields has.splits 0 (omega arith) (omega arith) in
    let other = field_found line has.fields has.splits 1 (omega arith) (omega arith) in
    let last = field_found line has.fields has.splits 2 (omega arith) (omega arith) in
    rw (three, shape, ((splits_exactly line has.fields).1 has.splits).1, one, other, last) (ap right (three_texts has.fields has.counted)))
    (λ differs.
    ⊎_elim
    (λ met.
    let has = (has_fields 3 3 line).0 met in
    absurd (eqb-false _ _ differs ((count_exactly line 3 (omega arith)).1 (record { fields = has.1.fields; splits = has.1.splits; counted = omega (arith, has.1.counted, has.2, has.3) }))))
    (λ unmet. rw differs (ap (λ (shape : Read (Unit {0})). shape >> right (fields_of line)) unmet)) (shape_ways 3 3 line))

-- and its fields are read
pub line_by_three :
    (line : List ℕ) (one other last : List ℕ → Read ℕ)
    → line_of 3 (one ∷ other ∷ last ∷ []) line ≡ (three_of line >>= read_all (one ∷ other ∷ last ∷ []))
unfolding line_of three_of
line_by_three line one other last = ⊎_elim (λ met. rw met) (λ unmet. rw unmet) (shape_ways 3 3 line)

-- what the reader of each field comes to
pub word_is : (text : List ℕ) → steam_at text ≡ (check (same_bytes text (115 ∷ 116 ∷ 101 ∷ 97 ∷ 109 ∷ [])) 1 >> right 0)
unfolding steam bytes steam_at
word_is text = refl

pub plain_is : (low high : ℕ) (text : List ℕ) → plain_within low high text ≡ (plain_of text >>= ranged low high)
unfolding plain_within
plain_is low high text = refl

pub hour_is : (low high : ℕ) (text : List ℕ) → hour_within low high text ≡ (hour_of comma text >>= ranged low high)
unfolding hour_within
hour_is low high text = refl

-- a line by its fields
pub ruleset by_fields = (line_by_three, word_is, plain_is, hour_is)
