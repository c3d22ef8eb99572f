-- Laws of the scan that cuts a line, byte after byte, and of the part between two places of a cut. Assumes nothing.
use Prim.Native.Nat.{ℕ, suc, ◌+◌, ◌-◌, ◌≤◌, ◌<◌}
use mathlib.Core.Path.{◌≡◌, refl, ap, ◌∙◌}
use mathlib.Core.Bool.{true, false, cond}
use mathlib.Core.List.{List, [], ◌∷◌}
use lib.ListN.{length, get_or, take, drop, length-drop, drop_of_length-le}
use lib.Seq.{drop-cons, length-take-le}
use lib.Dec.{eqb}
use native.Mathlib.Numerals.{add-one}
use native.Mathlib.Omega.{arith}
use borrow.Author.Tests.{eqb-true, eqb-false, eq-eqb, ne_eqb, le-leb}
use Rattle.ground.proofs.Tests.{by_test}
use Rattle.ground.specs.Range.{within}
use Rattle.ground.proofs.Range.{within_low, within_high, outside_exactly}
use Rattle.classes.specs.Classes.{comma, is_digit, class_of}
use Rattle.classes.specs.declared.Class.TheVariants.{Tab, LineEnd}
use Rattle.texts.specs.Lines.{line_end, before, part_of, part_start}
use Rattle.fields.specs.Fields.{tab, is_none, is_ended, fields_of}
use Rattle.fields.specs.Cutting.{no_cut, in_field, one_field_more, cut_from, end_of, start_of, lies, field_at, field_start}
use Rattle.fields.specs.declared.Cut.{Cut}
use Rattle.fields.proofs.Splits.{splits_ended}

-- what is found with these fields too, which stand one behind the other, the first from a place on
unfoldable pub with_fields : Cut → ℕ → List (List ℕ) → Cut
with_fields found at [] = found
with_fields found at (field ∷ fields) = with_fields (one_field_more found (at + length field)) (suc (at + length field)) fields

-- a byte in front of the first makes it start earlier
with_before :
    (byte : ℕ) (found : Cut) (at : ℕ) (fields : List (List ℕ)) → 1 ≤ length fields
    → with_fields found at (before byte fields) ≡ with_fields found (suc at) fields
unfolding with_fields
with_before byte found at [] some = absurd (omega arith)
with_before byte found at (field ∷ fields) some =
    ap (λ (end : ℕ). with_fields (one_field_more found end) (suc end) fields) (omega arith)

-- a byte that is neither a tab nor a line end stands in a field
stands_in_field : (byte : ℕ) → eqb byte tab ≡ false → eqb byte line_end ≡ false → in_field (class_of comma byte) ≡ true
unfolding class_of
stands_in_field byte no_tab no_end =
    rw (no_tab, no_end)
    (by_test (is_digit byte) (λ digit. rw digit)
    (λ other. by_test (eqb byte comma) (λ mark. rw (other, mark)) (λ foreign. rw (other, foreign))))

-- a line that ends is cut where its fields end, and no other is
pub cut_from_lem :
    (line : List ℕ) (found : Cut) (at : ℕ) → cut_from found at line ≡ cond (is_ended line) (with_fields found at (fields_of line)) no_cut
unfolding cut_from is_ended fields_of with_fields class_of
cut_from_lem [] found at = refl
cut_from_lem (byte ∷ rest) found at =
    let same : at + 0 ≡ at = omega arith in
    by_test (eqb byte tab)
    (λ is_tab. let here : byte ≡ tab = eqb-true _ _ is_tab in rw (here, same) (cut_from_lem rest (one_field_more found at) (suc at)))
    (λ no_tab.
    by_test (eqb byte line_end) (λ is_end. let here : byte ≡ line_end = eqb-true _ _ is_end in rw (here, same))
    (λ no_end.
    rw (stands_in_field byte no_tab no_end, no_tab, no_end)
    (cut_from_lem rest found (suc at)
    ∙ by_test (is_ended rest) (λ ends. rw (ends, with_before byte found at (fields_of rest) (splits_ended rest ends).some)) (λ goes. rw goes))))

-- nothing is left exactly at the end
none_left : (line : List ℕ) (at : ℕ) → at < length line → is_none (drop (at + 1) line) ≡ eqb (at + 1) (length line)
none_left line at inside =
    by_test (eqb (at + 1) (length line))
    (λ last. let past : length line ≤ at + 1 = omega (arith, eqb-true (at + 1) (length line) last) in rw (last, drop_of_length-le line past))
    (λ more.
    let other : at + 1 ≡ length line → ⊥ = eqb-false _ _ more in
    rw (more, drop-cons line (at + 1) 0 (omega arith)))

-- The scan, byte after byte: one that stands in a field goes on, and a tab goes on with one field more; a line end ends the line, and what
-- something follows has no field.
module _ (line : List ℕ) (found : Cut) (at : ℕ) (inside : at < length line) where
  pub cut_inside : in_field (class_of comma (get_or line at 0)) ≡ true → cut_from found at (drop at line) ≡ cut_from found (at + 1) (drop (at + 1) line)
  unfolding cut_from
  cut_inside stands = rw (drop-cons line at 0 inside, stands, add-one at)

  pub cut_tab :
      class_of comma (get_or line at 0) ≡ Tab
      → cut_from found at (drop at line) ≡ cut_from (one_field_more found at) (at + 1) (drop (at + 1) line)
  unfolding cut_from
  cut_tab tabs = rw (drop-cons line at 0 inside, tabs, add-one at)

  pub cut_last :
      class_of comma (get_or line at 0) ≡ LineEnd → at + 1 ≡ length line → cut_from found at (drop at line) ≡ one_field_more found at
  unfolding cut_from
  cut_last ends last = rw (drop-cons line at 0 inside, ends, ← add-one at, none_left line at inside, eq-eqb _ _ last)

  pub cut_followed :
      class_of comma (get_or line at 0) ≡ LineEnd → (at + 1 ≡ length line → ⊥) → cut_from found at (drop at line) ≡ no_cut
  unfolding cut_from
  cut_followed ends more = rw (drop-cons line at 0 inside, ends, ← add-one at, none_left line at inside, ne_eqb _ _ more)

-- a line that has not ended at the end of all bytes has none
pub cut_unended : (line : List ℕ) (found : Cut) (at : ℕ) → length line ≤ at → cut_from found at (drop at line) ≡ no_cut
unfolding cut_from
cut_unended line found at past = rw (drop_of_length-le line past)

-- what the scan's loop is proved by
pub ruleset cut_steps = (cut_inside, cut_tab, cut_last, cut_followed, cut_unended)

-- A part of a line between two places of a cut.
module _ (line : List ℕ) (cut : Cut) (place : ℕ) where
  -- it is there where the places lie in the line, in order
  pub part_there :
      (start end : ℕ) → start ≡ start_of cut place → end ≡ end_of cut place → start ≤ end → end ≤ length line
      → (take (end - start) (drop start line) ≡ field_at line cut place) × (start ≡ field_start line cut place)
  unfolding field_at field_start lies
  part_there start end starts ends order inside = rw (← starts, ← ends, le-leb _ _ order, le-leb _ _ inside) (refl, refl)

  -- else there is the empty front
  pub no_part :
      ((start_of cut place ≤ end_of cut place) × (end_of cut place ≤ length line) → ⊥)
      → (field_at line cut place ≡ []) × (field_start line cut place ≡ 0)
  unfolding field_at field_start lies
  no_part never = rw ((outside_exactly (start_of cut place) (length line) (end_of cut place)).1 never) (refl, refl)

  -- either way it is a part of the line
  pub part_lies :
      (field_start line cut place + length (field_at line cut place) ≤ length line)
      × (field_at line cut place ≡ take (length (field_at line cut place)) (drop (field_start line cut place) line))
  unfolding field_at field_start lies
  part_lies =
      by_test (within (start_of cut place) (length line) (end_of cut place))
      (λ inside.
      let order = within_low (start_of cut place) (length line) (end_of cut place) inside in
      let most = within_high (start_of cut place) (length line) (end_of cut place) inside in
      let long : length (take (end_of cut place - start_of cut place) (drop (start_of cut place) line)) ≡ end_of cut place - start_of cut place =
      length-take-le _ _ (omega (arith, length-drop (start_of cut place) line)) in
      rw (inside, long) (omega arith, refl))
      (λ outside. rw outside (omega arith, refl))

  -- and it is the part of a text between those places
  pub is_part :
      (field_at line cut place ≡ part_of line (start_of cut place) (end_of cut place))
      × (field_start line cut place ≡ part_start line (start_of cut place) (end_of cut place))
  unfolding field_at field_start lies part_of part_start
  is_part = (refl, refl)
