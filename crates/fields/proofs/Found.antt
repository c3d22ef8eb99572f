-- What a cut finds: the count of the fields that a line splits into, and each of them between its ends. Assumes nothing.
use Prim.Native.Nat.{ℕ, zero, suc, ◌+◌, ◌-◌, ◌≤◌, ◌<◌}
use mathlib.Core.Path.{◌≡◌, refl, sym, ap, ◌∙◌}
use mathlib.Core.Bool.{true, cond, ◌&&◌}
use mathlib.Core.List.{List, [], ◌∷◌, ◌++◌, append_assoc}
use mathlib.Core.Logic.{◌↔◌}
use lib.ListN.{length, get_or, take, drop, length-append, length-set, length-drop}
use lib.Seq.{get_or-set_same, get_or-set_other, take-append_seam, drop-append-add, drop-drop}
use lib.Dec.{ltb}
use native.Mathlib.Omega.{arith}
use borrow.Author.Tests.{lt-ltb, ltb-true}
use Rattle.ground.proofs.Tests.{by_test, first_of, second_of}
use Rattle.ground.proofs.Buffer.{zeros_at}
use Rattle.fields.specs.Fields.{is_ended, fields_of}
use Rattle.fields.specs.Meaning.{tabbed, Splits, HasFields, CutOut, first, further}
use Rattle.fields.specs.Cutting.{most_fields, no_cut, one_field_more, cut_of, end_of, start_of, field_at, field_start}
use Rattle.fields.specs.declared.Cut.{Cut}
use Rattle.fields.proofs.Splits.{split_fields, splits_ended}
use Rattle.fields.proofs.Cutting.{with_fields, cut_from_lem, part_there, no_part}

-- Ends that are kept one after another.
-- each field counts
fields_counted : (found : Cut) (at : ℕ) (fields : List (List ℕ)) → (with_fields found at fields).count ≡ found.count + length fields
unfolding with_fields
fields_counted found at [] = omega arith
fields_counted found at (field ∷ fields) =
    omega (arith, fields_counted (one_field_more found (at + length field)) (suc (at + length field)) fields)

-- what stands where none of them is kept stays
kept_elsewhere :
    (found : Cut) (at : ℕ) (fields : List (List ℕ)) (place : ℕ) → (found.count ≤ place → place < found.count + length fields → ⊥)
    → get_or (with_fields found at fields).ends place 0 ≡ get_or found.ends place 0
unfolding with_fields
kept_elsewhere found at [] place elsewhere = refl
kept_elsewhere found at (field ∷ fields) place elsewhere =
    kept_elsewhere (one_field_more found (at + length field)) (suc (at + length field)) fields place (λ from to. elsewhere (omega arith) (omega arith))
    ∙ by_test (ltb found.count most_fields)
    (λ room. rw room (get_or-set_other found.ends found.count place (at + length field) 0 (λ same. elsewhere (omega arith) (omega arith))))
    (λ full. rw full)

-- there are as many ends as before
as_many_ends : (found : Cut) (at : ℕ) (fields : List (List ℕ)) → length (with_fields found at fields).ends ≡ length found.ends
unfolding with_fields
as_many_ends found at [] = refl
as_many_ends found at (field ∷ fields) =
    as_many_ends (one_field_more found (at + length field)) (suc (at + length field)) fields
    ∙ by_test (ltb found.count most_fields) (λ room. rw room (length-set found.ends found.count (at + length field))) (λ full. rw full)

-- where the field at a place starts, of those that stand one behind the other, the first from a place of the line on; and where it ends
unfoldable start_at : ℕ → List (List ℕ) → ℕ → ℕ
start_at at fields zero = at
start_at at [] (suc place) = at
start_at at (field ∷ fields) (suc place) = start_at (suc (at + length field)) fields place

abbrev end_at : ℕ → List (List ℕ) → ℕ → ℕ
end_at at fields place = start_at at fields place + length (get_or fields place [])

-- each of the first ends is kept
kept_at :
    (found : Cut) (at : ℕ) (fields : List (List ℕ)) (place kept : ℕ) → length found.ends ≡ most_fields → place < length fields
    → kept ≡ found.count + place → kept < most_fields → get_or (with_fields found at fields).ends kept 0 ≡ end_at at fields place
unfolding with_fields start_at
kept_at found at [] place kept whole inside there room = absurd (omega arith)
kept_at found at (field ∷ fields) zero kept whole inside there room =
    let here : kept ≡ found.count = omega arith in
    let free : ltb found.count most_fields ≡ true = lt-ltb found.count most_fields (omega arith) in
    rw here
    (kept_elsewhere (one_field_more found (at + length field)) (suc (at + length field)) fields found.count (λ from to. omega arith)
    ∙ rw free (get_or-set_same found.ends found.count (at + length field) 0 (omega arith)))
kept_at found at (field ∷ fields) (suc place) kept whole inside there room =
    let free : ltb found.count most_fields ≡ true = lt-ltb found.count most_fields (omega arith) in
    let more = one_field_more found (at + length field) in
    let still : length more.ends ≡ most_fields = rw free (length-set found.ends found.count (at + length field) ∙ whole) in
    kept_at more (suc (at + length field)) fields place kept still (omega arith) (omega arith) room

-- as many bytes stand up to the end of one, with a tab between each two fields
end_behind :
    (at : ℕ) (fields : List (List ℕ)) (place : ℕ) → place < length fields
    → end_at at fields place ≡ at + length (tabbed (take (suc place) fields))
unfolding start_at tabbed
end_behind at [] place inside = absurd (omega arith)
end_behind at (field ∷ fields) zero inside = refl
end_behind at (field ∷ []) (suc place) inside = absurd (omega arith)
end_behind at (field ∷ next ∷ fields) (suc place) inside =
    simp length-append (omega (arith, end_behind (suc (at + length field)) (next ∷ fields) place (omega arith)))

-- the next field starts behind the end of one
next_start :
    (at : ℕ) (fields : List (List ℕ)) (place : ℕ) → place < length fields → start_at at fields (suc place) ≡ suc (end_at at fields place)
unfolding start_at
next_start at [] place inside = absurd (omega arith)
next_start at (field ∷ fields) zero inside = refl
next_start at (field ∷ fields) (suc place) inside = next_start (suc (at + length field)) fields place (omega arith)

-- in its line a field stands where it starts, with a tab or a line end behind it
stands_at :
    (line : List ℕ) (at : ℕ) (fields : List (List ℕ)) (place : ℕ) → drop at line ≡ tabbed fields ++ 10 ∷ [] → place < length fields
    → (tail : List ℕ) × (1 ≤ length tail) × (drop (start_at at fields place) line ≡ get_or fields place [] ++ tail)
unfolding start_at tabbed
stands_at line at [] place joined inside = absurd (omega arith)
stands_at line at (field ∷ []) zero joined inside = (10 ∷ [], omega arith, joined)
stands_at line at (field ∷ []) (suc place) joined inside = absurd (omega arith)
stands_at line at (field ∷ next ∷ fields) zero joined inside =
    (9 ∷ tabbed (next ∷ fields) ++ 10 ∷ [], omega arith, joined ∙ append_assoc field _ _)
stands_at line at (field ∷ next ∷ fields) (suc place) joined inside =
    let tail = tabbed (next ∷ fields) ++ 10 ∷ [] in
    let further : suc (at + length field) ≡ at + (length field + 1) = omega arith in
    let behind : drop (at + (length field + 1)) line ≡ tail =
    sym (drop-drop (length field + 1) at line) ∙ ap (drop (length field + 1)) (joined ∙ append_assoc field _ _) ∙ drop-append-add field (9 ∷ tail) 1 in
    stands_at line (suc (at + length field)) (next ∷ fields) place (rw further behind) (omega arith)

-- the cut of a line counts its fields, and none where it does not end
pub count_of : (line : List ℕ) → (cut_of line).count ≡ cond (is_ended line) (length (fields_of line)) 0
unfolding cut_of
count_of line =
    rw (cut_from_lem line no_cut 0)
    (by_test (is_ended line) (λ ends. rw ends (omega (arith, fields_counted no_cut 0 (fields_of line)))) (λ goes. rw goes))

-- and keeps no end past the count
pub keeps_no_other : (line : List ℕ) (place : ℕ) → (cut_of line).count ≤ place → get_or (cut_of line).ends place 0 ≡ 0
unfolding cut_of
keeps_no_other line place past =
    by_test (is_ended line)
    (λ ends.
    let cut : cut_of line ≡ with_fields no_cut 0 (fields_of line) = cut_from_lem line no_cut 0 ∙ rw ends in
    let counted : (cut_of line).count ≡ length (fields_of line) = count_of line ∙ rw ends in
    rw cut (kept_elsewhere no_cut 0 (fields_of line) place (λ from to. omega arith) ∙ zeros_at most_fields place))
    (λ goes. rw (cut_from_lem line no_cut 0, goes) (zeros_at most_fields place))

-- and has five ends, whatever it counts
pub five_ends : (line : List ℕ) → length (cut_of line).ends ≡ 5
unfolding cut_of
five_ends line =
    rw (cut_from_lem line no_cut 0)
    (by_test (is_ended line) (λ ends. rw ends (as_many_ends no_cut 0 (fields_of line))) (λ goes. rw goes))

-- where a field of a cut ends, of those whose ends are kept
its_end : (cut : Cut) (place : ℕ) → place < cut.count → place < most_fields → end_of cut place ≡ get_or cut.ends place 0
unfolding end_of
its_end cut place counted kept = rw (lt-ltb place cut.count counted, lt-ltb place most_fields kept)

-- A line that splits.
module _ (line : List ℕ) (fields : List (List ℕ)) (splits : Splits line fields) where
  -- the cut counts its fields
  pub cut_counts : (cut_of line).count ≡ length fields
  cut_counts = let facts = split_fields splits in count_of line ∙ rw (facts.0, facts.1)

  -- and keeps the ends of the first
  cut_keeps : (place : ℕ) → place < length fields → place < most_fields → get_or (cut_of line).ends place 0 ≡ end_at 0 fields place
  unfolding cut_of
  cut_keeps place inside room =
      let facts = split_fields splits in
      rw (cut_from_lem line no_cut 0, facts.0, facts.1) (kept_at no_cut 0 fields place place refl inside (omega arith) room)

  pub keeps_ends :
      (place : ℕ) → place < length fields → place < most_fields → get_or (cut_of line).ends place 0 ≡ length (tabbed (take (suc place) fields))
  keeps_ends place inside room = omega (arith, cut_keeps place inside room, end_behind 0 fields place inside)

  cut_ends : (place : ℕ) → place < length fields → place < most_fields → end_of (cut_of line) place ≡ end_at 0 fields place
  cut_ends place inside room = its_end (cut_of line) place (omega (arith, cut_counts)) room ∙ cut_keeps place inside room

  cut_starts : (place : ℕ) → place < length fields → place < most_fields → start_of (cut_of line) place ≡ start_at 0 fields place
  unfolding start_at start_of
  cut_starts zero inside room = refl
  cut_starts (suc place) inside room =
      ap suc (cut_ends place (omega arith) (omega arith)) ∙ sym (next_start 0 fields place (omega arith))

  -- so what stands between two ends is a field
  pub field_found : (place : ℕ) → place < length fields → place < most_fields → field_at line (cut_of line) place ≡ get_or fields place []
  field_found place inside room =
      let start = start_at 0 fields place in
      let field = get_or fields place [] in
      let there = stands_at line 0 fields place splits.joined inside in
      let whole : length (drop start line) ≡ length field + length there.0 = ap length there.2 ∙ length-append field there.0 in
      let part =
      part_there line (cut_of line) place start (start + length field) (sym (cut_starts place inside room)) (sym (cut_ends place inside room))
      (omega arith) (omega (arith, length-drop start line, there.1)) in
      let size : start + length field - start ≡ length field = omega arith in
      sym part.0 ∙ rw (size, there.2) (take-append_seam field there.0)

-- A field of a cut stands between the two places that the cut says.
pub cut_out_places : {cut : Cut} {place from to : ℕ} → CutOut cut place from to → (from ≡ start_of cut place) × (to ≡ end_of cut place)
unfolding start_of
cut_out_places {cut} (first counted) = (refl, sym (its_end cut 0 counted (omega arith)))
cut_out_places {cut} (further before counted kept) =
    (ap suc (sym (its_end cut before (omega arith) (omega arith))), sym (its_end cut (suc before) counted kept))

cut_out : (cut : Cut) (place : ℕ) → place < cut.count → place < most_fields → CutOut cut place (start_of cut place) (end_of cut place)
unfolding start_of
cut_out cut zero counted kept = rw (its_end cut 0 counted kept) (first counted)
cut_out cut (suc before) counted kept =
    rw (its_end cut before (omega arith) (omega arith), its_end cut (suc before) counted kept) (further before counted kept)

-- what ends with the line's start is its empty front
ends_at_start :
    (line : List ℕ) (cut : Cut) (place : ℕ) → end_of cut place ≡ 0 → (field_at line cut place ≡ []) × (field_start line cut place ≡ 0)
unfolding start_of
ends_at_start line cut zero none =
    let there = part_there line cut zero 0 0 refl (sym none) (omega arith) (omega arith) in (sym there.0, sym there.1)
ends_at_start line cut (suc place) none = no_part line cut (suc place) (λ inside. omega arith)

-- and so is what the cut does not say, or says of no places of the line in order
pub field_none :
    (line : List ℕ) (cut : Cut) (place : ℕ) → ((from to : ℕ) → CutOut cut place from to → from ≤ to → to ≤ length line → ⊥)
    → (field_at line cut place ≡ []) × (field_start line cut place ≡ 0)
unfolding end_of
field_none line cut place never =
    by_test (ltb place cut.count && ltb place most_fields)
    (λ said.
    let counted = ltb-true _ _ (first_of (ltb place cut.count) (ltb place most_fields) said) in
    let kept = ltb-true _ _ (second_of (ltb place cut.count) (ltb place most_fields) said) in
    no_part line cut place (λ inside. never _ _ (cut_out cut place counted kept) inside.0 inside.1))
    (λ unsaid. ends_at_start line cut place (rw unsaid))

-- the count is that of the fields that the line splits into
pub count_exactly : (line : List ℕ) (count : ℕ) → 1 ≤ count → ((cut_of line).count ≡ count) ↔ HasFields count line
count_exactly line count some = (
  λ counted.
      by_test (is_ended line)
      (λ ends.
      let splits = splits_ended line ends in
      record { fields = fields_of line; splits = splits; counted = sym (cut_counts line (fields_of line) splits) ∙ counted })
      (λ goes. absurd (omega (arith, rw goes at (count_of line)))),
  λ has. cut_counts line has.fields has.splits ∙ has.counted,
)
