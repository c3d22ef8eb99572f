-- What this room promises, of the contracts themselves and of the definitions that they cite, by the laws of this folder. Assumes nothing.
use Prim.Native.Nat.{ℕ, suc, ◌+◌, ◌≤◌, ◌<◌}
use mathlib.Core.Path.{◌≡◌, refl, sym, ap, ◌∙◌}
use mathlib.Core.Bool.{true, ◌&&◌}
use mathlib.Core.List.{List, []}
use mathlib.Core.Logic.{◌↔◌, ◌⊎◌, inl, inr}
use lib.ListN.{length, get_or, take, drop}
use native.Mathlib.Omega.{arith}
use contract.Lifetimes.{Lfts}
use denote.Ref.{Bor}
use Rattle.ground.specs.Refusal.{wrong, right}
use Rattle.ground.specs.Range.{within}
use Rattle.ground.specs.Outcome.{Single}
use Rattle.ground.proofs.Outcome.{single_value}
use Rattle.ground.proofs.Tests.{by_test, first_of, second_of}
use Rattle.ground.proofs.Checks.{never_right}
use Rattle.ground.proofs.Range.{within_from, within_low, within_high}
use Rattle.texts.specs.Meaning.{Between, LiesAt}
use Rattle.texts.proofs.Places.{between_places}
use Rattle.fields.specs.Fields.{tab, is_ended, fields_of, same_bytes, shape_of}
use Rattle.fields.specs.Meaning.{tabbed, Splits, HasFields, CutOut}
use Rattle.fields.specs.Cutting.{most_fields, cut_of, field_start}
use Rattle.fields.specs.declared.Cut.{Cut}
use Rattle.fields.proofs.cut_line.Reads as cut_Line
use Rattle.fields.proofs.field.Reads as field
use Rattle.fields.proofs.same_bytes.Reads as same_bytes
use Rattle.fields.proofs.Words.{same_then, same_itself}
use Rattle.fields.proofs.Splits.{split_fields, splits_ended}
use Rattle.fields.proofs.Cutting as cutting
use Rattle.fields.proofs.Found as found

-- "`→` stands for one tab (byte 9)"; a cut keeps the ends of five fields
pub tab_nine : tab ≡ 9
tab_nine = refl

pub keeps_five : most_fields ≡ 5
keeps_five = refl

-- a line is ended and has these fields exactly when it splits into them
pub splits_exactly : (line : List ℕ) (fields : List (List ℕ)) → ((is_ended line ≡ true) × (fields_of line ≡ fields)) ↔ Splits line fields
splits_exactly line fields = (λ facts. rw facts.1 at (splits_ended line facts.0), split_fields)

-- so it splits into fields in one way
pub one_split : {line : List ℕ} {one other : List (List ℕ)} → Splits line one → Splits line other → one ≡ other
one_split p q = sym (split_fields p).1 ∙ (split_fields q).1

-- and it has the shape exactly when it splits into as many as are asked for
pub has_fields :
    (least most : ℕ) (line : List ℕ)
    → (shape_of least most line ≡ right tt) ↔ ((count : ℕ) × HasFields count line × (least ≤ count) × (count ≤ most))
unfolding shape_of
has_fields least most line = (
  λ shaped.
      by_test (is_ended line && within least most (length (fields_of line)))
      (λ met.
      let splits = splits_ended line (first_of (is_ended line) (within least most (length (fields_of line))) met) in
      let inside = second_of (is_ended line) (within least most (length (fields_of line))) met in
      (length (fields_of line), record { fields = fields_of line; splits = splits; counted = refl }, within_low least most _ inside, within_high least most _ inside))
      (λ unmet. absurd (never_right (rw unmet at shaped))),
  λ has.
      let facts = split_fields has.1.splits in
      rw (facts.0, facts.1, has.1.counted, within_from least most has.0 has.2 has.3),
)

-- 1: and is refused by that number otherwise
pub shape_ways : (least most : ℕ) (line : List ℕ) → (shape_of least most line ≡ right tt) ⊎ (shape_of least most line ≡ wrong 1)
unfolding shape_of
shape_ways least most line =
    by_test (is_ended line && within least most (length (fields_of line))) (λ met. inl (rw met)) (λ unmet. inr (rw unmet))

-- two texts are the same byte for byte exactly when they are one
pub same_exactly : (one other : List ℕ) → (same_bytes one other ≡ true) ↔ (one ≡ other)
same_exactly one other = (same_then one other, λ same. rw same (same_itself other))

-- `cut_line` counts n fields exactly when the line splits into n, and none exactly when it splits into none
pub counts_exactly :
    (κs : Lfts 1) (line : Bor (List ℕ)) (cut : Cut) (after : _) → cut_Line.Learnt κs (line, tt) cut after → (count : ℕ) → 1 ≤ count
    → (cut.count ≡ count) ↔ HasFields count line.now
counts_exactly κs line cut after learnt count some = rw learnt (found.count_exactly line.now count some)

pub counts_none :
    (κs : Lfts 1) (line : Bor (List ℕ)) (cut : Cut) (after : _) → cut_Line.Learnt κs (line, tt) cut after
    → (cut.count ≡ 0) ↔ ((count : ℕ) → HasFields count line.now → ⊥)
counts_none κs line cut after learnt =
    rw learnt (
      λ none count has. omega (arith, found.cut_counts line.now has.fields has.splits, has.splits.some),
      λ never.
          by_test (is_ended line.now)
          (λ ends. absurd (never _ (record { fields = fields_of line.now; splits = splits_ended line.now ends; counted = refl })))
          (λ goes. rw goes at (found.count_of line.now)),
    )

-- of a line that was cut so and splits into fields, `field` gives the one at a place, for the first five
pub field_exactly :
    (κs ks : Lfts 1) (line text : Bor (List ℕ)) (cut : Cut) (place : ℕ) (after later : _) → cut_Line.Learnt κs (line, tt) cut after
    → field.Learnt ks (line, (cut, (place, tt))) text later → (fields : List (List ℕ)) → Splits line.now fields → place < length fields → place < 5
    → text.now ≡ get_or fields place []
field_exactly κs ks line text cut place after later was_cut given fields split inside room =
    given.0 ∙ rw was_cut (found.field_found line.now fields split place inside room)

-- the cut keeps where each of the first five ends, as many bytes behind the line's start as it and the fields before it have, with a tab
-- between each two; every other end is 0
pub keeps_ends :
    (κs : Lfts 1) (line : Bor (List ℕ)) (cut : Cut) (after : _) → cut_Line.Learnt κs (line, tt) cut after → (fields : List (List ℕ))
    → Splits line.now fields → (place : ℕ) → place < length fields → place < 5
    → get_or cut.ends place 0 ≡ length (tabbed (take (suc place) fields))
keeps_ends κs line cut after learnt fields split place inside room = rw learnt (found.keeps_ends line.now fields split place inside room)

pub keeps_no_other :
    (κs : Lfts 1) (line : Bor (List ℕ)) (cut : Cut) (after : _) → cut_Line.Learnt κs (line, tt) cut after → (place : ℕ)
    → cut.count ≤ place → get_or cut.ends place 0 ≡ 0
keeps_no_other κs line cut after learnt place past = rw learnt (found.keeps_no_other line.now place (rw learnt at past))

-- it has five ends, and is its count and these and nothing else
pub five_ends :
    (κs : Lfts 1) (line : Bor (List ℕ)) (cut : Cut) (after : _) → cut_Line.Learnt κs (line, tt) cut after
    → (length cut.ends ≡ 5) × (cut ≡ record { count = cut.count; ends = cut.ends })
five_ends κs line cut after learnt = (ap (λ (made : Cut). length made.ends) learnt ∙ found.five_ends line.now, refl)

-- whatever the cut, `field` gives what stands between the two places that it says, and it lies there; where it says none, or these are no
-- places of the line in order, the empty front
module _ (κs : Lfts 1) (line : Bor (List ℕ)) (cut : Cut) (place : ℕ) (text : Bor (List ℕ)) (after : _)
    (given : field.Learnt κs (line, (cut, (place, tt))) text after) where
  pub field_between :
      (from to : ℕ) → CutOut cut place from to → from ≤ to → to ≤ length line.now
      → Between line.now text.now from to × LiesAt text line from
  field_between from to out order inside =
      let same = found.cut_out_places out in
      let is = cutting.is_part line.now cut place in
      between_places line text from to (given.0 ∙ rw (same.0, same.1) is.0) (given.1.0, given.1.1 ∙ rw (same.0, same.1, is.1))
      order inside

  pub field_none :
      ((from to : ℕ) → CutOut cut place from to → from ≤ to → to ≤ length line.now → ⊥) → (text.now ≡ []) × LiesAt text line 0
  field_none never =
      let none = found.field_none line.now cut place never in (given.0 ∙ none.0, (given.1.0, omega (arith, given.1.1, none.1)))

-- a field lies in its line, whatever the cut: in the same block, from a place of the line on, and its bytes are the line's from there
pub field_lies :
    (κs : Lfts 1) (line : Bor (List ℕ)) (cut : Cut) (place : ℕ) (text : Bor (List ℕ)) (after : _)
    → field.Learnt κs (line, (cut, (place, tt))) text after
    → (text.ref_ptr.0 ≡ line.ref_ptr.0)
    × ((from : ℕ)
    × (text.ref_ptr.1 ≡ line.ref_ptr.1 + from)
    × (from + length text.now ≤ length line.now)
    × (text.now ≡ take (length text.now) (drop from line.now)))
field_lies κs line cut place text after given =
    let lies = cutting.part_lies line.now cut place in
    (given.1.0, (field_start line.now cut place, given.1.1, rw given.0 lies.0, rw given.0 lies.1))

-- `same_bytes` says yes exactly when the two texts are one
pub says_same :
    (κs : Lfts 2) (one other : Bor (List ℕ)) (same : _) (after : _) → same_bytes.Learnt κs (one, (other, tt)) same after
    → (same ≡ true) ↔ (one.now ≡ other.now)
says_same κs one other same after learnt = rw learnt (same_exactly one.now other.now)

-- 1d: each public function's contract admits a single outcome; a field's is its bytes and the place where it lies in the line
pub cut_line_single : (κs : Lfts 1) (line : Bor (List ℕ)) (after : _) → Single (λ cut. cut_Line.Learnt κs (line, tt) cut after)
cut_line_single κs line after = single_value (cut_of line.now)

pub field_single :
    (κs : Lfts 1) (line : Bor (List ℕ)) (cut : Cut) (place : ℕ) (one other : Bor (List ℕ)) (after : _)
    → field.Learnt κs (line, (cut, (place, tt))) one after → field.Learnt κs (line, (cut, (place, tt))) other after
    → (one.now ≡ other.now) × (one.ref_ptr.0 ≡ other.ref_ptr.0) × (one.ref_ptr.1 ≡ other.ref_ptr.1)
field_single κs line cut place one other after p q = (p.0 ∙ sym q.0, p.1.0 ∙ sym q.1.0, p.1.1 ∙ sym q.1.1)

pub same_bytes_single :
    (κs : Lfts 2) (one other : Bor (List ℕ)) (after : _) → Single (λ same. same_bytes.Learnt κs (one, (other, tt)) same after)
same_bytes_single κs one other after = single_value (same_bytes one.now other.now)

-- 1a: no public function asks anything of what it is passed
pub nothing_asked :
    ((κs : Lfts 1) (passed : _) → cut_Line.Asked κs passed)
    × ((κs : Lfts 1) (passed : _) → field.Asked κs passed)
    × ((κs : Lfts 2) (passed : _) → same_bytes.Asked κs passed)
nothing_asked = (λ κs passed. tt, λ κs passed. tt, λ κs passed. tt)
