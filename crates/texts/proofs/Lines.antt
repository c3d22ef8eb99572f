-- Laws of the lines of a text. Assumes nothing.
use Prim.Native.Nat.{ℕ, ◌+◌, ◌-◌, ◌≤◌, ◌<◌, max, min}
use mathlib.Core.Path.{◌≡◌, refl, sym, ◌∙◌}
use mathlib.Core.Bool.{Bool, ◌&&◌}
use mathlib.Core.List.{List, [], ◌∷◌}
use lib.ListN.{length, get_or, take, drop, length-take, length-drop, drop_of_length-le}
use lib.Seq.{take_all, drop-cons}
use lib.Dec.{leb, ltb, eqb}
use native.Mathlib.Numerals.{add-one}
use native.Mathlib.Omega.{arith}
use borrow.Author.Tests.{eq-eqb, ne_eqb, le-leb, lt-leb, leb-true, leb-false, ltb-true, ltb-false}
use Rattle.std.specs.Prelude.{nat_eq, Some, None}
use Rattle.std.specs.List.{position, position_or_len}
use Rattle.std.specs.Option.{unwrap_or}
use Rattle.std.specs.Slice.{IsGetRangeResult}
use Rattle.std.specs.declared.option.Option.{Option}
use denote.Ref.{Bor}
use mathlib.Core.Logic.{inl, inr}
use Rattle.ground.proofs.Tests.{by_test, first_of, second_of}
use Rattle.texts.specs.Lines.{line_end, lines_of, line_length, line_at, line_start, past_line, part_of, part_start}

-- a line is no longer than its text
pub line_within : (text : List ℕ) → line_length text ≤ length text
unfolding line_length
line_within [] = omega arith
line_within (byte ∷ rest) = by_test (eqb byte line_end) (λ same. rw same (omega arith)) (λ other. rw other (omega (arith, line_within rest)))

-- a line goes up to the first byte that ends one, that byte included, and else it is the whole text
abbrev pub is_end : ℕ → Bool
is_end byte = nat_eq byte line_end

line_counted : (text : List ℕ) → line_length text ≡ min (position_or_len is_end text + 1) (length text)
unfolding line_length
line_counted [] = omega arith
line_counted (byte ∷ rest) = by_test (eqb byte line_end) (λ same. rw same (omega arith)) (λ other. rw other (omega (arith, line_counted rest)))

line_found : (text : List ℕ) (count : ℕ) → position is_end text ≡ Some count → line_length text ≡ count + 1
line_found text count found =
    by_test (ltb (position_or_len is_end text) (length text))
    (λ some.
    let same : Some (position_or_len is_end text) ≡ Some count = rw some at found in
    let place : position_or_len is_end text ≡ count = cc in
    omega (arith, line_counted text, ltb-true _ _ some))
    (λ none. let never : None ≡ Some count = rw none at found in cc)

line_unfound : (text : List ℕ) → position is_end text ≡ None → line_length text ≡ length text
line_unfound text missing =
    by_test (ltb (position_or_len is_end text) (length text))
    (λ some. let never : Some (position_or_len is_end text) ≡ None = rw some at missing in cc)
    (λ none. omega (arith, line_counted text, ltb-false _ _ none))

-- what stands from a place on, where the library cuts it off and nothing stands in for a place past the end
pub cut_off :
    (text : List ℕ) (at : ℕ) (found : Option (Bor (List ℕ))) (nothing : Bor (List ℕ)) → nothing.now ≡ []
    → IsGetRangeResult text at (length text) found → (unwrap_or found nothing).now ≡ drop at text
cut_off text at None nothing empty (inl past, some) = empty ∙ sym (drop_of_length-le text (omega arith))
cut_off text at None nothing empty (inr never, some) = absurd (omega arith)
cut_off text at (Some rest) nothing empty (is, some) = is.2 ∙ take_all (length text - at) (drop at text) (omega (arith, length-drop at text))

module _ (text : List ℕ) (at : ℕ) where
  -- a place is at or past the end of the text, or in it
  pub by_end : {C : Type 0} → (length text ≤ at → C) → (at < length text → C) → C
  by_end past left = by_test (leb (length text) at) (λ test. past (leb-true _ _ test)) (λ test. left (leb-false _ _ test))

  -- at or past the end none is left
  pub walk_done : length text ≤ at → (lines_of (drop at text) ≡ []) × (line_at text at ≡ []) × (past_line text at ≡ at)
  unfolding line_at lines_of line_length past_line
  walk_done past = rw (drop_of_length-le text past) (refl, refl, omega arith)

  -- the first line end from a place on ends the line; with none, the line is all that is left
  pub past_found : (count : ℕ) → position is_end (drop at text) ≡ Some count → at + count + 1 ≡ past_line text at
  unfolding past_line
  past_found count found = omega (arith, line_found (drop at text) count found)

  pub past_unfound : position is_end (drop at text) ≡ None → at + length (drop at text) ≡ past_line text at
  unfolding past_line
  past_unfound missing = omega (arith, line_unfound (drop at text) missing)

  -- a line end stands here
  pub past_end : at < length text → get_or text at 0 ≡ line_end → past_line text at ≡ at + 1
  unfolding past_line line_length
  past_end inside here = rw (drop-cons text at 0 inside, eq-eqb _ _ here)

  -- another byte stands here
  pub past_other : at < length text → (get_or text at 0 ≡ line_end → ⊥) → past_line text at ≡ past_line text (at + 1)
  unfolding past_line line_length
  past_other inside other = rw (drop-cons text at 0 inside, ne_eqb _ _ other, add-one) (omega arith)

  not_before : at ≤ past_line text at
  unfolding past_line
  not_before = omega arith

  -- the part up to the place past the line is the line
  pub line_is : take (past_line text at - at) (drop at text) ≡ line_at text at
  unfolding past_line line_at
  line_is = let size : at + line_length (drop at text) - at ≡ line_length (drop at text) = omega arith in rw size

  -- the place past the line is its own and the line's length
  pub past_is : at + length (line_at text at) ≡ past_line text at
  unfolding past_line line_at
  past_is = omega (arith, length-take (line_length (drop at text)) (drop at text), line_within (drop at text))

  -- it lies in the text, or is the place itself
  pub not_beyond : past_line text at ≤ max at (length text)
  unfolding past_line
  not_beyond = omega (arith, line_within (drop at text), length-drop at text)

  -- the part up to the place past a line is the line, and lies where it does
  pub part_is : (end : ℕ) → end ≡ past_line text at → (part_of text at end ≡ line_at text at) × (part_start text at end ≡ line_start text at)
  unfolding part_of part_start line_start
  part_is end past =
      rw (past, le-leb at (past_line text at) not_before)
      (by_test (leb at (length text))
      (λ inside. rw (inside, le-leb (past_line text at) (length text) (omega (arith, not_beyond, leb-true at (length text) inside))) (line_is, refl))
      (λ beyond.
      let out : length text < at = leb-false at (length text) beyond in
      rw (beyond, lt-leb (past_line text at) (length text) (omega (arith, not_before))) (sym (walk_done (omega arith)).1, refl)))

-- a part where the places are places of the text in order, and where they are not: what it holds, and where it lies
module _ (text : List ℕ) (from to : ℕ) where
  pub part_between : from ≤ to → to ≤ length text → (part_of text from to ≡ take (to - from) (drop from text)) × (part_start text from to ≡ from)
  unfolding part_of part_start
  part_between order inside = rw (le-leb from to order, le-leb to (length text) inside) (refl, refl)

  pub part_none : (from ≤ to → to ≤ length text → ⊥) → (part_of text from to ≡ []) × (part_start text from to ≡ 0)
  unfolding part_of part_start
  part_none never =
      by_test (leb from to && leb to (length text))
      (λ places. absurd (never (leb-true from to (first_of _ _ places)) (leb-true to (length text) (second_of (leb from to) _ places))))
      (λ other. rw other (refl, refl))
