-- The first line of a text, or of what is left of it from a place on, and the lines further. Assumes nothing.
use Prim.Native.Nat.{ℕ, ◌<◌}
use mathlib.Core.Path.{◌≡◌, refl, sym, ap, ◌∙◌}
use mathlib.Core.Logic.{◌⊎◌, inl, inr, ⊎_elim, ◌↔◌}
use mathlib.Core.List.{List, [], ◌∷◌, nil≢cons, head-eq_of_cons-eq, tail-eq_of_cons-eq}
use lib.ListN.{length, drop, length-drop, drop_of_length-le}
use lib.Dec.{ltb}
use native.Mathlib.Omega.{arith}
use borrow.Author.Tests.{ltb-true, ltb-false}
use Rattle.ground.proofs.Tests.{by_test}
use Rattle.texts.specs.Lines.{lines_of, line_at, past_line}
use Rattle.texts.proofs.Promises.{lines_joined, lines_are, lines_only, walk_on, walk_done}
use Rattle.orders.specs.Answers.{order_lines}
use Rattle.orders.specs.Meaning.{HasLines, FirstOf, of_none, of_lines}
use Rattle.orders.proofs.Places.{begun_left}

-- a text has just its lines
pub lines_exactly : {text : List ℕ} {lines : List (List ℕ)} → HasLines text lines ↔ (lines ≡ lines_of text)
lines_exactly {text} {lines} = (
  λ has. sym (lines_only lines has.0) ∙ ap lines_of has.1,
  λ same. rw same (lines_are text, lines_joined text),
)

-- a text with a first line is empty, or has that line and the further ones
first_lines :
    {text line : List ℕ} {further : List (List ℕ)} → FirstOf text line further
    → ((text ≡ []) × (line ≡ []) × (further ≡ [])) ⊎ (lines_of text ≡ line ∷ further)
first_lines of_none = inl (refl, refl, refl)
first_lines (of_lines has) = inr (sym (lines_exactly.0 has))

module _ (text : List ℕ) (at : ℕ) where
  -- what a text has from a place on: a line and the others, or nothing
  left :
      {C : Type 0} → (at < length text → lines_of (drop at text) ≡ line_at text at ∷ lines_of (drop (past_line text at) text) → C)
      → (drop at text ≡ [] → lines_of (drop at text) ≡ [] → line_at text at ≡ [] → lines_of (drop (past_line text at) text) ≡ [] → C) → C
  left more none =
      by_test (ltb at (length text)) (λ inside. let here = ltb-true at (length text) inside in more here (walk_on text at here))
      (λ outside.
      let past = ltb-false at (length text) outside in
      let done = walk_done text at past in
      none (drop_of_length-le text past) done.0 done.1 (rw done.2 done.0))

  -- the line there is its first line
  pub first_there : FirstOf (drop at text) (line_at text at) (lines_of (drop (past_line text at) text))
  first_there =
      left (λ inside e. of_lines (lines_exactly.1 (sym e)))
      (λ empty lines line others. rw (line, others, empty) of_none)

  -- and no other is
  pub first_only :
      {line : List ℕ} {further : List (List ℕ)} → FirstOf (drop at text) line further
      → (line ≡ line_at text at) × (further ≡ lines_of (drop (past_line text at) text))
  first_only first =
      left
      (λ inside e.
      ⊎_elim (λ none. absurd (omega (arith, length-drop at text, ap length none.0)))
      (λ same. (head-eq_of_cons-eq (sym same ∙ e), tail-eq_of_cons-eq (sym same ∙ e))) (first_lines first))
      (λ empty lines line others.
      ⊎_elim (λ none. (none.1 ∙ sym line, none.2 ∙ sym others)) (λ same. absurd (nil≢cons (sym lines ∙ same))) (first_lines first))

-- a text has the line at its top first, and the order lines of a list further
pub first_exactly : (text first : List ℕ) (further : List (List ℕ)) → FirstOf text first further ↔ ((first ≡ line_at text 0) × (further ≡ order_lines text))
first_exactly text first further = (
  λ cut. let only = first_only text 0 cut in (only.0, only.1 ∙ sym (begun_left text)),
  λ same. rw (same.0, same.1, begun_left text) (first_there text 0),
)

-- so the lines of a text that has any are these
pub first_and_orders : (text : List ℕ) → 0 < length text → lines_of text ≡ line_at text 0 ∷ order_lines text
first_and_orders text some = walk_on text 0 some ∙ ap (λ others. line_at text 0 ∷ others) (sym (begun_left text))
