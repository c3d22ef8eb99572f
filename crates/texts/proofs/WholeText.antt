-- The lines of a text are all of it, each in its turn, and the line at a place is the first of what stands there. Assumes nothing.
use Prim.Native.Nat.{ℕ, suc, ◌-◌, ◌≤◌, ◌<◌}
use mathlib.Core.Path.{◌≡◌, refl, ◌∙◌, ap}
use mathlib.Core.List.{List, [], ◌∷◌, ◌++◌, append-nil}
use lib.ListN.{length, take, drop, length-take, length-drop, length-append}
use lib.Seq.{drop-drop, take-length, drop-length, take-append_seam, drop-append_seam}
use lib.Dec.{eqb}
use native.Mathlib.Omega.{arith}
use borrow.Author.Tests.{eqb-true, eqb-false, ne_eqb}
use Rattle.ground.proofs.Tests.{by_test}
use Rattle.texts.specs.Lines.{line_end, before, lines_of, line_length, line_at, past_line}
use Rattle.texts.specs.Meaning.{Unbroken, joined, AreLines, none, unended, more, FirstLine, ended, all_left}
use Rattle.texts.proofs.Lines.{by_end, walk_done, line_is, past_is, not_beyond}

-- texts without byte 10 have none one behind the other
pub unbroken_append : (one other : List ℕ) → Unbroken one → Unbroken other → Unbroken (one ++ other)
unfolding Unbroken
unbroken_append [] other first second = second
unbroken_append (byte ∷ one) other first second = (first.0, unbroken_append one other first.1 second)

-- the lines joined are the text
joined_before : (byte : ℕ) (lines : List (List ℕ)) → joined (before byte lines) ≡ byte ∷ joined lines
unfolding joined
joined_before byte [] = refl
joined_before byte (line ∷ lines) = refl

pub lines_joined : (text : List ℕ) → joined (lines_of text) ≡ text
unfolding lines_of joined
lines_joined [] = refl
lines_joined (byte ∷ rest) =
    by_test (eqb byte line_end) (λ same. rw (same, lines_joined rest)) (λ other. rw (other, joined_before byte (lines_of rest), lines_joined rest))

-- every line but a last unended one ends with byte 10 and holds no other
before_lines : (byte : ℕ) {lines : List (List ℕ)} → (byte ≡ 10 → ⊥) → AreLines lines → AreLines (before byte lines)
unfolding Unbroken
before_lines byte other none = unended (byte ∷ []) (omega arith) (other, tt)
before_lines byte other (unended line some unbroken) = unended (byte ∷ line) (omega arith) (other, unbroken)
before_lines byte other (more body lines unbroken are) = more (byte ∷ body) lines (other, unbroken) are

pub lines_are : (text : List ℕ) → AreLines (lines_of text)
unfolding lines_of Unbroken
lines_are [] = none
lines_are (byte ∷ rest) =
    by_test (eqb byte line_end) (λ same. let here : byte ≡ 10 = eqb-true _ _ same in rw here (more [] (lines_of rest) tt (lines_are rest)))
    (λ other. rw other (before_lines byte (eqb-false _ _ other) (lines_are rest)))

-- the first line is found
before_first : (byte : ℕ) {line text : List ℕ} → (byte ≡ 10 → ⊥) → FirstLine line text → FirstLine (byte ∷ line) (byte ∷ text)
unfolding Unbroken
before_first byte other (ended body rest unbroken) = ended (byte ∷ body) rest (other, unbroken)
before_first byte other (all_left line unbroken) = all_left (byte ∷ line) (other, unbroken)

first_found : (text : List ℕ) → FirstLine (take (line_length text) text) text
unfolding line_length Unbroken
first_found [] = all_left [] tt
first_found (byte ∷ rest) =
    by_test (eqb byte line_end) (λ same. let here : byte ≡ 10 = eqb-true _ _ same in rw here (ended [] rest tt))
    (λ other. rw other (before_first byte (eqb-false _ _ other) (first_found rest)))

-- and there is no other
ended_length : (body rest : List ℕ) → Unbroken body → line_length ((body ++ 10 ∷ []) ++ rest) ≡ length (body ++ 10 ∷ [])
unfolding line_length Unbroken
ended_length [] rest unbroken = refl
ended_length (byte ∷ body) rest unbroken = rw (ne_eqb byte line_end unbroken.0, ended_length body rest unbroken.1)

unbroken_length : (line : List ℕ) → Unbroken line → line_length line ≡ length line
unfolding line_length Unbroken
unbroken_length [] unbroken = refl
unbroken_length (byte ∷ line) unbroken = rw (ne_eqb byte line_end unbroken.0, unbroken_length line unbroken.1)

pub first_only : {line text : List ℕ} → FirstLine line text → line ≡ take (line_length text) text
first_only (ended body rest unbroken) = rw (ended_length body rest unbroken, take-append_seam (body ++ 10 ∷ []) rest)
first_only (all_left line unbroken) = rw (unbroken_length line unbroken, take-length line)

-- a text that is not empty has a first line with a byte, and then the lines of what follows it
line_some : (text : List ℕ) → 1 ≤ length text → 1 ≤ line_length text
unfolding line_length
line_some [] some = some
line_some (byte ∷ rest) some = by_test (eqb byte line_end) (λ same. rw same (omega arith)) (λ other. rw other (omega arith))

first_line : (text : List ℕ) → 1 ≤ length text → lines_of text ≡ take (line_length text) text ∷ lines_of (drop (line_length text) text)
unfolding lines_of line_length
first_line [] some = absurd (omega arith)
first_line (byte ∷ []) some = by_test (eqb byte line_end) (λ same. rw same) (λ other. rw other)
first_line (byte ∷ next ∷ rest) some = by_test (eqb byte line_end) (λ same. rw same) (λ other. rw (other, first_line (next ∷ rest) (omega arith)))

-- so there is no other way to cut the text
pub lines_only : {lines : List (List ℕ)} → AreLines lines → lines_of (joined lines) ≡ lines
unfolding joined lines_of
lines_only none = refl
lines_only (unended line some unbroken) = rw (append-nil, first_line line some, unbroken_length line unbroken, take-length line, drop-length line)
lines_only (more body lines unbroken are) =
    let some : 1 ≤ length ((body ++ 10 ∷ []) ++ joined lines) = simp length-append (omega arith) in
    let size = ended_length body (joined lines) unbroken in
    rw (first_line _ some, size, take-append_seam (body ++ 10 ∷ []) (joined lines), drop-append_seam (body ++ 10 ∷ []) (joined lines), lines_only are)

module _ (text : List ℕ) (at : ℕ) where
  -- the line at a place is the first of what stands from there on, and no other is
  pub line_first : FirstLine (line_at text at) (drop at text)
  unfolding line_at
  line_first = first_found (drop at text)

  pub line_only : {line : List ℕ} → FirstLine line (drop at text) → line ≡ line_at text at
  unfolding line_at
  line_only first = first_only first

  -- the part of a text up to the place past a line is that line
  pub part_is_line : (end : ℕ) → end ≡ past_line text at → take (end - at) (drop at text) ≡ line_at text at
  part_is_line end past = rw past (line_is text at)

  module _ (inside : at < length text) where
    -- a walk at a place has the line there before it, and then the lines from the place past it on
    pub walk_on : lines_of (drop at text) ≡ line_at text at ∷ lines_of (drop (past_line text at) text)
    unfolding line_at past_line
    walk_on = rw (← drop-drop (line_length (drop at text)) at text) (first_line (drop at text) (omega (arith, length-drop at text)))

    -- a line that is handed out has a byte at least, so the empty part says that none is left
    pub walk_some : 1 ≤ length (line_at text at)
    unfolding line_at
    walk_some = simp length-take (omega (arith, line_some (drop at text) (omega (arith, length-drop at text)), length-drop at text))

    -- while a line is left the place moves on, and stays in the text
    pub moves_on : at < past_line text at
    moves_on = omega (arith, past_is text at, walk_some)

    pub ends_inside : past_line text at ≤ length text
    ends_inside = omega (arith, not_beyond text at)

-- a walk that hands out a line with a byte moves on
pub walk_further :
    (text : List ℕ) (at end : ℕ) (line : List ℕ) → line ≡ line_at text at → (length line ≡ 0 → ⊥) → end ≡ past_line text at
    → (at < length text) × (at < end)
walk_further text at end line is some past =
    by_end text at (λ done. absurd (some (ap length (is ∙ (walk_done text at done).1)))) (λ inside. (inside, omega (arith, past, moves_on text at inside)))

-- a text has no more lines than bytes
before_longer : (byte : ℕ) (lines : List (List ℕ)) → length (before byte lines) ≤ suc (length lines)
before_longer byte [] = omega arith
before_longer byte (line ∷ lines) = omega arith

pub lines_within : (text : List ℕ) → length (lines_of text) ≤ length text
unfolding lines_of
lines_within [] = omega arith
lines_within (byte ∷ rest) =
    by_test (eqb byte line_end) (λ same. rw same (omega (arith, lines_within rest)))
    (λ other. rw other (omega (arith, lines_within rest, before_longer byte (lines_of rest))))
