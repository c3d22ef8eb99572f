-- Going through a text line by line: a line that is noted leaves the lines past it, and one that is not is the fault. Assumes nothing.
use Prim.Native.Nat.{ℕ, suc, ◌+◌, ◌≤◌, ◌<◌}
use mathlib.Core.Path.{◌≡◌, refl}
use mathlib.Core.Bool.{Bool}
use mathlib.Core.List.{List, [], ◌∷◌}
use lib.ListN.{length, drop}
use native.Mathlib.Numerals.{add-one}
use Rattle.ground.specs.Refusal.{Read, wrong, right}
use Rattle.texts.specs.Lines.{lines_of, line_at, past_line}
use Rattle.texts.proofs.Lines.{past_is}
use Rattle.texts.proofs.Promises.{walk_on, walk_done}
use Rattle.plans.specs.Judging.{through}

module _ {Known : Type 0} (note : Known → List ℕ → Read Known) (plan : Bool) (line at : ℕ) (known : Known) where
  -- with no line left, what is known is the answer
  through_none : through note plan line at known [] ≡ right known
  unfolding through
  through_none = refl

  -- a line that is noted leaves the others
  through_noted :
      (text : List ℕ) (texts : List (List ℕ)) (next : Known) → note known text ≡ right next
      → through note plan line at known (text ∷ texts) ≡ through note plan (suc line) (at + length text) next texts
  unfolding through
  through_noted text texts next noted = rw noted

  -- one that is not is the fault
  through_refused :
      (text : List ℕ) (texts : List (List ℕ)) (number : ℕ) → note known text ≡ wrong number
      → through note plan line at known (text ∷ texts)
      ≡ wrong (record { number = number; plan = plan; line = line; from = at; to = at + length text })
  unfolding through
  through_refused text texts number refused = rw refused

  module _ (text : List ℕ) where
    -- at the end of the text, what is known is the answer
    pub through_done : length text ≤ at → through note plan line at known (lines_of (drop at text)) ≡ right known
    through_done past = rw (walk_done text at past).0 through_none

    -- before it the line there is noted, and those past it are left
    pub through_on :
        at < length text → (next : Known) → note known (line_at text at) ≡ right next
        → through note plan line at known (lines_of (drop at text))
        ≡ through note plan (line + 1) (past_line text at) next (lines_of (drop (past_line text at) text))
    through_on inside next noted =
        rw (walk_on text at inside, add-one, ← past_is text at)
        (through_noted (line_at text at) (lines_of (drop (at + length (line_at text at)) text)) next noted)

    -- or it is the fault
    pub through_stops :
        at < length text → (number : ℕ) → note known (line_at text at) ≡ wrong number
        → through note plan line at known (lines_of (drop at text))
        ≡ wrong (record { number = number; plan = plan; line = line; from = at; to = past_line text at })
    through_stops inside number refused =
        rw (walk_on text at inside, ← past_is text at)
        (through_refused (line_at text at) (lines_of (drop (at + length (line_at text at)) text)) number refused)
