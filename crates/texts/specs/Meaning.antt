-- What it means that a text has lines, that a line is the first of a text, where a part lies in its text, and that a walk goes through it.
-- It is no way of cutting or walking; what the functions of this room answer is proved to be this. Assumes nothing.
use Rattle.std.specs.Prelude.{ℕ, ◌+◌, ◌≤◌, ◌<◌, ◌≡◌, List, [], ◌∷◌, ◌++◌, length, drop}
use Rattle.std.specs.Borrow.{Bor}
use Rattle.texts.specs.declared.Walk.{Walk}
use Rattle.texts.specs.declared.Handed.{Handed}

-- a text in which no byte is 10
unfoldable pub Unbroken : List ℕ → Type 0
Unbroken [] = Unit {0}
Unbroken (byte ∷ rest) = (byte ≡ 10 → ⊥) × Unbroken rest

-- texts one behind the other
unfoldable pub joined : List (List ℕ) → List ℕ
joined [] = []
joined (text ∷ texts) = text ++ joined texts

-- "Each line ends with byte 10. Bytes after the last byte 10, if there are any, count as a line"
pub data AreLines : List (List ℕ) → Type 0 where
  none : AreLines []
  unended : (line : List ℕ) → 1 ≤ length line → Unbroken line → AreLines (line ∷ [])
  more : (body : List ℕ) (lines : List (List ℕ)) → Unbroken body → AreLines lines → AreLines ((body ++ 10 ∷ []) ∷ lines)

-- the first line of a text: up to its first byte 10, or all of it where it has none; so the empty text's is empty, and none is left
pub data FirstLine : List ℕ → List ℕ → Type 0 where
  ended : (body rest : List ℕ) → Unbroken body → FirstLine (body ++ 10 ∷ []) ((body ++ 10 ∷ []) ++ rest)
  all_left : (line : List ℕ) → Unbroken line → FirstLine line line

-- the place past the line that starts at a place
abbrev pub IsPast : List ℕ → ℕ → ℕ → Type 0
IsPast text at end = (line : List ℕ) × FirstLine line (drop at text) × (end ≡ at + length line)

-- a part of a text between two places: so many bytes stand before it, and so many up to its end
pub record Between (text part : List ℕ) (from to : ℕ) : Type 0 where
  pub front : List ℕ
  pub rest : List ℕ
  pub whole : text ≡ front ++ (part ++ rest)
  pub begins : length front ≡ from
  pub ends : from + length part ≡ to

-- a part lies in the memory of its text, so many bytes from where the text starts
abbrev pub LiesAt : Bor (List ℕ) → Bor (List ℕ) → ℕ → Type 0
LiesAt part text place = (part.ref_ptr.0 ≡ text.ref_ptr.0) × (part.ref_ptr.1 ≡ text.ref_ptr.1 + place)

-- two parts that hold the same, in the same place
abbrev pub OnePart : Bor (List ℕ) → Bor (List ℕ) → Type 0
OnePart one other = (one.now ≡ other.now) × (one.ref_ptr ≡ other.ref_ptr)

-- a line lies at its place; where the text does not reach so far it is the text's empty front
abbrev pub LineLies : Bor (List ℕ) → Bor (List ℕ) → ℕ → Type 0
LineLies line text at = (at ≤ length text.now → LiesAt line text at) × (length text.now < at → LiesAt line text 0)

-- "A walk through a text keeps the text and the place reached": from the top
pub record Starts (text : Bor (List ℕ)) (walk : Walk) : Type 0 where
  pub keeps : walk.text ≡ text
  pub at_top : walk.at ≡ 0

-- "and hands out one line after another until none is left. It goes on from the place it holds; at or past the end of the text
-- none is left"
pub record Hands (walk : Walk) (handed : Handed) : Type 0 where
  pub first : FirstLine handed.line.now (drop walk.at walk.text.now)
  pub lies : LineLies handed.line walk.text walk.at
  pub keeps : handed.walk.text ≡ walk.text
  pub moves : handed.walk.at ≡ walk.at + length handed.line.now

-- a walk until none is left: the lines that were handed out, and the walk after that
pub data Walked : Walk → List (List ℕ) → Walk → Type 0 where
  none_left : (walk : Walk) (handed : Handed) → Hands walk handed → handed.line.now ≡ [] → Walked walk [] handed.walk
  goes_on :
      (walk last : Walk) (handed : Handed) (lines : List (List ℕ)) → Hands walk handed → 1 ≤ length handed.line.now
      → Walked handed.walk lines last → Walked walk (handed.line.now ∷ lines) last
