-- What it means that an hour, a line or a field of a line is written to a lent buffer. Assumes nothing.
use Rattle.std.specs.Prelude.{ℕ, ◌+◌, ◌/◌, ◌%◌, ◌≤◌, ◌<◌, ◌≡◌, List, [], ◌∷◌, ◌++◌, ◌⊎◌, ◌↔◌, length, take, drop}
use Rattle.ground.specs.Spelling.{Plain}
use Rattle.hours.specs.Spelling.{Spells}
use Rattle.writer.specs.declared.Written.{Written}
use Rattle.writer.specs.declared.Written.TheVariants.{Length, Refused}

-- "The writer always writes two digits after the comma": a plain whole part, the comma and two digits, and they spell the hour
pub record HourText (hour : ℕ) (text : List ℕ) : Type 0 where
  pub whole : List ℕ
  pub tenth : ℕ
  pub hundredth : ℕ
  pub stands : text ≡ whole ++ 44 ∷ tenth ∷ hundredth ∷ []
  pub plain : Plain whole
  pub tenth_digit : (48 ≤ tenth) × (tenth ≤ 57)
  pub hundredth_digit : (48 ≤ hundredth) × (hundredth ≤ 57)
  pub spells : Spells 44 text hour

-- the last digits of a number, as many as there are bytes: the digit 0 is byte 48
pub data EndsIn : ℕ → List ℕ → Type 0 where
  none : (number : ℕ) → EndsIn number []
  more : (number : ℕ) (word : List ℕ) → EndsIn (number / 10) word → EndsIn number (word ++ (48 + number % 10) ∷ [])

-- A text whose numbers are allowed is written to a buffer whole or not at all: "every byte of a buffer stays", or
-- "What is written changes its own bytes at the front of the buffer and no others; its length is returned.
-- A number out of range is 4, checked before 7."
pub record Writes (Allowed : Type 0) (text buffer : List ℕ) (answer : Written) (held : List ℕ) : Type 0 where
  pub out_of_range : (answer ≡ Refused 4) ↔ (Allowed → ⊥)
  pub no_room : (answer ≡ Refused 7) ↔ (Allowed × (length buffer < length text))
  pub no_other : (number : ℕ) → answer ≡ Refused number → (number ≡ 4) ⊎ (number ≡ 7)
  pub written : (count : ℕ) → (answer ≡ Length count) ↔ (Allowed × (length text ≤ length buffer) × (count ≡ length text))
  pub refused_stays : (number : ℕ) → answer ≡ Refused number → held ≡ buffer
  pub front : (count : ℕ) → answer ≡ Length count → take count held ≡ text
  pub rest_stays : (count : ℕ) → answer ≡ Length count → (drop count held ≡ drop count buffer) × (length held ≡ length buffer)

-- A field whose number is allowed, and the byte that stops it, are put behind a line so far: at its end, with the other bytes as they were.
pub record PutBehind (so_far : Written) (Allowed : Type 0) (field : List ℕ) (stop : ℕ) (buffer : List ℕ) (answer : Written)
    (held : List ℕ) : Type 0 where
  -- once refused a line stays refused
  pub stays_refused : (number : ℕ) → so_far ≡ Refused number → (answer ≡ Refused number) × (held ≡ buffer)
  pub out_of_range : (at : ℕ) → so_far ≡ Length at → (Allowed → ⊥) → (answer ≡ Refused 4) × (held ≡ buffer)
  pub no_room : (at : ℕ) → so_far ≡ Length at → Allowed → length buffer < at + length field + 1 → (answer ≡ Refused 7) × (held ≡ buffer)
  pub put :
      (at : ℕ) → so_far ≡ Length at → Allowed → at + length field + 1 ≤ length buffer
      → (answer ≡ Length (at + length field + 1)) × (held ≡ take at buffer ++ field ++ stop ∷ drop (at + length field + 1) buffer)
