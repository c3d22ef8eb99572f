-- One way of writing a line: field behind field in a buffer of its own, each with the byte that stops it, and then whole or not at all.
-- Assumes nothing.
use Rattle.std.specs.Prelude.{ℕ, ◌+◌, List, [], ◌∷◌, ◌++◌, length, take, leb, ltb}
use Rattle.ground.specs.Refusal.{Read, right, check, ◌>>=◌, ◌>>◌}
use Rattle.ground.specs.Buffer.{length_of, buffer_after}
use Rattle.texts.specs.Lines.{line_end}
use Rattle.fields.specs.Meaning.{tabbed}

-- room enough for any line: four fields at most, two words, or a word and an hour, and two numbers of ten digits
abbrev pub line_room : ℕ
line_room = 48

-- what stands at the front of a buffer once a field and the byte that stops it are put behind so many bytes of it:
-- "Each refusal returns its number", so a line that was refused stays refused; then
-- what the field is refused by; then 7 where there is no room
unfoldable pub front_after : Read ℕ → Read (List ℕ) → ℕ → List ℕ → Read (List ℕ)
front_after so_far field stop buffer = do
  at ← so_far
  text ← field
  check (ltb (at + length text) (length buffer)) 7
  right (take at buffer ++ text ++ stop ∷ [])

-- the place behind a field that was put, and what the buffer holds then
abbrev pub place_after : Read ℕ → Read (List ℕ) → ℕ → List ℕ → Read ℕ
place_after so_far field stop buffer = length_of (front_after so_far field stop buffer)

abbrev pub held_after : Read ℕ → Read (List ℕ) → ℕ → List ℕ → List ℕ
held_after so_far field stop buffer = buffer_after buffer (front_after so_far field stop buffer)

-- "Each line ends with byte 10": fields with a tab between each two and the line end behind
abbrev pub line_with : List (List ℕ) → List ℕ
line_with fields = tabbed fields ++ line_end ∷ []

-- the line that was put together in a buffer; 7 where the buffer is shorter than was answered
unfoldable pub line_in : Read ℕ → List ℕ → Read (List ℕ)
line_in answered buffer = do
  count ← answered
  check (leb count (length buffer)) 7
  right (take count buffer)
