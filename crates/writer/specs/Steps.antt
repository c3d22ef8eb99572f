-- What the writers of lines in this room and above are proved by: fields put one behind the other, how many bytes they take, and the line
-- that they make. No public contract speaks of it. Assumes nothing.
use Rattle.std.specs.Prelude.{ℕ, ◌+◌, ◌≡◌, List, [], ◌∷◌, length}
use Rattle.ground.specs.Refusal.{Read, wrong, right, ◌>>=◌}
use Rattle.texts.specs.Lines.{line_end}
use Rattle.fields.specs.Fields.{tab}
use Rattle.writer.specs.Line.{place_after, held_after, line_with}

-- what a field put behind a line so far comes to
abbrev pub Puts : Read ℕ → Read (List ℕ) → ℕ → List ℕ → Read ℕ → List ℕ → Type 0
Puts so_far field stop buffer answer held = (answer ≡ place_after so_far field stop buffer) × (held ≡ held_after so_far field stop buffer)

-- fields put one behind the other, a tab behind each and the line end behind the last: the place behind them, and the buffer then
unfoldable pub fields_after : Read ℕ → List (Read (List ℕ)) → List ℕ → Read ℕ × List ℕ
fields_after so_far [] buffer = (so_far, buffer)
fields_after so_far (field ∷ []) buffer = (place_after so_far field line_end buffer, held_after so_far field line_end buffer)
fields_after so_far (field ∷ next ∷ fields) buffer =
    fields_after (place_after so_far field tab buffer) (next ∷ fields) (held_after so_far field tab buffer)

-- what the steps of a line writer come to
pub record Comes (so_far : Read ℕ) (fields : List (Read (List ℕ))) (buffer : List ℕ) (answer : Read ℕ) (held : List ℕ) : Type 0 where
  pub place : answer ≡ (fields_after so_far fields buffer).0
  pub holds : held ≡ (fields_after so_far fields buffer).1

-- how many bytes a field and its stop take, and fields with theirs
abbrev pub bytes_of : Read (List ℕ) → ℕ
bytes_of (wrong number) = 0
bytes_of (right text) = length text + 1

unfoldable pub bytes_of_all : List (Read (List ℕ)) → ℕ
bytes_of_all [] = 0
bytes_of_all (field ∷ fields) = bytes_of field + bytes_of_all fields

-- the texts of fields; what the first of them that is refused is refused by
unfoldable pub texts_of : List (Read (List ℕ)) → Read (List (List ℕ))
texts_of [] = right []
texts_of (field ∷ fields) = do
  text ← field
  texts ← texts_of fields
  right (text ∷ texts)

-- the line to be written of them
unfoldable pub line_made : List (Read (List ℕ)) → Read (List ℕ)
line_made fields = do
  texts ← texts_of fields
  right (line_with texts)
