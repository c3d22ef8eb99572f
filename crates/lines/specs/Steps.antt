-- What the private steps of the line readers come to. The public definitions do not rest on it. Assumes nothing.
use Rattle.std.specs.Prelude.{ℕ, List, [], ◌∷◌, Result, Ok, Err}
use Rattle.std.specs.Borrow.{Bor}
use Rattle.ground.specs.declared.Refusal.{Refusal}
use Rattle.ground.specs.Refusal.{Read, wrong, right, refusal_number, ◌>>◌}
use Rattle.fields.specs.Fields.{fields_of, shape_of}

-- the texts of three fields, or the refusal's number
abbrev pub as_texts : Result (Bor (List ℕ) × Bor (List ℕ) × Bor (List ℕ)) Refusal → Read (List (List ℕ))
as_texts (Ok fields) = right (fields.0.now ∷ fields.1.now ∷ fields.2.now ∷ [])
as_texts (Err refusal) = wrong (refusal_number refusal)

-- the fields of a line of three, or refusal 1
unfoldable pub three_of : List ℕ → Read (List (List ℕ))
three_of line = do
  shape_of 3 3 line
  right (fields_of line)
