-- The fields of a judgement as its writer puts them: its word, and what stands behind it. No promise speaks of it. Assumes nothing.
use Rattle.std.specs.Prelude.{List, [], ◌∷◌, ℕ, Result, Ok, Err}
use Rattle.ground.specs.Refusal.{Read, right}
use Rattle.ground.specs.Digits.{spelled}
use Rattle.ground.specs.Text.{bytes}
use Rattle.plans.specs.declared.Fault.{Fault}
use Rattle.judgements.specs.Judgements.{text_word}

-- the word of a judgement
abbrev pub judgement_word : Result ℕ Fault → List ℕ
judgement_word (Ok count) = bytes "right"
judgement_word (Err fault) = bytes "fault"

-- the fields behind it
abbrev pub judgement_rest : Result ℕ Fault → List (Read (List ℕ))
judgement_rest (Ok count) = right (spelled count) ∷ []
judgement_rest (Err fault) =
    right (spelled fault.number) ∷ right (text_word fault.plan) ∷ right (spelled fault.line) ∷ []

-- all of them
abbrev pub judgement_put : Result ℕ Fault → List (Read (List ℕ))
judgement_put judged = right (judgement_word judged) ∷ judgement_rest judged
