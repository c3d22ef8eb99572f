-- The law by which a contract made of equations admits a single outcome. Assumes nothing.
use mathlib.Core.Path.{◌≡◌, sym, ap, ◌∙◌}
use mathlib.Core.Logic.{◌↔◌}
use Rattle.ground.specs.Outcome.{Injective, Single}

-- where different answers never read the same, what an equation says of the reading fixes the answer
pub single_answer : {A B : Type 0} (reading : A → B) → Injective reading → (read : B) → Single (λ answer. reading answer ≡ read)
single_answer reading injective read one other p q = injective one other (p ∙ sym q)

-- and the answer is this one exactly when the reading is what this one reads as
pub answered_exactly :
    {A B : Type 0} (reading : A → B) → Injective reading → {read : B} (answer this : A) → reading answer ≡ read → (answer ≡ this) ↔ (read ≡ reading this)
answered_exactly reading injective answer this learnt = (λ same. sym learnt ∙ ap reading same, λ same. injective answer this (learnt ∙ same))

-- what an equation gives outright is fixed
pub single_value : {A : Type 0} (value : A) → Single (λ outcome. outcome ≡ value)
single_value value = single_answer (λ outcome. outcome) (λ one other same. same) value
