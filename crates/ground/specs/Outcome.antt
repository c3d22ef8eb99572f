-- When a statement admits a single outcome. Assumes nothing.
use Rattle.std.specs.Prelude.{◌≡◌}

-- different values never become the same
abbrev pub Injective : {A B : Type 0} → (A → B) → Type 0
Injective {A} f = (one other : A) → f one ≡ f other → one ≡ other

-- whatever two outcomes meet the statement, they are one
abbrev pub Single : {A : Type 0} → (A → Type 0) → Type 0
Single {A} Meets = (one other : A) → Meets one → Meets other → one ≡ other
