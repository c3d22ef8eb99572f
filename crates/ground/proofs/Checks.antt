-- Laws of a value or a refusal: how a chain of checks is taken apart. Assumes nothing.
use Prim.Native.Nat.{ℕ}
use mathlib.Core.Path.{◌≡◌, refl, sym, ap, ◌∙◌}
use mathlib.Core.Logic.{◌↔◌}
use mathlib.Core.Bool.{Bool, true, false, cond, ◌&&◌}
use native.Mathlib.Omega.{arith}
use Rattle.ground.proofs.Tests.{never_both}
use Rattle.ground.specs.Refusal.{Or, wrong, right, Read, check, number_of, ◌>>◌}

-- a value is no refusal
pub never_right : {E A : Type 0} {e : E} {a : A} → wrong e ≡ right a → ⊥
never_right {E} {A} {e} {a} same = let z : ◌≡◌ {A = ℕ} 0 1 = cc in omega arith

-- two values, or two refusals, that are one
pub same_right : {E A : Type 0} {a b : A} → ◌≡◌ {A = Or E A} (right a) (right b) → a ≡ b
same_right {E} {A} {a} {b} same = cc

pub same_wrong : {E A : Type 0} {d e : E} → ◌≡◌ {A = Or E A} (wrong d) (wrong e) → d ≡ e
same_wrong {E} {A} {d} {e} same = cc

-- the number of a check and what follows it
pub number_of_check : {A : Type 0} (met : Bool) (number : ℕ) (rest : Read A) → number_of (check met number >> rest) ≡ cond met (number_of rest) number
number_of_check true number rest = refl
number_of_check false number rest = refl

-- two checks by one number are one check
pub two_checks :
    {A : Type 0} (one other : Bool) (number : ℕ) (rest : Read A)
    → ((check one number >> check other number) >> rest) ≡ (check (one && other) number >> rest)
two_checks true other number rest = refl
two_checks false other number rest = refl

-- with a number there is a refusal
pub refused_by : {A : Type 0} (read : Read A) → (number_of read ≡ 0 → ⊥) → read ≡ wrong (number_of read)
refused_by (wrong number) some = refl
refused_by (right value) some = absurd (some refl)

-- a check that is met leaves what follows it, and one that is not is the refusal
pub after_met : {A : Type 0} {met : Bool} (number : ℕ) (rest : Read A) → met ≡ true → (check met number >> rest) ≡ rest
after_met number rest met = rw met

pub after_unmet : {A : Type 0} {met : Bool} (number : ℕ) (rest : Read A) → met ≡ false → (check met number >> rest) ≡ wrong number
after_unmet number rest unmet = rw unmet

-- what is no refusal by this number comes after the check was met
pub passed_by :
    {A : Type 0} (met : Bool) (number : ℕ) (rest result : Read A) → (wrong number ≡ result → ⊥) → (check met number >> rest) ≡ result
    → (met ≡ true) × (rest ≡ result)
passed_by true number rest result other e = (refl, e)
passed_by false number rest result other e = absurd (other e)

-- what a reading says: a value that is meant, or its one refusal
abbrev pub ReadAs : {A : Type 0} → (A → Type 0) → ℕ → Read A → Type 0
ReadAs Meant number (wrong given) = given ≡ number
ReadAs Meant number (right value) = Meant value

-- one that gives every value that is meant is refused exactly when none is
pub refused_otherwise :
    {A : Type 0} (read : Read A) (number : ℕ) (Meant : A → Type 0) → ReadAs Meant number read → ((value : A) → Meant value → read ≡ right value)
    → (given : ℕ) → (read ≡ wrong given) ↔ ((given ≡ number) × ((value : A) → Meant value → ⊥))
refused_otherwise (wrong other) number Meant says gives given =
    (λ e. (sym (same_wrong e) ∙ says, λ value meant. never_right (gives value meant)), λ none. ap wrong (says ∙ sym none.0))
refused_otherwise (right value) number Meant says gives given = (λ e. absurd (never_right (sym e)), λ none. absurd (none.1 value says))

-- a check and a value behind it come to the value exactly when the check is met, and to the check's refusal exactly when it is not
pub checked_right : {A : Type 0} (met : Bool) (number : ℕ) (kept value : A) → ((check met number >> right kept) ≡ right value) ↔ ((met ≡ true) × (kept ≡ value))
checked_right true number kept value = (λ e. (refl, same_right e), λ p. ap right p.1)
checked_right false number kept value = (λ e. absurd (never_right e), λ p. absurd (never_both p.0 refl))

pub checked_wrong :
    {A : Type 0} (met : Bool) (number : ℕ) (kept : A) (given : ℕ) → ((check met number >> right kept) ≡ wrong given) ↔ ((met ≡ false) × (given ≡ number))
checked_wrong true number kept given = (λ e. absurd (never_right (sym e)), λ p. absurd (never_both refl p.0))
checked_wrong false number kept given = (λ e. (refl, sym (same_wrong e)), λ p. ap wrong (sym p.1))
