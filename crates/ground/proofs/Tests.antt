-- Tests as facts and back: what it means that a test of two parts holds. Assumes nothing.
use Prim.Native.Nat.{ℕ}
use mathlib.Core.Path.{◌≡◌, refl}
use mathlib.Core.Bool.{Bool, true, false, ◌&&◌}
use native.Mathlib.Omega.{arith}

-- the two ways that a test can go
pub by_test : {C : Type 0} (test : Bool) → (test ≡ true → C) → (test ≡ false → C) → C
by_test true passed failed = passed refl
by_test false passed failed = failed refl

-- no test goes both ways
pub never_both : {test : Bool} → test ≡ true → test ≡ false → ⊥
never_both {test} passed failed = let z : ◌≡◌ {A = ℕ} 0 1 = cc in omega arith

-- a test of two parts holds where both do
pub both : {one other : Bool} → one ≡ true → other ≡ true → (one && other) ≡ true
both p q = rw p q

pub first_of : (one other : Bool) → (one && other) ≡ true → one ≡ true
first_of true other both = refl
first_of false other both = both

pub second_of : (one other : Bool) → (one && other) ≡ true → other ≡ true
second_of true other both = both
second_of false other both = cc

-- a test that never holds fails
pub not_met : {met : Bool} → (met ≡ true → ⊥) → met ≡ false
not_met {met} never = by_test met (λ passed. absurd (never passed)) (λ failed. failed)
