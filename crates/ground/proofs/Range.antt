-- Laws of ranges: the test and the two bounds. Assumes nothing.
use Prim.Native.Nat.{ℕ, ◌≤◌}
use mathlib.Core.Path.{◌≡◌}
use mathlib.Core.Bool.{true, false}
use mathlib.Core.Logic.{◌↔◌}
use lib.Dec.{leb}
use borrow.Author.Tests.{leb-true, le-leb}
use Rattle.ground.specs.Range.{within}
use Rattle.ground.proofs.Tests.{never_both, not_met, both, first_of, second_of}

module _ (low high number : ℕ) where
  pub within_from : low ≤ number → number ≤ high → within low high number ≡ true
  within_from least most = both (le-leb _ _ least) (le-leb _ _ most)

  pub within_low : within low high number ≡ true → low ≤ number
  within_low inside = leb-true _ _ (first_of (leb low number) (leb number high) inside)

  pub within_high : within low high number ≡ true → number ≤ high
  within_high inside = leb-true _ _ (second_of (leb low number) (leb number high) inside)

-- a number is outside a range exactly when it is not in it
pub outside_exactly : (low high number : ℕ) → (within low high number ≡ false) ↔ ((low ≤ number) × (number ≤ high) → ⊥)
outside_exactly low high number = (
  λ out inside. never_both (within_from low high number inside.0 inside.1) out,
  λ never. not_met (λ inside. never (within_low low high number inside, within_high low high number inside)),
)
