-- Laws of a writing with two checks: 4 where a test of its numbers fails, then 7 where its text has no room.
-- Over any test, any text and any buffer. Assumes nothing.
use Prim.Native.Nat.{ℕ, ◌≤◌, ◌<◌}
use mathlib.Core.Path.{◌≡◌}
use mathlib.Core.Bool.{Bool, true, false}
use mathlib.Core.List.{List}
use lib.ListN.{length}
use lib.Dec.{leb}
use borrow.Author.Tests.{leb-true, leb-false}
use Rattle.ground.specs.Refusal.{Read, wrong, right, check, ◌>>◌}
use Rattle.ground.specs.Buffer.{fitted}
use Rattle.ground.proofs.Tests.{by_test}

-- what a text that is to be written where a test holds comes to, and why
pub data Outcome (met : Bool) (text buffer : List ℕ) (outcome : Read (List ℕ)) : Type 0 where
  unmet : met ≡ false → outcome ≡ wrong 4 → Outcome met text buffer outcome
  too_long : met ≡ true → length buffer < length text → outcome ≡ wrong 7 → Outcome met text buffer outcome
  fits : met ≡ true → length text ≤ length buffer → outcome ≡ right text → Outcome met text buffer outcome

pub outcome_of :
    (met : Bool) (text buffer : List ℕ) (written : Read (List ℕ)) → written ≡ (check met 4 >> right text) → Outcome met text buffer (fitted buffer written)
unfolding fitted
outcome_of met text buffer written tested =
    by_test met
    (λ holds.
    by_test (leb (length text) (length buffer)) (λ enough. fits holds (leb-true _ _ enough) (rw (tested, holds, enough)))
    (λ short. too_long holds (leb-false _ _ short) (rw (tested, holds, short))))
    (λ fails. unmet fails (rw (tested, fails)))
