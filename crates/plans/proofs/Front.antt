-- What stands before a fault of the plan: a plan that obeys the list, with as many lines as there are before the line at fault. Assumes
-- nothing.
use Prim.Native.Nat.{ℕ, ◌+◌, ◌≤◌}
use mathlib.Core.Path.{◌≡◌, refl, sym, ap, ◌∙◌}
use mathlib.Core.Bool.{true}
use mathlib.Core.List.{List, [], ◌∷◌, ◌++◌, nil≢cons, head-eq_of_cons-eq, tail-eq_of_cons-eq}
use lib.ListN.{length, length-append}
use native.Mathlib.Omega.{arith}
use Rattle.ground.specs.Refusal.{wrong}
use Rattle.ground.proofs.Tests.{never_both}
use Rattle.texts.specs.Meaning.{joined, AreLines, none, unended, more}
use Rattle.plans.specs.Judging.{judged, shown}
use Rattle.orders.proofs.Each.{never_among}
use Rattle.plans.specs.Meaning.{RightBefore, FirstFault, list_long, plan_long, in_heading, in_list, in_plan}
use Rattle.plans.specs.declared.Fault.{Fault}
use Rattle.plans.proofs.Judged.{joined_cut, fault_exactly}

-- the lines before a line of a text are lines by themselves
lines_before :
    {lines : List (List ℕ)} (front : List (List ℕ)) (line : List ℕ) (rest : List (List ℕ)) → AreLines lines → lines ≡ front ++ line ∷ rest
    → AreLines front
lines_before [] line rest are e = none
lines_before (first ∷ front) line rest none e = absurd (nil≢cons e)
lines_before (first ∷ front) line rest (unended text some unbroken) e = absurd (never_among front line rest (tail-eq_of_cons-eq e))
lines_before (first ∷ front) line rest (more body lines unbroken are) e =
    rw (sym (head-eq_of_cons-eq e)) (more body front unbroken (lines_before front line rest are (tail-eq_of_cons-eq e)))

module _ (list plan : List ℕ) where
  -- a first fault on a line of the plan: the lines before it have no fault, so that they are a plan that obeys the list
  before_first :
      {fault : Fault} {line : List ℕ} → FirstFault list plan fault line → fault.plan ≡ true → 1 ≤ fault.line → RightBefore list plan fault line
  before_first (list_long over) in_it counted = absurd (never_both in_it refl)
  before_first (plan_long fits over) in_it counted = absurd (omega arith)
  before_first (in_heading first further list_fits plan_fits parts wrongly) in_it counted = absurd (never_both in_it refl)
  before_first (in_list heading first front rest line orders list_fits plan_fits parts headed clean wrongly) in_it counted =
      absurd (never_both in_it refl)
  before_first (in_plan heading orders front rest line loads clean fits cut good wrongly) in_it counted =
      let whole : plan ≡ joined front ++ (line ++ joined rest) = sym cut.1 ∙ joined_cut front line rest in
      let size : length plan ≡ length (joined front) + length (line ++ joined rest) =
      ap length whole ∙ length-append (joined front) (line ++ joined rest) in
      record {
        part = record { front = joined front; rest = joined rest; whole = whole; begins = refl; ends = refl };
        before =
            record {
              heading = heading;
              orders = orders;
              lines = front;
              loads = loads;
              clean = clean;
              fits = omega (arith, size, fits);
              cut = (lines_before front line rest cut.0 refl, refl);
              good = good;
            };
        counted = refl;
      }

  -- a fault on a line of the plan: what stands before the line shown is a plan that obeys the list, of one line less than the line's number
  pub right_before_fault :
      (fault : Fault) → judged list plan ≡ wrong fault → fault.plan ≡ true → 1 ≤ fault.line → RightBefore list plan fault (shown fault list plan)
  right_before_fault fault e = before_first ((fault_exactly list plan fault).0 e)
