-- Which numbers the faults of lines have, and that 9 is given exactly for a text that is too long. Assumes nothing.
use Prim.Native.Nat.{ℕ, ◌≤◌, ◌<◌}
use mathlib.Core.Path.{◌≡◌, refl, ap}
use mathlib.Core.Bool.{true, false}
use mathlib.Core.Logic.{◌↔◌, ◌⊎◌, inl, inr, ⊎_elim}
use mathlib.Core.List.{List}
use lib.ListN.{length}
use native.Mathlib.Omega.{arith}
use Rattle.std.proofs.Common.{Result, Ok, Err}
use Rattle.std.specs.Result.{MatchResult, IsErrAnd}
use Rattle.ground.specs.Refusal.{wrong}
use Rattle.ground.specs.Limits.{longest_text}
use Rattle.ground.proofs.Tests.{never_both}
use Rattle.lines.specs.declared.Heading.{Heading}
use Rattle.lines.specs.declared.Order.{Order}
use Rattle.lines.specs.declared.Load.{Load}
use Rattle.orders.specs.Meaning.{OrderWrong, full, out_of_turn}
use Rattle.orders.specs.Meaning.OrderWrong.{misread as order_misread}
use Rattle.lines.proofs.Promises.{line_fault_from}
use Rattle.plans.specs.Judging.{judged}
use Rattle.plans.specs.Meaning.{fault_of, LoadWrong, FirstFault, unlisted, again, early, late, overlapping, list_long, plan_long, in_heading, in_list, in_plan}
use Rattle.plans.specs.Meaning.LoadWrong.{misread as load_misread}
use Rattle.plans.specs.declared.Fault.{Fault}
use Rattle.plans.proofs.Judged.{list_over, plan_over, fault_exactly}

-- "any of 1 to 6 on any line" of a list: of an order line behind others
pub order_wrong_most : (earlier : List Order) (line : List ℕ) {number : ℕ} → OrderWrong earlier line number → number ≤ 6
order_wrong_most earlier line (order_misread fault) = omega (arith, (line_fault_from fault).1)
order_wrong_most earlier line (full order read count) = omega arith
order_wrong_most earlier line (out_of_turn order read room some) = omega arith

-- no line is refused by 9
order_never_nine : (earlier : List Order) (line : List ℕ) {number : ℕ} → OrderWrong earlier line number → number ≡ 9 → ⊥
order_never_nine earlier line wrongly nine = omega (arith, order_wrong_most earlier line wrongly)

-- no plan line either
load_never_nine :
    (heading : Heading) (orders : List Order) (earlier : List Load) (line : List ℕ) {number : ℕ} → LoadWrong heading orders earlier line number
    → number ≡ 9 → ⊥
load_never_nine heading orders earlier line (load_misread fault) nine = omega (arith, (line_fault_from fault).1)
load_never_nine heading orders earlier line (unlisted load read never) nine = omega arith
load_never_nine heading orders earlier line (again load order read names some) nine = omega arith
load_never_nine heading orders earlier line (early load order read names none before) nine = omega arith
load_never_nine heading orders earlier line (late load order read names none kept after) nine = omega arith
load_never_nine heading orders earlier line (overlapping load read kept none some) nine = omega arith

module _ (list plan : List ℕ) where
  -- a first fault with the number 9 is a text too long, at line 0 with the empty front
  nine_long :
      {fault : Fault} {line : List ℕ} → FirstFault list plan fault line → fault.number ≡ 9
      → ((longest_text < length list) × (fault ≡ fault_of 9 false 0 0 0))
      ⊎ ((length list ≤ longest_text) × (longest_text < length plan) × (fault ≡ fault_of 9 true 0 0 0))
  nine_long (list_long over) nine = inl (over, refl)
  nine_long (plan_long fits over) nine = inr (fits, over, refl)
  nine_long (in_heading first further list_fits plan_fits parts wrongly) nine = absurd (omega (arith, nine, (line_fault_from wrongly).1))
  nine_long (in_list heading first front rest line orders list_fits plan_fits parts headed clean wrongly) nine = absurd (order_never_nine orders line wrongly nine)
  nine_long (in_plan heading orders front rest line loads clean fits cut good wrongly) nine = absurd (load_never_nine heading orders loads line wrongly nine)

  -- 9 in the list exactly when it is longer than 65,536 bytes, at line 0 with the empty front
  pub list_too_long : (judged list plan ≡ wrong (fault_of 9 false 0 0 0)) ↔ (longest_text < length list)
  list_too_long = (λ e. long (nine_long ((fault_exactly list plan (fault_of 9 false 0 0 0)).0 e) refl), list_over list plan)
    where
      long :
          ((longest_text < length list) × (fault_of 9 false 0 0 0 ≡ fault_of 9 false 0 0 0))
          ⊎ ((length list ≤ longest_text) × (longest_text < length plan) × (fault_of 9 false 0 0 0 ≡ fault_of 9 true 0 0 0))
          → longest_text < length list
      long (inl p) = p.0
      long (inr p) = absurd (never_both (ap (λ fault. fault.plan) p.2) refl)

  -- 9 in the plan exactly when the plan is longer and the list is not, at line 0 with the empty front
  pub plan_too_long : (judged list plan ≡ wrong (fault_of 9 true 0 0 0)) ↔ ((length list ≤ longest_text) × (longest_text < length plan))
  plan_too_long =
      (λ e. long (nine_long ((fault_exactly list plan (fault_of 9 true 0 0 0)).0 e) refl), λ p. plan_over list plan p.0 p.1)
    where
      long :
          ((longest_text < length list) × (fault_of 9 true 0 0 0 ≡ fault_of 9 false 0 0 0))
          ⊎ ((length list ≤ longest_text) × (longest_text < length plan) × (fault_of 9 true 0 0 0 ≡ fault_of 9 true 0 0 0))
          → (length list ≤ longest_text) × (longest_text < length plan)
      long (inl p) = absurd (never_both refl (ap (λ fault. fault.plan) p.1))
      long (inr p) = (p.0, p.1)

  -- and 9 is given in no other way
  pub nine_only :
      (fault : Fault) → judged list plan ≡ wrong fault → fault.number ≡ 9 → (fault ≡ fault_of 9 false 0 0 0) ⊎ (fault ≡ fault_of 9 true 0 0 0)
  nine_only fault e nine = ⊎_elim (λ p. inl p.1) (λ p. inr p.2) (nine_long ((fault_exactly list plan fault).0 e) nine)

-- an error that was made of another is that other's
pub made_of :
    {Known Why : Type 0} (given : Result Known Why) (out : Result Known Fault) (one : Fault) (Made : Why → Fault → Type 0)
    → MatchResult given (λ known. out ≡ Ok known) (λ why. IsErrAnd out (Made why)) → out ≡ Err one
    → (why : Why) × (given ≡ Err why) × Made why one
made_of (Ok known) out one Made cases failed = absurd (cc)
made_of (Err why) out one Made cases failed = (why, refl, rw failed at cases)
