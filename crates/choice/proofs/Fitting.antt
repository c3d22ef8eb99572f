-- The computed choice is the one that the rule describes: a chamber fits best exactly where it is chosen, and none fits exactly where
-- nothing is. Assumes nothing.
use Prim.Native.Nat.{ℕ, zero, suc, ◌+◌, ◌-◌, max, ◌≤◌, ◌<◌}
use mathlib.Core.Path.{◌≡◌, refl, sym}
use mathlib.Core.List.{List}
use mathlib.Core.Logic.{◌↔◌}
use lib.ListN.{length, get_or, take, drop, length-take}
use lib.Seq.{take-length}
use lib.Dec.{leb, ltb}
use native.Mathlib.Omega.{arith}
use borrow.Author.Tests.{ltb-true, ltb-false, leb-true, leb-false}
use Rattle.std.specs.Prelude.{Option, Some, None}
use Rattle.ground.proofs.Tests.{by_test}
use Rattle.choice.specs.BestFit.{chamber_at, offer, better, best_fit}
use Rattle.choice.specs.Meaning.{hour_for, Fits, BestFitting, RightChoice}
use Rattle.choice.specs.declared.Offer.{Offer}
use Rattle.choice.proofs.Choosing.{better_nothing, choice_step, choice_end}

module _ (ready due run : ℕ) (hours : List ℕ) where
  -- where the same chambers fit the same choice is right
  same_right :
      (one other : ℕ) → ((chamber : ℕ) → Fits ready due run hours one chamber → Fits ready due run hours other chamber)
      → ((chamber : ℕ) → Fits ready due run hours other chamber → Fits ready due run hours one chamber) → (choice : Option Offer)
      → RightChoice ready due run hours one choice → RightChoice ready due run hours other choice
  same_right one other to from None none = λ chamber fits. none chamber (from chamber fits)
  same_right one other to from (Some offer) best =
      record {
        fitting = to offer.chamber best.fitting;
        started = best.started;
        largest = λ each fits. best.largest each (from each fits);
        lowest = λ each fits. best.lowest each (from each fits);
      }

  -- One chamber more, the last of them.
  module _ (count : ℕ) (inside : count < length hours) where
    more_fits : (chamber : ℕ) → Fits ready due run hours count chamber → Fits ready due run hours (suc count) chamber
    more_fits chamber fits = record { numbered = (fits.numbered.0, omega (arith, fits.numbered.1)); listed = fits.listed; in_time = fits.in_time }

    last_or_before :
        {C : Type 0} (chamber : ℕ) → Fits ready due run hours (suc count) chamber → (Fits ready due run hours count chamber → C)
        → (chamber ≡ suc count → C) → C
    last_or_before chamber fits before last =
        by_test (leb chamber count)
        (λ e. before (record { numbered = (fits.numbered.0, leb-true _ _ e); listed = fits.listed; in_time = fits.in_time }))
        (λ e. last (omega (arith, fits.numbered.1, leb-false chamber count e)))

    -- its hour
    abbrev hour : ℕ
    hour = hour_for hours ready (suc count)

    -- it fits best where all before it that fit are earlier
    last_best :
        hour + run ≤ due → ((other : ℕ) → Fits ready due run hours count other → hour_for hours ready other < hour)
        → BestFitting ready due run hours (suc count) (suc count) hour
    last_best in_time earlier =
        record {
          fitting = record { numbered = (omega arith, omega arith); listed = omega arith; in_time = in_time };
          started = refl;
          largest = λ other fits. last_or_before other fits (λ before. omega (arith, earlier other before)) (λ last. rw last (omega arith));
          lowest = λ other fits equal. last_or_before other fits (λ before. omega (arith, earlier other before)) (λ last. omega arith);
        }

    -- and else the best before it stays the best
    right_last : hour + run ≤ due → (choice : Option Offer) → RightChoice ready due run hours count choice → RightChoice ready due run hours (suc count) (better choice (chamber_at (suc count) hour))
    right_last in_time None none = last_best in_time (λ other fits. absurd (none other fits))
    right_last in_time (Some offer) best =
        by_test (ltb offer.start hour)
        (λ e. rw e (last_best in_time (λ other fits. omega (arith, best.largest other fits, ltb-true offer.start hour e))))
        (λ e. rw e (stays (ltb-false offer.start hour e)))
      where
        stays : hour ≤ offer.start → BestFitting ready due run hours (suc count) offer.chamber offer.start
        stays late = record {
          fitting = more_fits offer.chamber best.fitting;
          started = best.started;
          largest = λ other fits. last_or_before other fits (best.largest other) (λ last. rw last late);
          lowest = λ other fits equal.
              last_or_before other fits (λ before. best.lowest other before equal) (λ last. omega (arith, best.fitting.numbered.1));
        }

    -- so the better of the choice before it and what it offers is right
    right_more :
        (choice : Option Offer) → RightChoice ready due run hours count choice
        → RightChoice ready due run hours (count + 1) (better choice (offer ready due run (count + 1) (get_or hours count 0)))
    unfolding offer
    right_more choice right =
        let more : count + 1 ≡ suc count = omega arith in
        let there : suc count - 1 ≡ count = omega arith in
        let its_own : hour ≡ max (get_or hours count 0) ready = rw there refl in
        rw (more, sym its_own)
        (by_test (leb (hour + run) due)
        (λ e. rw e (right_last (leb-true _ _ e) choice right))
        (λ e.
        rw (e, better_nothing choice)
        (same_right count (suc count) more_fits (λ chamber fits. last_or_before chamber fits (λ before. before) (late (leb-false _ _ e) chamber fits)) choice
        right)))
      where
        late :
            due < hour + run → (chamber : ℕ) → Fits ready due run hours (suc count) chamber → chamber ≡ suc count → Fits ready due run hours count chamber
        late past chamber fits last = let own = rw last at fits.in_time in absurd (omega (arith, own))

  -- the choice so far, and the best of what is left
  right_from :
      (count left at : ℕ) (choice : Option Offer) → at + left ≡ length (take count hours) → RightChoice ready due run hours at choice
      → RightChoice ready due run hours (length (take count hours)) (better choice (best_fit ready due run (at + 1) (drop at (take count hours))))
  right_from count zero at choice all right =
      let end : at ≡ length (take count hours) = omega arith in
      rw (choice_end ready due run (at + 1) choice hours count at (omega arith), sym end) right
  right_from count (suc left) at choice all right =
      let few = rw (length-take count hours) at all in
      rw (choice_step ready due run (at + 1) choice hours count at (omega (arith, few)) (omega (arith, few)))
      (right_from count left (at + 1) (better choice (offer ready due run (at + 1) (get_or hours at 0))) (omega arith) (right_more at (omega (arith, few)) choice right))

-- Any chambers: the choice is made among the first of them, as many as the count says.
module _ (ready due run : ℕ) (hours : List ℕ) (count : ℕ) where
  -- so the computed choice is right
  pub best_right : RightChoice ready due run hours count (best_fit ready due run 1 (take count hours))
  best_right =
      same_right ready due run hours (length (take count hours)) count fewer all (best_fit ready due run 1 (take count hours))
      (right_from ready due run hours count (length (take count hours)) 0 None (omega arith) (λ chamber fits. omega (arith, fits.numbered)))
    where
      fewer : (chamber : ℕ) → Fits ready due run hours (length (take count hours)) chamber → Fits ready due run hours count chamber
      fewer chamber fits =
          let most = rw (length-take count hours) at fits.numbered.1 in
          record { numbered = (fits.numbered.0, omega (arith, most)); listed = fits.listed; in_time = fits.in_time }

      all : (chamber : ℕ) → Fits ready due run hours count chamber → Fits ready due run hours (length (take count hours)) chamber
      all chamber fits =
          record {
            numbered = (fits.numbered.0, rw (length-take count hours) (omega (arith, fits.numbered.1, fits.listed)));
            listed = fits.listed;
            in_time = fits.in_time;
          }

  -- and one choice is right
  pub right_only : (one other : Option Offer) → RightChoice ready due run hours count one → RightChoice ready due run hours count other → one ≡ other
  right_only None None none best = refl
  right_only None (Some offer) none best = absurd (none offer.chamber best.fitting)
  right_only (Some offer) None best none = absurd (none offer.chamber best.fitting)
  right_only (Some one) (Some other) best its_best =
      let least : one.start ≤ other.start = omega (arith, best.started, its_best.largest one.chamber best.fitting) in
      let most : other.start ≤ one.start = omega (arith, its_best.started, best.largest other.chamber its_best.fitting) in
      let start : one.start ≡ other.start = omega arith in
      let low : one.chamber ≤ other.chamber = best.lowest other.chamber its_best.fitting (omega (arith, its_best.started)) in
      let high : other.chamber ≤ one.chamber = its_best.lowest one.chamber best.fitting (omega (arith, best.started)) in
      let chamber : one.chamber ≡ other.chamber = omega arith in
      λ i. Some (record { chamber = chamber i; start = start i })

  -- so a choice is what the rule describes exactly where it is the computed one
  pub right_exactly : (choice : Option Offer) → (best_fit ready due run 1 (take count hours) ≡ choice) ↔ RightChoice ready due run hours count choice
  right_exactly choice = (λ chosen. rw chosen at best_right, λ right. right_only (best_fit ready due run 1 (take count hours)) choice best_right right)

-- a chosen chamber is one of those listed, and its load ends in time
pub record Listed (due run : ℕ) (hours : List ℕ) (chamber start : ℕ) : Type 0 where
  pub least : 1 ≤ chamber
  pub most : chamber ≤ length hours
  pub in_time : start + run ≤ due

abbrev pub Chosen : ℕ → ℕ → List ℕ → Option Offer → Type 0
Chosen due run hours None = Unit {0}
Chosen due run hours (Some offer) = Listed due run hours offer.chamber offer.start

pub chosen : (ready due run : ℕ) (hours : List ℕ) → Chosen due run hours (best_fit ready due run 1 hours)
chosen ready due run hours =
    listed (best_fit ready due run 1 hours)
    (rw (take-length hours) at (best_right ready due run hours (length hours)))
  where
    listed : (choice : Option Offer) → RightChoice ready due run hours (length hours) choice → Chosen due run hours choice
    listed None none = tt
    listed (Some offer) best =
        record { least = best.fitting.numbered.0; most = best.fitting.listed; in_time = omega (arith, best.started, best.fitting.in_time) }
