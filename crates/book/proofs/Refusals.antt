-- When an order is refused, and by which number; and what is so when it is not. Assumes nothing.
use Prim.Native.Nat.{ℕ, ◌≤◌, ◌<◌}
use mathlib.Core.Path.{◌≡◌, refl, sym, ap, ◌∙◌}
use mathlib.Core.Logic.{◌⊎◌, inl, inr, ⊎_elim, ◌↔◌}
use lib.ListN.{take}
use lib.Dec.{leb, ltb}
use native.Mathlib.Omega.{arith}
use borrow.Author.Tests.{leb-true, leb-false, le-leb, lt-leb, ltb-true, ltb-false, lt-ltb, le-ltb}
use Rattle.ground.specs.Refusal.{Read, wrong, right, check, ◌>>◌}
use Rattle.ground.specs.Limits.{last_hour, most_orders}
use Rattle.ground.proofs.Tests.{by_test, never_both, not_met}
use Rattle.ground.proofs.Checks.{never_right, same_right, same_wrong, after_met, after_unmet}
use Rattle.book.specs.Soundness.{is_sound}
use Rattle.choice.specs.BestFit.{best_fit}
use Rattle.book.specs.Taking.{decided}
use Rattle.book.specs.Meaning.{Sound, Admitted, BookRefuses, not_sound, ready_past_last, due_past_last, book_full, below_clock}
use Rattle.book.specs.declared.Book.{Book}
use Rattle.std.specs.Prelude.{Option}
use Rattle.choice.specs.declared.Offer.{Offer}
use Rattle.book.proofs.Soundness.{sound_facts, sound_from}

module _ (book : Book) (ready due : ℕ) where
  -- what is left to check, from the last check to the first
  abbrev chosen : Read (Option Offer)
  chosen = right (best_fit ready due book.run 1 (take book.chambers book.free))

  abbrev from_turn : Read (Option Offer)
  from_turn = check (leb book.clock ready) 5 >> chosen

  abbrev from_room : Read (Option Offer)
  from_room = check (ltb book.taken most_orders) 6 >> from_turn

  abbrev from_due : Read (Option Offer)
  from_due = check (leb due last_hour) 4 >> from_room

  abbrev from_ready : Read (Option Offer)
  from_ready = check (leb ready last_hour) 4 >> from_due

  in_order : decided book ready due ≡ (check (is_sound book) 8 >> from_ready)
  unfolding decided
  in_order = refl

  -- a sound book leaves the other checks, and so do hours in range
  past_sound : Sound book → decided book ready due ≡ from_ready
  past_sound sound = in_order ∙ after_met 8 from_ready (sound_from book sound)

  past_hours : Sound book → ready ≤ 999_999 → due ≤ 999_999 → decided book ready due ≡ from_room
  past_hours sound one other = past_sound sound ∙ after_met 4 from_due (le-leb _ _ one) ∙ after_met 4 from_room (le-leb _ _ other)

  -- an order is refused by its first fault
  fault_given : {number : ℕ} → BookRefuses book ready due number → decided book ready due ≡ wrong number
  fault_given (not_sound unsound) = in_order ∙ after_unmet 8 from_ready (not_met (λ met. unsound (sound_facts book met)))
  fault_given (ready_past_last sound late) = past_sound sound ∙ after_unmet 4 from_due (lt-leb _ _ late)
  fault_given (due_past_last sound one late) = past_sound sound ∙ after_met 4 from_due (le-leb _ _ one) ∙ after_unmet 4 from_room (lt-leb _ _ late)
  fault_given (book_full sound one other full) =
      past_hours sound one other ∙ after_unmet 6 from_turn (le-ltb book.taken most_orders (omega (arith, full)))
  fault_given (below_clock sound one other room early) =
      past_hours sound one other ∙ after_met 6 from_turn (lt-ltb _ _ room) ∙ after_unmet 5 chosen (lt-leb _ _ early)

  -- with none it is answered by the choice
  admitted_chosen : Admitted book ready due → decided book ready due ≡ chosen
  admitted_chosen admitted =
      past_hours admitted.sound admitted.ready_most admitted.due_most
      ∙ after_met 6 from_turn (lt-ltb _ _ admitted.room)
      ∙ after_met 5 chosen (le-leb _ _ admitted.in_turn)

  -- it has a first fault or none
  record Faulty : Type 0 where
    number : ℕ
    fault : BookRefuses book ready due number

  faulty : {number : ℕ} → BookRefuses book ready due number → Faulty ⊎ Admitted book ready due
  faulty {number} fault = inl (record { number = number; fault = fault })

  one_way : Faulty ⊎ Admitted book ready due
  one_way = by_test (is_sound book) (λ sound. hours (sound_facts book sound)) (λ unsound. faulty (not_sound (λ sound. never_both (sound_from book sound) unsound)))
    where
      turn : Sound book → ready ≤ 999_999 → due ≤ 999_999 → book.taken < 512 → Faulty ⊎ Admitted book ready due
      turn sound one other room =
          by_test (leb book.clock ready)
          (λ met. inr (record { sound = sound; ready_most = one; due_most = other; room = room; in_turn = leb-true _ _ met }))
          (λ early. faulty (below_clock sound one other room (leb-false _ _ early)))

      hours : Sound book → Faulty ⊎ Admitted book ready due
      hours sound =
          by_test (leb ready last_hour)
          (λ one.
          by_test (leb due last_hour)
          (λ other.
          by_test (ltb book.taken most_orders) (λ room. turn sound (leb-true _ _ one) (leb-true _ _ other) (ltb-true _ _ room))
          (λ full.
          faulty
          (book_full sound (leb-true _ _ one) (leb-true _ _ other) (omega (arith, sound.taken_most, ltb-false book.taken most_orders full)))))
          (λ late. faulty (due_past_last sound (leb-true _ _ one) (leb-false _ _ late))))
          (λ late. faulty (ready_past_last sound (leb-false _ _ late)))

  -- so it is refused exactly by its first fault
  pub by_first_fault : (number : ℕ) → (decided book ready due ≡ wrong number) ↔ BookRefuses book ready due number
  by_first_fault number = (λ e. ⊎_elim (its_own e) (λ admitted. absurd (never_right (sym e ∙ admitted_chosen admitted))) one_way, fault_given)
    where
      its_own : decided book ready due ≡ wrong number → Faulty → BookRefuses book ready due number
      its_own e faulty = rw (same_wrong (sym (fault_given faulty.fault) ∙ e)) at faulty.fault

  -- and answered exactly when nothing is wrong, and then by the choice
  pub by_choice :
      (choice : Option Offer)
      → (decided book ready due ≡ right choice)
      ↔ (Admitted book ready due × (best_fit ready due book.run 1 (take book.chambers book.free) ≡ choice))
  by_choice choice = (
    λ e.
        ⊎_elim (λ faulty. absurd (never_right (sym (fault_given faulty.fault) ∙ e)))
        (λ admitted. (admitted, same_right (sym (admitted_chosen admitted) ∙ e))) one_way,
    λ p. admitted_chosen p.0 ∙ ap right p.1,
  )

  -- the numbers that are given, and when each is
  numbers : {number : ℕ} → BookRefuses book ready due number → (number ≡ 8) ⊎ (number ≡ 4) ⊎ (number ≡ 6) ⊎ (number ≡ 5)
  numbers (not_sound unsound) = inl refl
  numbers (ready_past_last sound late) = inr (inl refl)
  numbers (due_past_last sound one late) = inr (inl refl)
  numbers (book_full sound one other full) = inr (inr (inl refl))
  numbers (below_clock sound one other room early) = inr (inr (inr refl))

  eight : BookRefuses book ready due 8 → Sound book → ⊥
  eight (not_sound unsound) = unsound

  four : BookRefuses book ready due 4 → Sound book × ((ready ≤ 999_999) × (due ≤ 999_999) → ⊥)
  four (ready_past_last sound late) = (sound, λ hours. omega arith)
  four (due_past_last sound one late) = (sound, λ hours. omega arith)

  six : BookRefuses book ready due 6 → Sound book × (ready ≤ 999_999) × (due ≤ 999_999) × (book.taken ≡ 512)
  six (book_full sound one other full) = (sound, one, other, full)

  five : BookRefuses book ready due 5 → Sound book × (ready ≤ 999_999) × (due ≤ 999_999) × (book.taken < 512) × (ready < book.clock)
  five (below_clock sound one other room early) = (sound, one, other, room, early)

  pub by_no_other : (number : ℕ) → decided book ready due ≡ wrong number → (number ≡ 8) ⊎ (number ≡ 4) ⊎ (number ≡ 6) ⊎ (number ≡ 5)
  by_no_other number e = numbers ((by_first_fault number).0 e)

  pub by_eight : (decided book ready due ≡ wrong 8) ↔ (Sound book → ⊥)
  by_eight = (λ e. eight ((by_first_fault 8).0 e), λ unsound. fault_given (not_sound unsound))

  pub by_four : (decided book ready due ≡ wrong 4) ↔ (Sound book × ((ready ≤ 999_999) × (due ≤ 999_999) → ⊥))
  by_four = (
    λ e. four ((by_first_fault 4).0 e),
    λ p.
        by_test (leb ready 999_999)
        (λ one. fault_given (due_past_last p.0 (leb-true _ _ one) (leb-false _ _ (not_met (λ other. p.1 (leb-true _ _ one, leb-true _ _ other))))))
        (λ late. fault_given (ready_past_last p.0 (leb-false _ _ late))),
  )

  pub by_six : (decided book ready due ≡ wrong 6) ↔ (Sound book × (ready ≤ 999_999) × (due ≤ 999_999) × (book.taken ≡ 512))
  by_six = (λ e. six ((by_first_fault 6).0 e), λ p. fault_given (book_full p.0 p.1 p.2 p.3))

  pub by_five :
      (decided book ready due ≡ wrong 5) ↔ (Sound book × (ready ≤ 999_999) × (due ≤ 999_999) × (book.taken < 512) × (ready < book.clock))
  by_five = (λ e. five ((by_first_fault 5).0 e), λ p. fault_given (below_clock p.0 p.1 p.2 p.3 p.4))

  -- no refusal has the number 0
  never_zero : BookRefuses book ready due 0 → ⊥
  never_zero = elim [ ]

  pub never_by_none : decided book ready due ≡ wrong 0 → ⊥
  never_by_none e = never_zero ((by_first_fault 0).0 e)
