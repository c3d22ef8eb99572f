-- What an order is answered and what it does to a book, as the paper says it. Assumes nothing.
use Prim.Native.Nat.{ℕ, ◌+◌, ◌-◌, ◌≤◌, ◌<◌}
use mathlib.Core.Path.{◌≡◌, refl, sym, ◌∙◌}
use mathlib.Core.Logic.{◌↔◌}
use lib.ListN.{length, get_or, length-set}
use lib.Seq.{get_or-set_same, get_or-set_other, ext_get_or}
use lib.Dec.{eqb}
use native.Mathlib.Omega.{arith}
use borrow.Author.Tests.{eqb-true, eqb-false}
use Rattle.ground.specs.Refusal.{Read, wrong, right}
use Rattle.ground.proofs.Tests.{by_test}
use Rattle.book.specs.Taking.{decided, next_book, answer_of}
use Rattle.book.specs.Meaning.{Sound, Admitted, BestChamber, NoChamber, AfterYes, AfterNo, RightAnswer}
use Rattle.book.specs.Settling.{Sized}
use Rattle.book.specs.declared.Book.{Book}
use Rattle.book.specs.declared.Answer.{Answer}
use Rattle.book.specs.declared.Answer.TheVariants.{Yes, No, Refused}
use Rattle.choice.specs.BestFit.{chamber_at}
use Rattle.choice.specs.Meaning.{RightChoice}
use Rattle.std.specs.Prelude.{Option, Some, None}
use Rattle.choice.specs.declared.Offer.{Offer}
use Rattle.choice.proofs.Fitting.{right_exactly}
use Rattle.book.proofs.Refusals.{by_first_fault, by_choice}

module _ (book : Book) (ready : ℕ) where
  -- what a yes does to the book, of a chamber that has a free hour
  pub yes_stored :
      (chamber start : ℕ) → 1 ≤ chamber → chamber ≤ length book.free
      → AfterYes book ready chamber start (next_book book ready (right (chamber_at chamber start)))
  yes_stored chamber start numbered listed =
      let hours = book.free in
      record {
        clock_ready = refl;
        one_taken = refl;
        one_kept = refl;
        chambers_stay = refl;
        run_stays = refl;
        hours_stay = length-set hours (chamber - 1) (start + book.run);
        its_hour = get_or-set_same hours (chamber - 1) (start + book.run) 0 (omega arith);
        other_hours = λ place other. get_or-set_other hours (chamber - 1) place (start + book.run) 0 other;
      }

  -- and what a no does
  pub no_counted : AfterNo book ready (next_book book ready (right None))
  no_counted =
      record { clock_ready = refl; one_taken = refl; kept_stays = refl; chambers_stay = refl; run_stays = refl; free_stays = refl }

module _ (book : Book) (ready due : ℕ) where
  -- the next book has as many free hours
  pub next_sized : (decision : Read (Option Offer)) → Sized book → Sized (next_book book ready decision)
  next_sized (wrong number) sized = sized
  next_sized (right None) sized = sized
  next_sized (right (Some offer)) sized = length-set book.free (offer.chamber - 1) (offer.start + book.run) ∙ sized

  -- a choice is made exactly when nothing is wrong with the order and it is the right one
  pub choice_exactly :
      (choice : Option Offer)
      → (decided book ready due ≡ right choice) ↔ (Admitted book ready due × RightChoice ready due book.run book.free book.chambers choice)
  choice_exactly choice =
      let means = right_exactly ready due book.run book.free book.chambers choice in (
        λ e. let p = (by_choice book ready due choice).0 e in (p.0, means.0 p.1),
        λ p. (by_choice book ready due choice).1 (p.0, means.1 p.1),
      )

  -- an order gets a chamber and a start exactly when nothing is wrong with it and they fit best
  pub yes_exactly :
      (chamber start : ℕ) → (decided book ready due ≡ right (chamber_at chamber start)) ↔ (Admitted book ready due × BestChamber book ready due chamber start)
  yes_exactly chamber start = choice_exactly (chamber_at chamber start)

  -- and a no exactly when nothing is wrong with it and no chamber fits
  pub no_exactly : (decided book ready due ≡ right None) ↔ (Admitted book ready due × NoChamber book ready due)
  no_exactly = choice_exactly None

  -- whatever is decided, it is answered as the paper says
  pub right_answer : (decision : Read (Option Offer)) → decided book ready due ≡ decision → RightAnswer book ready due (next_book book ready decision) (answer_of decision)
  right_answer (wrong number) e = ((by_first_fault book ready due number).0 e, refl)
  right_answer (right None) e = let known = no_exactly.0 e in (known.0, known.1, no_counted book ready)
  right_answer (right (Some offer)) e =
      let known = (yes_exactly offer.chamber offer.start).0 e in
      let fitting = known.1.fitting in
      (known.0, known.1, yes_stored book ready offer.chamber offer.start fitting.numbered.0 fitting.listed)

  -- a start is never before ready, nor later than due less run
  pub start_in_time : (chamber start : ℕ) → decided book ready due ≡ right (chamber_at chamber start) → (ready ≤ start) × (start + book.run ≤ due)
  start_in_time chamber start e =
      let best = ((yes_exactly chamber start).0 e).1 in
      (omega (arith, best.started), omega (arith, best.started, best.fitting.in_time))

  -- an order due before ready plus run is a no, and counts as taken
  pub short_order_is_a_no : Admitted book ready due → due < ready + book.run → decided book ready due ≡ right None
  short_order_is_a_no admitted short = no_exactly.1 (admitted, λ chamber fitting. omega (arith, fitting.in_time))

-- an hour by its place, where one is stored and the others stay
by_place :
    (P : ℕ → Type 0) (before after : ℕ → ℕ) (at hour : ℕ) → after at ≡ hour → ((place : ℕ) → (place ≡ at → ⊥) → after place ≡ before place) → P hour
    → (place : ℕ) → P (before place) → P (after place)
by_place P before after at hour stored stay new place old =
    by_test (eqb place at) (λ same. rw (eqb-true place at same, stored) new) (λ other. rw (stay place (eqb-false place at other)) old)

-- there is one next book
same_book :
    {one other : Book} → one.chambers ≡ other.chambers → one.run ≡ other.run → one.clock ≡ other.clock → one.taken ≡ other.taken
    → one.kept ≡ other.kept → one.free ≡ other.free → one ≡ other
same_book c r k t e f = λ i. record { chambers = c i; run = r i; clock = k i; taken = t i; kept = e i; free = f i }

pub one_after_no : {book one other : Book} {ready : ℕ} → AfterNo book ready one → AfterNo book ready other → one ≡ other
one_after_no p q =
    same_book (p.chambers_stay ∙ sym q.chambers_stay) (p.run_stays ∙ sym q.run_stays) (p.clock_ready ∙ sym q.clock_ready)
    (p.one_taken ∙ sym q.one_taken) (p.kept_stays ∙ sym q.kept_stays) (p.free_stays ∙ sym q.free_stays)

pub one_after_yes :
    {book one other : Book} {ready chamber start : ℕ} → AfterYes book ready chamber start one → AfterYes book ready chamber start other → one ≡ other
one_after_yes {book} {one} {other} {ready} {chamber} {start} p q =
    same_book (p.chambers_stay ∙ sym q.chambers_stay) (p.run_stays ∙ sym q.run_stays) (p.clock_ready ∙ sym q.clock_ready)
    (p.one_taken ∙ sym q.one_taken) (p.one_kept ∙ sym q.one_kept)
    (ext_get_or 0 one.free other.free (p.hours_stay ∙ sym q.hours_stay) same_hour)
  where
    same_hour : (place : ℕ) → place < length one.free → get_or one.free place 0 ≡ get_or other.free place 0
    same_hour place inside =
        by_test (eqb place (chamber - 1)) (λ same. rw (eqb-true place (chamber - 1) same) (p.its_hour ∙ sym q.its_hour))
        (λ differs.
        let elsewhere = eqb-false place (chamber - 1) differs in
        p.other_hours place elsewhere ∙ sym (q.other_hours place elsewhere))

-- a sound book stays sound, whatever the order
pub answer_sound :
    (book : Book) (ready due : ℕ) (next : Book) (answer : Answer) → RightAnswer book ready due next answer → Sound book → Sound next
answer_sound book ready due next (Yes chamber start) answered sound =
    let admitted = answered.0 in
    let best = answered.1 in
    let after = answered.2 in
    let few : chamber ≤ book.chambers = best.fitting.numbered.1 in
    let in_time : start + book.run ≤ 999_999 = omega (arith, best.started, best.fitting.in_time, admitted.due_most) in
    record {
      chambers_range = rw after.chambers_stay sound.chambers_range;
      run_range = rw after.run_stays sound.run_range;
      clock_most = omega (arith, after.clock_ready, admitted.ready_most);
      hours_most = λ place.
          by_place (λ hour. hour ≤ 999_999) (λ at. get_or book.free at 0) (λ at. get_or next.free at 0) (chamber - 1) (start + book.run) after.its_hour
          after.other_hours in_time place (sound.hours_most place);
      kept_most = omega (arith, after.one_kept, after.one_taken, sound.kept_most);
      taken_most = omega (arith, after.one_taken, admitted.room);
      others_free = λ place above.
          let elsewhere : place ≡ chamber - 1 → ⊥ = λ same. omega (arith, after.chambers_stay, best.fitting.numbered.0) in
          after.other_hours place elsewhere ∙ sound.others_free place (omega (arith, after.chambers_stay));
    }
answer_sound book ready due next No answered sound =
    let admitted = answered.0 in
    let after = answered.2 in
    record {
      chambers_range = rw after.chambers_stay sound.chambers_range;
      run_range = rw after.run_stays sound.run_range;
      clock_most = omega (arith, after.clock_ready, admitted.ready_most);
      hours_most = rw after.free_stays sound.hours_most;
      kept_most = omega (arith, after.kept_stays, after.one_taken, sound.kept_most);
      taken_most = omega (arith, after.one_taken, admitted.room);
      others_free = rw (after.free_stays, after.chambers_stay) sound.others_free;
    }
answer_sound book ready due next (Refused number) answered sound = rw answered.1 sound
