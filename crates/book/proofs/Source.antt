-- Laws of the loads that a book has kept: its free hours say when each chamber is busy, so that its answers are those of the paper's
-- source. Assumes nothing.
use Prim.Native.Nat.{ℕ, ◌+◌, ◌-◌, max, ◌≤◌, ◌<◌}
use mathlib.Core.Path.{◌≡◌, refl, sym, ap, ◌∙◌}
use mathlib.Core.Logic.{◌⊎◌, inl, inr, ◌↔◌}
use mathlib.Core.List.{List, [], ◌∷◌, ◌++◌, append_assoc, append-nil}
use lib.ListN.{length, get_or}
use lib.Dec.{ltb, eqb}
use native.Mathlib.Omega.{arith}
use borrow.Author.Tests.{ltb-true, ltb-false, eqb-true, eqb-false}
use Rattle.ground.proofs.Tests.{by_test}
use Rattle.book.specs.Meaning.{Fresh, Admitted, BestChamber, NoChamber, AfterYes, RightAnswer}
use Rattle.book.specs.Settling.{Sized}
use Rattle.book.specs.History.{GivenOrder, OneAfterAnother, last_book, KeptLoad, load_kept, loads_kept, During, Runs, NoneFrom, Completes, BusyUntil, Feasible, SourceRejects, LowestSourceChoice}
use Rattle.book.specs.declared.Book.{Book}
use Rattle.book.specs.declared.Answer.{Answer}
use Rattle.book.specs.declared.Answer.TheVariants.{Yes, No, Refused}
use Rattle.choice.specs.Meaning.{hour_for, Fits}

-- The invariant: a book and the loads kept so far, where from the clock on a chamber is busy exactly at the hours before its free hour.
pub record Kept (chambers run : ℕ) (book : Book) (loads : List KeptLoad) : Type 0 where
  pub same_chambers : book.chambers ≡ chambers
  pub same_run : book.run ≡ run
  pub sized : Sized book
  pub busy_until_free : (chamber hour : ℕ) → 1 ≤ chamber → book.clock ≤ hour → Runs run loads chamber hour ↔ (hour < get_or book.free (chamber - 1) 0)

-- a fresh book has kept no load
kept_fresh : (chambers run : ℕ) (book : Book) → Fresh chambers run book → Kept chambers run book []
unfolding Runs
kept_fresh chambers run book fresh =
    record {
      same_chambers = fresh.chambers_given;
      same_run = fresh.run_given;
      sized = fresh.eight_hours;
      busy_until_free = λ chamber hour counted after. (λ runs. absurd runs, λ before. absurd (omega (arith, fresh.hours_zero (chamber - 1))));
    }

-- one more load in a chamber, from the later of its free hour and the ready hour on
module _ (run : ℕ) (loads : List KeptLoad) (chamber start hour : ℕ) where
  its_chamber_busy :
      (ready free : ℕ) → start ≡ max free ready → ready ≤ hour → Runs run loads chamber hour ↔ (hour < free)
      → Runs run (record { chamber = chamber; start = start } ∷ loads) chamber hour ↔ (hour < start + run)
  unfolding Runs
  its_chamber_busy ready free lift after before = (to, from)
    where
      to : During run (record { chamber = chamber; start = start }) chamber hour ⊎ Runs run loads chamber hour → hour < start + run
      to (inl during) = during.unfinished
      to (inr runs) = omega (arith, before.0 runs)

      from : hour < start + run → During run (record { chamber = chamber; start = start }) chamber hour ⊎ Runs run loads chamber hour
      from early =
          by_test (ltb hour free) (λ e. inr (before.1 (ltb-true hour free e)))
          (λ e. let late = ltb-false hour free e in inl (record { its_chamber = refl; begun = omega arith; unfinished = early }))

  other_chamber_busy :
      (other : ℕ) (Busy : Type 0) → (chamber ≡ other → ⊥) → Runs run loads other hour ↔ Busy
      → Runs run (record { chamber = chamber; start = start } ∷ loads) other hour ↔ Busy
  unfolding Runs
  other_chamber_busy other Busy differs before = (to, λ busy. inr (before.1 busy))
    where
      to : During run (record { chamber = chamber; start = start }) other hour ⊎ Runs run loads other hour → Busy
      to (inl during) = absurd (differs during.its_chamber)
      to (inr runs) = before.0 runs

module _ (chambers run : ℕ) (book : Book) (loads : List KeptLoad) (kept : Kept chambers run book loads) (ready due : ℕ) (next : Book) where
  -- a yes leaves every chamber busy until its new free hour
  busy_accepted :
      (chamber start : ℕ) → Admitted book ready due → BestChamber book ready due chamber start → AfterYes book ready chamber start next
      → (other hour : ℕ) → 1 ≤ other → next.clock ≤ hour
      → Runs run (record { chamber = chamber; start = start } ∷ loads) other hour ↔ (hour < get_or next.free (other - 1) 0)
  busy_accepted chamber start admitted best stored other hour counted after =
      let present : ready ≤ hour = omega (arith, stored.clock_ready) in
      let before = kept.busy_until_free other hour counted (omega (arith, admitted.in_turn)) in
      let first = best.fitting.numbered.0 in
      by_test (eqb chamber other)
      (λ e.
      let same : other ≡ chamber = sym (eqb-true chamber other e) in
      let its_own = kept.busy_until_free chamber hour first (omega (arith, admitted.in_turn)) in
      rw (same, stored.its_hour, kept.same_run)
      (its_chamber_busy run loads chamber start hour ready (get_or book.free (chamber - 1) 0) best.started present its_own))
      (λ e.
      let differs = eqb-false chamber other e in
      let elsewhere : other - 1 ≡ chamber - 1 → ⊥ = λ same. differs (omega (arith, first)) in
      rw (stored.other_hours (other - 1) elsewhere)
      (other_chamber_busy run loads chamber start hour other (hour < get_or book.free (other - 1) 0) differs before))

  -- each answer keeps it
  kept_answered : (answer : Answer) → RightAnswer book ready due next answer → Kept chambers run next (load_kept answer ++ loads)
  kept_answered (Yes chamber start) answered =
      let stored = answered.2 in
      record {
        same_chambers = stored.chambers_stay ∙ kept.same_chambers;
        same_run = stored.run_stays ∙ kept.same_run;
        sized = stored.hours_stay ∙ kept.sized;
        busy_until_free = busy_accepted chamber start answered.0 answered.1 stored;
      }
  kept_answered No answered =
      let stored = answered.2 in
      record {
        same_chambers = stored.chambers_stay ∙ kept.same_chambers;
        same_run = stored.run_stays ∙ kept.same_run;
        sized = ap length stored.free_stays ∙ kept.sized;
        busy_until_free = λ chamber hour counted after.
            rw stored.free_stays (kept.busy_until_free chamber hour counted (omega (arith, answered.0.in_turn, stored.clock_ready)));
      }
  kept_answered (Refused number) answered = rw answered.1 kept

-- any number of orders, after loads kept earlier
kept_after :
    (chambers run : ℕ) (book : Book) (earlier : List KeptLoad) → Kept chambers run book earlier → (history : List GivenOrder) → OneAfterAnother book history
    → Kept chambers run (last_book book history) (loads_kept history ++ earlier)
unfolding OneAfterAnother last_book loads_kept
kept_after chambers run book earlier kept [] answered = kept
kept_after chambers run book earlier kept (given ∷ later) answered =
    rw append_assoc
    (kept_after chambers run given.taken.book (load_kept given.taken.answer ++ earlier)
    (kept_answered chambers run book earlier kept given.order.ready given.order.due given.taken.book given.taken.answer answered.0) later
    answered.1)

-- "as an invariant, each machine M_i is committed to execute jobs from t until its completion time"
pub kept_always :
    (chambers run : ℕ) (book : Book) → Fresh chambers run book → (history : List GivenOrder) → OneAfterAnother book history
    → Kept chambers run (last_book book history) (loads_kept history)
kept_always chambers run book fresh history answered =
    rw append-nil at (kept_after chambers run book [] (kept_fresh chambers run book fresh) history answered)

module _ (chambers run : ℕ) (book : Book) (loads : List KeptLoad) (kept : Kept chambers run book loads) (present : ℕ) (in_turn : book.clock ≤ present) where
  -- until the later of its free hour and the present a chamber is busy without a gap
  pub busy_until : (chamber : ℕ) → 1 ≤ chamber → BusyUntil run loads chamber present (hour_for book.free present chamber)
  busy_until chamber counted hour after before = (kept.busy_until_free chamber hour counted (omega arith)).1 (omega arith)

  -- and that is its completion time
  pub committed : (chamber : ℕ) → 1 ≤ chamber → Completes run loads chamber present (hour_for book.free present chamber)
  committed chamber counted =
      record {
        not_past = omega arith;
        none_from = λ hour after runs. let before = (kept.busy_until_free chamber hour counted (omega arith)).0 runs in omega arith;
        first = earliest;
      }
    where
      earliest : (other : ℕ) → present ≤ other → NoneFrom run loads chamber other → hour_for book.free present chamber ≤ other
      earliest other after none =
          by_test (ltb other (hour_for book.free present chamber))
          (λ e. absurd (none other (omega arith) (busy_until chamber counted other after (ltb-true _ _ e))))
          (λ e. ltb-false _ _ e)

  -- The chambers that fit are those that are feasible, where each has a free hour.
  module _ (housed : book.chambers ≤ length book.free) where
    fits_feasible :
        (due chamber : ℕ) → Fits present due book.run book.free book.chambers chamber
        → Feasible chambers run run loads present due chamber (hour_for book.free present chamber)
    fits_feasible due chamber fits =
        record {
          numbered = (fits.numbered.0, omega (arith, fits.numbered.1, kept.same_chambers));
          completes = committed chamber fits.numbered.0;
          in_time = omega (arith, fits.in_time, kept.same_run);
        }

    -- a chamber has one completion time
    feasible_hour : (due chamber time : ℕ) → Feasible chambers run run loads present due chamber time → time ≡ hour_for book.free present chamber
    feasible_hour due chamber time feasible =
        let here = committed chamber feasible.numbered.0 in
        let there = feasible.completes in
        omega (arith, here.first time there.not_past there.none_from, there.first _ here.not_past here.none_from)

    feasible_fits :
        (due chamber time : ℕ) → Feasible chambers run run loads present due chamber time → Fits present due book.run book.free book.chambers chamber
    feasible_fits due chamber time feasible =
        let its_hour = feasible_hour due chamber time feasible in
        let few : chamber ≤ book.chambers = omega (arith, feasible.numbered.1, kept.same_chambers) in
        record { numbered = (feasible.numbered.0, few); listed = omega arith; in_time = omega (arith, feasible.in_time, kept.same_run) }

    -- the paper's choice is the lowest of the source's
    best_source : (due chamber start : ℕ) → BestChamber book present due chamber start ↔ LowestSourceChoice chambers run run loads present due chamber start
    best_source due chamber start = (to, from)
      where
        largest_of :
            ((other : ℕ) → Fits present due book.run book.free book.chambers other → hour_for book.free present other ≤ start) → (other time : ℕ)
            → Feasible chambers run run loads present due other time → time ≤ start
        largest_of largest other time feasible = rw (feasible_hour due other time feasible) (largest other (feasible_fits due other time feasible))

        to : BestChamber book present due chamber start → LowestSourceChoice chambers run run loads present due chamber start
        to best =
            let here : Feasible chambers run run loads present due chamber start = rw best.started (fits_feasible due chamber best.fitting) in
            record {
              choice = record { feasible = here; largest = largest_of best.largest };
              lowest = λ other time source.
                  best.lowest other (feasible_fits due other time source.feasible)
                  (omega (
                    arith,
                    feasible_hour due other time source.feasible,
                    source.largest chamber start here,
                    largest_of best.largest other time source.feasible,
                  ));
            }

        from : LowestSourceChoice chambers run run loads present due chamber start → BestChamber book present due chamber start
        from source =
            record {
              fitting = feasible_fits due chamber start source.choice.feasible;
              started = feasible_hour due chamber start source.choice.feasible;
              largest = λ other fits. source.choice.largest other (hour_for book.free present other) (fits_feasible due other fits);
              lowest = λ other fits equal.
                  source.lowest other start (record { feasible = rw equal at (fits_feasible due other fits); largest = source.choice.largest });
            }

    -- and none fits exactly where the source rejects
    none_source : (due : ℕ) → NoChamber book present due ↔ SourceRejects chambers run run loads present due
    none_source due = (
      λ none chamber time feasible. none chamber (feasible_fits due chamber time feasible),
      λ rejects chamber fits. rejects chamber (hour_for book.free present chamber) (fits_feasible due chamber fits),
    )

-- So with an order that is admitted the rule does as the source.
module _ (chambers run : ℕ) (book : Book) (loads : List KeptLoad) (kept : Kept chambers run book loads) (ready due : ℕ) (admitted : Admitted book ready due) where
  housed : book.chambers ≤ length book.free
  housed = omega (arith, admitted.sound.chambers_range.1, kept.sized)

  pub best_as_source : (chamber start : ℕ) → BestChamber book ready due chamber start ↔ LowestSourceChoice chambers run run loads ready due chamber start
  best_as_source = best_source chambers run book loads kept ready admitted.in_turn housed due

  pub none_as_source : NoChamber book ready due ↔ SourceRejects chambers run run loads ready due
  none_as_source = none_source chambers run book loads kept ready admitted.in_turn housed due
