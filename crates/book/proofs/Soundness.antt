-- Hours within a limit, and what it is for a book to be sound or fresh, as facts. Assumes nothing.
use Prim.Native.Nat.{ℕ, zero, suc, ◌+◌, ◌-◌, ◌≤◌}
use mathlib.Core.Path.{◌≡◌, refl}
use mathlib.Core.Bool.{Bool, true}
use mathlib.Core.List.{List, [], ◌∷◌}
use lib.ListN.{get_or, drop, length-replicate}
use lib.Seq.{get_or-drop}
use lib.Dec.{leb}
use native.Mathlib.Omega.{arith}
use borrow.Author.Tests.{leb-true, le-leb}
use Rattle.ground.specs.Limits.{most_chambers, longest_run}
use Rattle.ground.proofs.Tests.{both, first_of, second_of}
use Rattle.ground.proofs.Range.{within_from, within_low, within_high}
use Rattle.ground.proofs.Buffer.{zeros_at}
use Rattle.book.specs.Soundness.{last_free_hour, all_up_to, all_met, soundness, is_sound, fresh_book}
use Rattle.book.specs.Meaning.{Sound, Openable, Fresh}
use Rattle.book.specs.declared.Book.{Book}

-- none is above a limit where none is at its place, and back
each_hour : (limit : ℕ) (hours : List ℕ) → all_up_to limit hours ≡ true → (place : ℕ) → get_or hours place 0 ≤ limit
unfolding all_up_to
each_hour limit [] all place = omega arith
each_hour limit (hour ∷ hours) all zero = leb-true _ _ (first_of (leb hour limit) (all_up_to limit hours) all)
each_hour limit (hour ∷ hours) all (suc place) = each_hour limit hours (second_of (leb hour limit) (all_up_to limit hours) all) place

all_hours : (limit : ℕ) (hours : List ℕ) → ((place : ℕ) → get_or hours place 0 ≤ limit) → all_up_to limit hours ≡ true
unfolding all_up_to
all_hours limit [] each = refl
all_hours limit (hour ∷ hours) each = both (le-leb hour limit (each 0)) (all_hours limit hours (λ place. each (suc place)))

-- those from a place on are 0 where each of them is, and back
each_zero : (count : ℕ) (hours : List ℕ) → all_up_to 0 (drop count hours) ≡ true → (place : ℕ) → count ≤ place → get_or hours place 0 ≡ 0
each_zero count hours all place above =
    let there : count + (place - count) ≡ place = omega arith in
    let least = rw (get_or-drop count hours (place - count) 0, there) at (each_hour 0 (drop count hours) all (place - count)) in
    omega (arith, least)

all_zero : (count : ℕ) (hours : List ℕ) → ((place : ℕ) → count ≤ place → get_or hours place 0 ≡ 0) → all_up_to 0 (drop count hours) ≡ true
all_zero count hours each = all_hours 0 (drop count hours) within_zero
  where
    within_zero : (place : ℕ) → get_or (drop count hours) place 0 ≤ 0
    within_zero place = rw (get_or-drop count hours place 0, each (count + place) (omega arith)) (omega arith)

-- where all of several tests hold, the first does, and all others do
peeled : (test : Bool) (tests : List Bool) → all_met (test ∷ tests) ≡ true → (test ≡ true) × (all_met tests ≡ true)
unfolding all_met
peeled test tests all = (first_of test (all_met tests) all, second_of test (all_met tests) all)

-- the test of a sound book gives its facts
pub sound_facts : (book : Book) → is_sound book ≡ true → Sound book
unfolding is_sound soundness
sound_facts book sound =
    let housed = peeled _ _ sound in
    let timed = peeled _ _ housed.1 in
    let clocked = peeled _ _ timed.1 in
    let houred = peeled _ _ clocked.1 in
    let kept = peeled _ _ houred.1 in
    let taken = peeled _ _ kept.1 in
    let others = peeled _ _ taken.1 in
    record {
      chambers_range = (within_low 1 most_chambers book.chambers housed.0, within_high 1 most_chambers book.chambers housed.0);
      run_range = (within_low 1 longest_run book.run timed.0, within_high 1 longest_run book.run timed.0);
      clock_most = leb-true _ _ clocked.0;
      hours_most = each_hour last_free_hour book.free houred.0;
      kept_most = leb-true _ _ kept.0;
      taken_most = leb-true _ _ taken.0;
      others_free = each_zero book.chambers book.free others.0;
    }

-- the facts of a sound book make its test hold
pub sound_from : (book : Book) → Sound book → is_sound book ≡ true
unfolding is_sound soundness all_met
sound_from book facts =
    both (within_from _ _ _ facts.chambers_range.0 facts.chambers_range.1)
    (both (within_from _ _ _ facts.run_range.0 facts.run_range.1)
    (both (le-leb _ _ facts.clock_most)
    (both (all_hours last_free_hour book.free facts.hours_most)
    (both (le-leb _ _ facts.kept_most) (both (le-leb _ _ facts.taken_most) (both (all_zero book.chambers book.free facts.others_free) refl))))))

-- the book that is opened is fresh
pub fresh_book_lem : (chambers run : ℕ) → Fresh chambers run (fresh_book chambers run)
fresh_book_lem chambers run =
    record {
      chambers_given = refl;
      run_given = refl;
      clock_zero = refl;
      none_taken = refl;
      none_kept = refl;
      eight_hours = length-replicate {A = ℕ} most_chambers 0;
      hours_zero = zeros_at most_chambers;
    }

-- a fresh book with its numbers in range is sound
pub fresh_sound : (chambers run : ℕ) → Openable chambers run → Sound (fresh_book chambers run)
fresh_sound chambers run inside =
    record {
      chambers_range = (inside.0, inside.1);
      run_range = (inside.2, inside.3);
      clock_most = omega arith;
      hours_most = λ place. omega (arith, zeros_at most_chambers place);
      kept_most = omega arith;
      taken_most = omega arith;
      others_free = λ place above. zeros_at most_chambers place;
    }
