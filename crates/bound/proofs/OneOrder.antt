-- What the rule's answer to one order says about the chambers counted: after a no, none fits; after a yes, some chamber fits, and those
-- taken past an hour from its start on do not. Assumes nothing.
use Prim.Native.Nat.{ℕ, suc, ◌+◌, ◌-◌, ◌≤◌, ◌<◌, max}
use mathlib.Core.Path.{◌≡◌, refl}
use mathlib.Core.List.{List, [], ◌∷◌}
use lib.ListN.{length, get_or}
use lib.Dec.{leb, ltb}
use native.Mathlib.Omega.{arith}
use borrow.Author.Tests.{ltb-true, ltb-false, leb-true, leb-false}
use Rattle.ground.proofs.Tests.{by_test}
use Rattle.choice.specs.BestFit.{chamber_at, offer, better, best_fit}
use Rattle.std.specs.Prelude.{Option, Some, None}
use Rattle.choice.specs.declared.Offer.{Offer}
use Rattle.bound.specs.Keeping.{free_after}
use Rattle.bound.proofs.Counting.{above, unfit, window, above_most, above_set}

-- what is known of a yes, where the chambers are counted from a number on
pub record CountedYes (ready due run first : ℕ) (free : List ℕ) (chamber start : ℕ) : Type 0 where
  pub least : first ≤ chamber
  pub most : chamber < first + length free
  pub started : start ≡ max (get_or free (chamber - first) 0) ready
  pub some_fits : unfit ready due run free < length free
  pub taken_unfit : (hour : ℕ) → start ≤ hour → above hour free ≤ unfit ready due run free

-- what is known of an answer
abbrev pub Counted : ℕ → ℕ → ℕ → ℕ → List ℕ → Option Offer → Type 0
Counted ready due run first free None = unfit ready due run free ≡ length free
Counted ready due run first free (Some offer) = CountedYes ready due run first free offer.chamber offer.start

module _ (ready due run first free : ℕ) (others : List ℕ) where
  -- the first chamber does not fit: the answer is that of the others
  by_others :
      (choice : Option Offer) → due < max free ready + run → Counted ready due run (suc first) others choice → Counted ready due run first (free ∷ others) choice
  unfolding unfit above
  by_others None late known = omega arith
  by_others (Some offer) late known =
      let less : offer.chamber - first ≡ suc (offer.chamber - suc first) = omega (arith, known.least) in
      record {
        least = omega (arith, known.least);
        most = omega (arith, known.most);
        started = rw less known.started;
        some_fits = omega (arith, known.some_fits);
        taken_unfit = λ hour from. omega (arith, known.taken_unfit hour from);
      }

  -- the first chamber fits, and no other starts later: it is taken
  first_kept :
      max free ready + run ≤ due → unfit ready due run others ≤ length others
      → ((hour : ℕ) → max free ready ≤ hour → above hour others ≤ unfit ready due run others)
      → CountedYes ready due run first (free ∷ others) first (max free ready)
  unfolding unfit above
  first_kept early few none_later =
      let same : first - first ≡ 0 = omega arith in
      record {
        least = omega arith;
        most = omega arith;
        started = rw same refl;
        some_fits = omega arith;
        taken_unfit = λ hour from. omega (arith, none_later hour from);
      }

  -- the first chamber fits, and another that starts later is taken
  other_kept :
      (chamber start : ℕ) → max free ready + run ≤ due → max free ready < start → CountedYes ready due run (suc first) others chamber start
      → CountedYes ready due run first (free ∷ others) chamber start
  unfolding unfit above
  other_kept chamber start early later known =
      let less : chamber - first ≡ suc (chamber - suc first) = omega (arith, known.least) in
      record {
        least = omega (arith, known.least);
        most = omega (arith, known.most);
        started = rw less known.started;
        some_fits = omega (arith, known.some_fits);
        taken_unfit = λ hour from. omega (arith, known.taken_unfit hour from);
      }

  -- the first chamber fits: it or a later start among the others is taken
  by_first :
      (choice : Option Offer) → max free ready + run ≤ due → Counted ready due run (suc first) others choice
      → Counted ready due run first (free ∷ others) (better (chamber_at first (max free ready)) choice)
  by_first None early known = first_kept early (omega arith) (λ hour from. omega (arith, above_most hour others))
  by_first (Some offer) early known =
      by_test (ltb (max free ready) offer.start)
      (λ test. rw test (other_kept offer.chamber offer.start early (ltb-true (max free ready) offer.start test) known))
      (λ test.
      let no_later : offer.start ≤ max free ready = ltb-false (max free ready) offer.start test in
      rw test (first_kept early (omega (arith, known.some_fits)) (λ hour from. known.taken_unfit hour (omega arith))))

  -- one chamber and the others
  by_both :
      (choice : Option Offer) → Counted ready due run (suc first) others choice
      → Counted ready due run first (free ∷ others) (better (offer ready due run first free) choice)
  unfolding offer
  by_both choice known =
      by_test (leb (max free ready + run) due)
      (λ test. rw test (by_first choice (leb-true (max free ready + run) due test) known))
      (λ test. rw test (by_others choice (leb-false (max free ready + run) due test) known))

-- the rule's answer is so known
pub counted : (ready due run first : ℕ) (free : List ℕ) → Counted ready due run first free (best_fit ready due run first free)
unfolding best_fit unfit
counted ready due run first [] = refl
counted ready due run first (free ∷ others) =
    by_both ready due run first free others (best_fit ready due run (suc first) others) (counted ready due run (suc first) others)

-- a yes changes the count of those taken past an hour from ready on as its window says
pub above_kept :
    (ready due run hold hour : ℕ) (free : List ℕ) (chamber start : ℕ) → CountedYes ready due run 1 free chamber start → ready ≤ hour
    → above hour (free_after hold free (chamber_at chamber start)) ≡ above hour free + window start hold hour
above_kept ready due run hold hour free chamber start known early =
    rw known.started (above_set ready hold hour (chamber - 1) free early (omega (arith, known.least, known.most)))
