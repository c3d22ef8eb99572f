-- Laws of the choice among chambers: one after another from the left. Assumes nothing.
use Prim.Native.Nat.{ℕ, zero, suc, ◌+◌, ◌≤◌, ◌<◌}
use mathlib.Core.Path.{◌≡◌, refl, sym, ap}
use mathlib.Core.List.{List, [], ◌∷◌}
use lib.ListN.{length, get_or, take, drop, length-take, drop_of_length-le}
use lib.Seq.{drop-cons, get_or-take}
use lib.Dec.{ltb}
use native.Mathlib.Numerals.{add-one}
use native.Mathlib.Omega.{arith}
use borrow.Author.Tests.{ltb-true, ltb-false, lt-ltb, le-ltb}
use Rattle.std.specs.Prelude.{Option, Some, None}
use Rattle.std.specs.List.{fold, zip, range_with_len}
use Rattle.ground.proofs.Tests.{by_test}
use Rattle.choice.specs.BestFit.{offer, fuller, better, best_fit}
use Rattle.choice.specs.declared.Offer.{Offer}

pub better_nothing : (choice : Option Offer) → better choice None ≡ choice
better_nothing None = refl
better_nothing (Some one) = refl

-- it does not matter which two are compared first
fuller_assoc : (one two three : Offer) → fuller (fuller one two) three ≡ fuller one (fuller two three)
fuller_assoc one two three =
    let s = one.start in
    let t = two.start in
    let u = three.start in
    by_test (ltb s t)
    (λ st.
    by_test (ltb t u)
    (λ tu. let l : s < u = omega (arith, ltb-true s t st, ltb-true t u tu) in simp (st, tu, lt-ltb s u l))
    (λ tu. simp (st, tu)))
    (λ st.
    by_test (ltb t u)
    (λ tu. simp (st, tu))
    (λ tu. let l : u ≤ s = omega (arith, ltb-false s t st, ltb-false t u tu) in simp (st, tu, le-ltb s u l)))

better_assoc : (one two three : Option Offer) → better (better one two) three ≡ better one (better two three)
better_assoc None two three = refl
better_assoc (Some one) None three = refl
better_assoc (Some one) (Some two) None = refl
better_assoc (Some one) (Some two) (Some three) = ap Some (fuller_assoc one two three)

module _ (ready due run : ℕ) where
  -- what a chamber offers, by how many stand before it and its free hour
  abbrev pub its_offer : ℕ × ℕ → Option Offer
  its_offer placed = offer ready due run (placed.0 + 1) placed.1

  -- so the better of what was chosen before and of each offer in turn is the choice among them
  pub best_so_far :
      (before count : ℕ) (hours : List ℕ) (choice : Option Offer)
      → fold (λ best placed. better best (its_offer placed)) choice (zip (range_with_len before count) hours)
      ≡ better choice (best_fit ready due run (before + 1) (take count hours))
  unfolding best_fit
  best_so_far before zero hours choice = sym (better_nothing choice)
  best_so_far before (suc count) [] choice = sym (better_nothing choice)
  best_so_far before (suc count) (free ∷ others) choice =
      rw (sym (better_assoc choice (offer ready due run (before + 1) free) (best_fit ready due run (suc (before + 1)) (take count others))), sym (add-one (before + 1)))
      (best_so_far (before + 1) count others (better choice (offer ready due run (before + 1) free)))

module _ (ready due run chamber : ℕ) (choice : Option Offer) (hours : List ℕ) (count at : ℕ) where
  -- one chamber further
  pub choice_step :
      at < count → at < length hours
      → better choice (best_fit ready due run chamber (drop at (take count hours)))
      ≡ better (better choice (offer ready due run chamber (get_or hours at 0))) (best_fit ready due run (chamber + 1) (drop (at + 1) (take count hours)))
  unfolding best_fit
  choice_step counted inside =
      let within : at < length (take count hours) = simp length-take (omega arith) in
      rw (drop-cons (take count hours) at 0 within, get_or-take count hours at 0 counted, add-one chamber, add-one at)
      (sym (better_assoc choice (offer ready due run chamber (get_or hours at 0)) (best_fit ready due run (suc chamber) (drop (suc at) (take count hours)))))

  -- none left
  pub choice_end : length (take count hours) ≤ at → better choice (best_fit ready due run chamber (drop at (take count hours))) ≡ choice
  unfolding best_fit
  choice_end past = rw (drop_of_length-le (take count hours) past) (better_nothing choice)
