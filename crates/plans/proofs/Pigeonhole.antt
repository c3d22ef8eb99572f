-- A plan with no order twice has no more loads than its list has orders. Assumes nothing.
use Prim.Native.Nat.{ℕ, zero, suc, ◌+◌, ◌≤◌, ◌<◌}
use mathlib.Core.Path.{◌≡◌, refl}
use mathlib.Core.Bool.{Bool, true, false, ◌||◌}
use mathlib.Core.List.{List, [], ◌∷◌, ◌++◌}
use lib.ListN.{length}
use lib.Dec.{ltb, eqb}
use native.Mathlib.Omega.{arith}
use borrow.Author.Tests.{ltb-true, ltb-false, lt-ltb, le-ltb, eqb-true, eqb-false, eq-eqb, ne_eqb}
use Rattle.ground.specs.Range.{within}
use Rattle.ground.proofs.Range.{within_low, within_high}
use Rattle.ground.proofs.Tests.{by_test, never_both}
use Rattle.plans.specs.Judging.{any_of}

-- a number stands among others
abbrev pub among : ℕ → List ℕ → Bool
among number numbers = any_of (λ other. eqb number other) numbers

-- one where a test holds, else none
abbrev pub counted : Bool → ℕ
counted true = 1
counted false = 0

-- how often a number stands among others
unfoldable pub times_in : ℕ → List ℕ → ℕ
times_in number [] = 0
times_in number (other ∷ others) = counted (eqb number other) + times_in number others

-- how many numbers are below a bound
unfoldable pub below : ℕ → List ℕ → ℕ
below bound [] = 0
below bound (number ∷ numbers) = counted (ltb number bound) + below bound numbers

-- order lines of a list with so many orders, from 2 on, none of them twice
pub record OrderLines (count : ℕ) (orders : List ℕ) : Type 0 where
  pub each : (order : ℕ) → among order orders ≡ true → (2 ≤ order) × (order ≤ suc count)
  pub once : (order : ℕ) → times_in order orders ≤ 1

-- the first of several numbers stands among them, and so does each of the rest
stands_first : (number : ℕ) (numbers : List ℕ) → among number (number ∷ numbers) ≡ true
unfolding any_of
stands_first number numbers = rw (eq-eqb number number refl)

-- one of two tests holds where the other does
either_true : (one other : Bool) → other ≡ true → (one || other) ≡ true
either_true true other holds = refl
either_true false other holds = holds

-- what stands among the rest stands among all
stands_rest : (number other : ℕ) (numbers : List ℕ) → among number numbers ≡ true → among number (other ∷ numbers) ≡ true
unfolding any_of
stands_rest number other numbers stands = either_true (eqb number other) (among number numbers) stands

-- what is no less than a number, and another, is above it
not_same : (low high : ℕ) → low ≤ high → (low ≡ high → ⊥) → low < high
not_same low high least other = by_test (ltb low high) (ltb-true low high) (λ above. absurd (other (omega (arith, ltb-false low high above))))

-- one number more is below the next bound where it is the bound, or was below
counted_next : (number bound : ℕ) → counted (ltb number (suc bound)) ≡ counted (ltb number bound) + counted (eqb bound number)
counted_next number bound =
    by_test (ltb number bound)
    (λ less.
    let l : number < bound = ltb-true number bound less in
    rw (less, lt-ltb number (suc bound) (omega arith), ne_eqb bound number (λ same. omega arith)))
    (λ more.
    let m : bound ≤ number = ltb-false number bound more in
    by_test (eqb bound number)
    (λ same.
    let e : bound ≡ number = eqb-true bound number same in
    rw (more, same, lt-ltb number (suc bound) (omega arith)))
    (λ other.
    let above : bound < number = not_same bound number m (eqb-false bound number other) in
    rw (more, other, le-ltb number (suc bound) above)))

-- so are all of them
below_next : (bound : ℕ) (numbers : List ℕ) → below (suc bound) numbers ≡ below bound numbers + times_in bound numbers
unfolding below times_in
below_next bound [] = refl
below_next bound (number ∷ numbers) = omega (arith, counted_next number bound, below_next bound numbers)

-- where all are below the bound, they are all of them
below_all : (bound : ℕ) (numbers : List ℕ) → ((number : ℕ) → among number numbers ≡ true → number < bound) → below bound numbers ≡ length numbers
unfolding below
below_all bound [] all = refl
below_all bound (number ∷ numbers) all =
    let rest : below bound numbers ≡ length numbers =
    below_all bound numbers (λ other stands. all other (stands_rest other number numbers stands)) in
    rw (lt-ltb number bound (all number (stands_first number numbers))) (omega (arith, rest))

-- where none is, there are none
below_none : (bound : ℕ) (numbers : List ℕ) → ((number : ℕ) → among number numbers ≡ true → bound ≤ number) → below bound numbers ≡ 0
unfolding below
below_none bound [] all = refl
below_none bound (number ∷ numbers) all =
    let rest : below bound numbers ≡ 0 =
    below_none bound numbers (λ other stands. all other (stands_rest other number numbers stands)) in
    rw (le-ltb number bound (all number (stands_first number numbers))) (omega (arith, rest))

-- of the order lines from 2 on, so many are below that number and 2
below_most : (count some : ℕ) (orders : List ℕ) → OrderLines count orders → below (some + 2) orders ≤ some
below_most count zero orders lines = omega (arith, below_none 2 orders (λ order stands. (lines.each order stands).0))
below_most count (suc some) orders lines =
    let next : suc some + 2 ≡ suc (some + 2) = omega arith in
    rw next (omega (arith, below_next (some + 2) orders, below_most count some orders lines, lines.once (some + 2)))

-- so there are no more of them than orders
pub few_loads : (count : ℕ) (orders : List ℕ) → OrderLines count orders → length orders ≤ count
few_loads count orders lines =
    let all : below (count + 2) orders ≡ length orders =
    below_all (count + 2) orders (λ order stands. omega (arith, (lines.each order stands).1)) in
    omega (arith, all, below_most count count orders lines)

-- a plan with no load names none twice
pub no_order_lines : (count : ℕ) → OrderLines count []
unfolding any_of times_in
no_order_lines count = record { each = λ order stands. absurd (never_both stands refl); once = λ order. omega arith }

-- a number that stands among others and one more is one of them or that one
either : {C : Type 0} (one other : Bool) → (one || other) ≡ true → (one ≡ true → C) → (other ≡ true → C) → C
either true other holds first second = first refl
either false other holds first second = second holds

-- a number among others and one more is one of them or that one
stands_more :
    {C : Type 0} (number other : ℕ) (numbers : List ℕ) → among number (numbers ++ other ∷ []) ≡ true → (among number numbers ≡ true → C)
    → (number ≡ other → C) → C
unfolding any_of
stands_more number other [] stands earlier last =
    either (eqb number other) false stands (λ same. last (eqb-true number other same)) (λ never. absurd (never_both never refl))
stands_more number other (first ∷ numbers) stands earlier last =
    either (eqb number first) (among number (numbers ++ other ∷ [])) stands (λ same. earlier (rw same))
    (λ later. stands_more number other numbers later (λ found. earlier (stands_rest number first numbers found)) last)

-- how often it stands there
times_more : (number other : ℕ) (numbers : List ℕ) → times_in number (numbers ++ other ∷ []) ≡ times_in number numbers + counted (eqb number other)
unfolding times_in
times_more number other [] = omega arith
times_more number other (first ∷ numbers) = omega (arith, times_more number other numbers)

-- a number that does not stand among others stands there no time
neither : (one other : Bool) → (one || other) ≡ false → (one ≡ false) × (other ≡ false)
neither true other fails = absurd (never_both refl fails)
neither false other fails = (refl, fails)

-- a number that does not stand among others stands there no time
never_times : (number : ℕ) (numbers : List ℕ) → among number numbers ≡ false → times_in number numbers ≡ 0
unfolding any_of times_in
never_times number [] none = refl
never_times number (first ∷ numbers) none =
    let both = neither (eqb number first) (among number numbers) none in
    rw both.0 (omega (arith, never_times number numbers both.1))

-- a load more, of an order line of the list that stands on no earlier one
pub order_lines_more :
    (count order : ℕ) (orders : List ℕ) → within 2 (suc count) order ≡ true → among order orders ≡ false → OrderLines count orders
    → OrderLines count (orders ++ order ∷ [])
order_lines_more count order orders inside new lines =
    record {
      each =
          λ other stands.
          stands_more other order orders stands (lines.each other)
          (λ same. (
            omega (arith, same, within_low 2 (suc count) order inside),
            omega (arith, same, within_high 2 (suc count) order inside),
          ));
      once =
          λ other.
          by_test (eqb other order)
          (λ same.
          let e : other ≡ order = eqb-true other order same in
          let none : times_in other orders ≡ 0 = rw e (never_times order orders new) in
          rw (times_more other order orders, same) (omega (arith, none)))
          (λ differs. rw (times_more other order orders, differs) (omega (arith, lines.once other)));
    }
