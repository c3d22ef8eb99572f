-- What a load of a plan gains by the rule's answers, from the first order to its own: from all of them at least the sum of all steps.
-- Assumes nothing.
use Prim.Native.Nat.{ℕ, zero, suc, ◌+◌, ◌-◌, ◌*◌, ◌≤◌}
use mathlib.Core.Path.{◌≡◌, refl}
use mathlib.Core.List.{List, [], ◌∷◌}
use lib.ListN.{length, length-set}
use native.Mathlib.Omega.{arith}
use Rattle.book.specs.History.{OrderHours}
use Rattle.std.specs.Prelude.{Option, Some, None}
use Rattle.choice.specs.declared.Offer.{Offer}
use Rattle.bound.specs.Plans.{InTurn, KeepsTo}
use Rattle.bound.specs.Keeping.{choice_of, free_after}
use Rattle.bound.proofs.Steps.{step, pre}
use Rattle.bound.proofs.Counting.{above, window, above_most, unfit_above, window_most}
use Rattle.bound.proofs.OneOrder.{Counted, counted, above_kept}

-- a part that only the load of the order that is answered now has: its order stands at place 0
abbrev pub if_own : ℕ → ℕ → ℕ
if_own zero rest = rest
if_own (suc place) rest = 0

-- what a load, of the order at a place and to start at an hour, gains by one answer: by a yes whose window has its hour one step, and by
-- the yes to its own order the rest of the sum
abbrev pub gain : ℕ → ℕ → List ℕ → Option Offer → ℕ → ℕ → ℕ
gain m hold free None place hour = 0
gain m hold free (Some offer) place hour =
    window offer.start hold hour * step m (above hour free) + if_own place (pre m m - pre m (above hour free))

-- what it gains by all answers up to that to its own order
unfoldable pub total : ℕ → ℕ → ℕ → List ℕ → List OrderHours → ℕ → ℕ → ℕ
total m run hold free [] place hour = 0
total m run hold free (order ∷ orders) zero hour = gain m hold free (choice_of run free order) zero hour
total m run hold free (order ∷ orders) (suc place) hour =
    gain m hold free (choice_of run free order) (suc place) hour + total m run hold (free_after hold free (choice_of run free order)) orders place hour

-- an answer leaves the number of chambers
pub same_length : (hold : ℕ) (free : List ℕ) (choice : Option Offer) → length (free_after hold free choice) ≡ length free
same_length hold free None = refl
same_length hold free (Some offer) = length-set free (offer.chamber - 1) (offer.start + hold)

-- no load of a list in turn starts before the clock
clock_before :
    (clock run : ℕ) (orders : List OrderHours) (place hour : ℕ) → InTurn clock orders → KeepsTo run orders place hour → clock ≤ hour
unfolding InTurn KeepsTo
clock_before clock run [] place hour turn keeps = absurd keeps
clock_before clock run (order ∷ orders) zero hour turn keeps = omega arith
clock_before clock run (order ∷ orders) (suc place) hour turn keeps =
    let next = clock_before order.ready run orders place hour turn.1 keeps in omega (arith, turn.0)

-- the sum of steps moves as a window says
pre_window : (m count one : ℕ) → one ≤ 1 → pre m (count + one) ≡ pre m count + one * step m count
unfolding pre
pre_window m count zero most = let same : count + 0 ≡ count = omega arith in rw same (omega arith)
pre_window m count (suc zero) most = let next : count + 1 ≡ suc count = omega arith in rw next (omega arith)
pre_window m count (suc (suc more)) most = omega arith

module _ (m run hold ready due hour : ℕ) (free : List ℕ) where
  -- before its own order is answered a load gains what the sum of steps moves
  early_gain :
      (choice : Option Offer) (place : ℕ) → Counted ready due run 1 free choice → ready ≤ hour
      → pre m (above hour (free_after hold free choice)) ≡ pre m (above hour free) + gain m hold free choice (suc place) hour
  early_gain None place known early = omega arith
  early_gain (Some offer) place known early =
      rw (
        above_kept ready due run hold hour free offer.chamber offer.start known early,
        pre_window m (above hour free) (window offer.start hold hour) (window_most offer.start hold hour),
      )
      (omega arith)

  -- with the answer to its own order the sum is whole
  own_gain :
      (choice : Option Offer) → length free ≡ m → Counted ready due run 1 free choice → ready ≤ hour → hour + run ≤ due
      → pre m m ≤ pre m (above hour free) + gain m hold free choice zero hour
  own_gain None sized known early late =
      let all : above hour free ≡ m = omega (arith, known, unfit_above ready due run hour free early late, above_most hour free) in
      rw all (omega arith)
  own_gain (Some offer) sized known early late = omega arith

-- from below: a load gains all that the sum of steps still lacks
pub lower :
    (m run hold clock : ℕ) (free : List ℕ) (orders : List OrderHours) (place hour : ℕ) → length free ≡ m → InTurn clock orders
    → KeepsTo run orders place hour → pre m m ≤ pre m (above hour free) + total m run hold free orders place hour
unfolding InTurn KeepsTo total
lower m run hold clock free [] place hour sized turn keeps = absurd keeps
lower m run hold clock free (order ∷ orders) zero hour sized turn keeps =
    own_gain m run hold order.ready order.due hour free (choice_of run free order) sized (counted order.ready order.due run 1 free) keeps.0
    keeps.1
lower m run hold clock free (order ∷ orders) (suc place) hour sized turn keeps =
    let choice : Option Offer = choice_of run free order in
    let now =
    early_gain m run hold order.ready order.due hour free choice place (counted order.ready order.due run 1 free)
    (clock_before order.ready run orders place hour turn.1 keeps)
    in
    let next =
    lower m run hold order.ready (free_after hold free choice) orders place hour (omega (arith, same_length hold free choice)) turn.1 keeps
    in
    omega arith
