-- Chambers counted: those that are taken past an hour, those that do not fit an order, and how a load that is put into one changes the
-- first count.
-- Each test is a number, 0 or 1, so that arithmetic alone reads it. Assumes nothing.
use Prim.Native.Nat.{ℕ, zero, suc, ◌+◌, ◌-◌, ◌≤◌, ◌<◌, min, max}
use mathlib.Core.Path.{◌≡◌, refl}
use mathlib.Core.List.{List, [], ◌∷◌}
use lib.ListN.{length, get_or, set, replicate}
use lib.Dec.{ltb}
use native.Mathlib.Omega.{arith}
use borrow.Author.Tests.{ltb-true, ltb-false}
use Rattle.ground.proofs.Tests.{by_test}

-- 1 where a chamber is taken past an hour: the hour is before its free hour
abbrev pub is_above : ℕ → ℕ → ℕ
is_above hour free = min 1 (free - hour)

-- 1 where a chamber does not fit an order: its lifted hour plus the run is after due
abbrev pub is_unfit : ℕ → ℕ → ℕ → ℕ → ℕ
is_unfit ready due run free = min 1 ((max free ready + run) - due)

-- 1 where an hour lies in the window of a load: before it leaves its chamber, and not before its start
unfoldable pub window : ℕ → ℕ → ℕ → ℕ
window start hold hour = is_above hour (start + hold) - is_above hour start

-- how many chambers are taken past an hour
unfoldable pub above : ℕ → List ℕ → ℕ
above hour [] = 0
above hour (free ∷ others) = is_above hour free + above hour others

-- how many chambers do not fit an order
unfoldable pub unfit : ℕ → ℕ → ℕ → List ℕ → ℕ
unfit ready due run [] = 0
unfit ready due run (free ∷ others) = is_unfit ready due run free + unfit ready due run others

-- no more than there are
pub above_most : (hour : ℕ) (free : List ℕ) → above hour free ≤ length free
unfolding above
above_most hour [] = omega arith
above_most hour (free ∷ others) = omega (arith, above_most hour others)

-- chambers that are free from hour 0 are never taken
pub none_above : (hour m : ℕ) → above hour (replicate m 0) ≡ 0
unfolding above
none_above hour zero = omega arith
none_above hour (suc m) = omega (arith, none_above hour m)

-- if a load in time could start at an hour, each chamber that does not fit is taken past that hour
pub unfit_above :
    (ready due run hour : ℕ) (free : List ℕ) → ready ≤ hour → hour + run ≤ due → unfit ready due run free ≤ above hour free
unfolding above unfit
unfit_above ready due run hour [] early late = omega arith
unfit_above ready due run hour (free ∷ others) early late = omega (arith, unfit_above ready due run hour others early late)

-- an hour before the free hour
is_above_lem : (hour free : ℕ) → hour < free → is_above hour free ≡ 1
is_above_lem hour free taken = omega arith

-- an hour from the free hour on
not_above : (hour free : ℕ) → free ≤ hour → is_above hour free ≡ 0
not_above hour free past = omega arith

-- an hour before the window
before_window : (start hold hour : ℕ) → hour < start → window start hold hour ≡ 0
unfolding window
before_window start hold hour before = omega arith

-- an hour from the start on lies in the window where it is before the end
from_start : (start hold hour : ℕ) → start ≤ hour → is_above hour (start + hold) ≡ window start hold hour
unfolding window
from_start start hold hour from = rw (not_above hour start from) (omega arith)

-- a window counts an hour once
pub window_most : (start hold hour : ℕ) → window start hold hour ≤ 1
unfolding window
window_most start hold hour = omega arith

-- an hour that it counts is at its start or later
pub window_from : (start hold hour : ℕ) → 1 ≤ window start hold hour → start ≤ hour
unfolding window
window_from start hold hour inside = omega arith

-- and before its end
pub window_until : (start hold hour : ℕ) → 1 ≤ window start hold hour → hour < start + hold
unfolding window
window_until start hold hour inside = omega arith

-- one chamber's part of the next law: its start is not before its free hour, and where it is free at an hour it starts by then
one_set :
    (start hold hour free : ℕ) → free ≤ start → (free ≤ hour → start ≤ hour) → is_above hour (start + hold) ≡ is_above hour free + window start hold hour
one_set start hold hour free lifted begun =
    by_test (ltb hour free)
    (λ test.
    let taken : hour < free = ltb-true hour free test in
    rw (is_above_lem hour (start + hold) (omega arith), is_above_lem hour free taken, before_window start hold hour (omega arith)) refl)
    (λ test.
    let past : free ≤ hour = ltb-false hour free test in
    rw (from_start start hold hour (begun past), not_above hour free past) (omega arith))

-- a load put into a chamber, to start at its lifted hour, is one more taken past the hours of its window, and past no others from ready on
pub above_set :
    (ready hold hour place : ℕ) (free : List ℕ) → ready ≤ hour → place < length free
    → above hour (set free place (max (get_or free place 0) ready + hold)) ≡ above hour free + window (max (get_or free place 0) ready) hold hour
unfolding above
above_set ready hold hour place [] early inside = omega arith
above_set ready hold hour zero (free ∷ others) early inside =
    let put = one_set (max free ready) hold hour free (omega arith) (λ earlier. omega arith) in rw put (omega arith)
above_set ready hold hour (suc place) (free ∷ others) early inside =
    let later : place < length others = omega arith in rw (above_set ready hold hour place others early later) (omega arith)
