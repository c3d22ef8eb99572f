-- Laws of why something is refused: its numbers tell all refusals apart, and so does what a function answers. Assumes nothing.
use Prim.Native.Nat.{ℕ}
use mathlib.Core.Path.{◌≡◌, refl, sym, ap, ◌∙◌}
use mathlib.Core.Bool.{cond}
use lib.Dec.{eqb}
use Rattle.std.specs.Prelude.{Result, Ok, Err}
use Rattle.ground.specs.declared.Refusal.{Refusal}
use Rattle.ground.specs.declared.Refusal.TheVariants.{Misshapen, NotPlain, NotHour, OutOfRange, BelowClock, BookFull, NoRoom, NotSound, TooLong, Unlisted, Again, Early, Late, Overlapping}
use Rattle.ground.specs.Refusal.{wrong, right, refusal_number, as_read}
use Rattle.ground.specs.Outcome.{Injective}
use Rattle.ground.proofs.Checks.{never_right, same_right, same_wrong}

-- the refusal of a number; the last of them for a number that is none's
refusal_by : ℕ → Refusal
refusal_by number =
    cond (eqb number 1) Misshapen
    (cond (eqb number 2) NotPlain
    (cond (eqb number 3) NotHour
    (cond (eqb number 4) OutOfRange
    (cond (eqb number 5) BelowClock
    (cond (eqb number 6) BookFull
    (cond (eqb number 7) NoRoom
    (cond (eqb number 8) NotSound
    (cond (eqb number 9) TooLong
    (cond (eqb number 11) Unlisted
    (cond (eqb number 12) Again (cond (eqb number 13) Early (cond (eqb number 14) Late Overlapping))))))))))))

refusal_back : (refusal : Refusal) → refusal_by (refusal_number refusal) ≡ refusal
unfolding refusal_by
refusal_back Misshapen = refl
refusal_back NotPlain = refl
refusal_back NotHour = refl
refusal_back OutOfRange = refl
refusal_back BelowClock = refl
refusal_back BookFull = refl
refusal_back NoRoom = refl
refusal_back NotSound = refl
refusal_back TooLong = refl
refusal_back Unlisted = refl
refusal_back Again = refl
refusal_back Early = refl
refusal_back Late = refl
refusal_back Overlapping = refl

-- different refusals have different numbers
pub refusals_told : Injective refusal_number
refusals_told one other same = sym (refusal_back one) ∙ ap refusal_by same ∙ refusal_back other

-- and different answers never read the same
pub answers_told : {A : Type 0} → Injective (as_read {A = A})
answers_told {A} (Ok one) (Ok other) same = ap Ok (same_right same)
answers_told {A} (Ok one) (Err other) same = absurd (never_right (sym same))
answers_told {A} (Err one) (Ok other) same = absurd (never_right same)
answers_told {A} (Err one) (Err other) same = ap Err (refusals_told one other (same_wrong same))

-- an answer that reads as a value is that value
pub read_value : {A : Type 0} (answer : Result A Refusal) (value : A) → as_read answer ≡ right value → answer ≡ Ok value
read_value answer value same = answers_told answer (Ok value) same

-- and one that reads as the number of a refusal is that refusal
pub read_refusal : {A : Type 0} (answer : Result A Refusal) (refusal : Refusal) → as_read answer ≡ wrong (refusal_number refusal) → answer ≡ Err refusal
read_refusal answer refusal same = answers_told answer (Err refusal) same
