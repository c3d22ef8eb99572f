-- A value or a refusal: what a reading, a check or a writing comes to. Assumes nothing.
use Rattle.std.specs.Prelude.{ℕ, Bool, cond, Result, Ok, Err}
use Rattle.ground.specs.declared.Refusal.{Refusal}
use Rattle.ground.specs.declared.Refusal.TheVariants.{Misshapen, NotPlain, NotHour, OutOfRange, BelowClock, BookFull, NoRoom, NotSound, TooLong, Unlisted, Again, Early, Late, Overlapping}

-- a value, or what was wrong instead
pub data Or (E A : Type 0) : Type 0 where
  wrong : E → Or E A
  right : A → Or E A

-- "Each refusal returns its number": a value, or the refusal's number
abbrev pub Read : Type 0 → Type 0
Read A = Or ℕ A

infixl 20 ◌>>=◌
infixl 20 ◌>>◌
-- one thing after another: what was wrong first ends it
abbrev pub ◌>>=◌ : {E A B : Type 0} → Or E A → (A → Or E B) → Or E B
wrong e >>= f = wrong e
right a >>= f = f a

abbrev pub ◌>>◌ : {E A B : Type 0} → Or E A → Or E B → Or E B
wrong e >> next = wrong e
right a >> next = next

-- "Given exactly when": a test that is passed, or refused by its number
abbrev pub check : Bool → ℕ → Read (Unit {0})
check ok number = cond ok (right tt) (wrong number)

-- the refusal's number, or 0 where there is none
abbrev pub number_of : {A : Type 0} → Read A → ℕ
number_of (wrong number) = number
number_of (right value) = 0

-- "Each refusal returns its number": the paper's number for each
abbrev pub refusal_number : Refusal → ℕ
refusal_number Misshapen = 1
refusal_number NotPlain = 2
refusal_number NotHour = 3
refusal_number OutOfRange = 4
refusal_number BelowClock = 5
refusal_number BookFull = 6
refusal_number NoRoom = 7
refusal_number NotSound = 8
refusal_number TooLong = 9
refusal_number Unlisted = 11
refusal_number Again = 12
refusal_number Early = 13
refusal_number Late = 14
refusal_number Overlapping = 15

-- what a function answers: a value, or the number of its refusal
abbrev pub as_read : {A : Type 0} → Result A Refusal → Read A
as_read (Ok value) = right value
as_read (Err refusal) = wrong (refusal_number refusal)
