-- What this room promises: that the definitions which every room shares are the paper's, and what its functions answer.
-- Each is a line over a law of this folder; the statements speak of numerals, lists and the definitions of `Spelling`. Assumes nothing.
use Prim.Native.Nat.{ℕ, ◌+◌, ◌%◌, ◌^◌, ◌≤◌, ◌<◌}
use Prim.Native.String.{String}
use Prim.Native.Char.{Char, code}
use mathlib.Core.Path.{◌≡◌, refl, ◌∙◌, subst}
use mathlib.Core.Bool.{Bool, true, false}
use mathlib.Core.List.{List, [], ◌∷◌, Mem, not-mem-nil}
use mathlib.Core.Logic.{◌↔◌}
use lib.ListN.{length, take, drop}
use lib.Dec.{leb}
use borrow.Author.Tests.{leb-true, leb-false, le-leb, lt-leb}
use contract.Lifetimes.{Lfts}
use denote.RattleType.{RattleType}
use denote.Param.Laws.{Laws}
use mir.Syntax.{Dict}
use Rattle.std.specs.Prelude.{Result, Ok, Err}
use Rattle.std.specs.Borrow.{u32}
use Rattle.ground.specs.contracts.Refusal.{the_row as refusals_type}
use Rattle.ground.specs.declared.Refusal.{Refusal}
use Rattle.ground.specs.declared.Refusal.TheVariants.{Misshapen, NotPlain, NotHour, OutOfRange, BelowClock, BookFull, NoRoom, NotSound, TooLong, Unlisted, Again, Early, Late, Overlapping}
use Rattle.ground.specs.declared.TheConstants.{LAST_HOUR, MOST_CHAMBERS, LAST_PLAIN, LONGEST_RUN, MOST_ORDERS, LONGEST_TEXT, FIRST_ORDER_LINE, LAST_ORDER_LINE}
use Rattle.ground.specs.Refusal.{Or, wrong, right, check, number_of, ◌>>=◌, ◌>>◌, refusal_number, as_read}
use Rattle.ground.specs.Range.{within}
use Rattle.ground.specs.Limits.{last_hour, most_chambers, last_plain, longest_run, most_orders, longest_text, first_order_line, last_order_line}
use Rattle.ground.specs.Spelling.{AllDigits, value_of, DigitsOf}
use Rattle.ground.specs.Digits.{last_digit, last_digits, spelled}
use Rattle.ground.specs.Buffer.{onto, fitted, length_of, buffer_after}
use Rattle.ground.specs.Outcome.{Injective, Single}
use Rattle.ground.specs.Text.{bytes}
use Rattle.ground.proofs.Range.{within_from, within_low, within_high}
use Rattle.ground.proofs.Checks.{checked_right, checked_wrong}
use Rattle.ground.proofs.Refusals as refusals
use Rattle.ground.proofs.Digits as digits
use Rattle.ground.proofs.Buffer.{front_of_onto, rest_of_onto, length_of_onto}
use Rattle.ground.proofs.check.Reads as check_reads
use Rattle.ground.proofs.Refusal.number.Reads as number_reads
use Rattle.ground.proofs.within.Reads as within_reads

-- the limits are the paper's: hours, chambers, plain numbers, runs, orders taken, bytes of a text, and the lines that an order can stand on
pub limits :
    (last_hour ≡ 999_999) × (most_chambers ≡ 8) × (last_plain ≡ 9_999) × (longest_run ≡ 9_999) × (most_orders ≡ 512) × (longest_text ≡ 65_536)
    × (first_order_line ≡ 2) × (last_order_line ≡ 513)
limits = (refl, refl, refl, refl, refl, refl, refl, refl)

-- and so are the constants of the code
pub limits_given :
    (LAST_HOUR ≡ 999_999) × (MOST_CHAMBERS ≡ 8) × (LAST_PLAIN ≡ 9_999) × (LONGEST_RUN ≡ 9_999) × (MOST_ORDERS ≡ 512) × (LONGEST_TEXT ≡ 65_536)
    × (FIRST_ORDER_LINE ≡ 2) × (LAST_ORDER_LINE ≡ 513)
limits_given = (refl, refl, refl, refl, refl, refl, refl, refl)

-- a number lies in a range exactly when it is at least the low end and at most the high end
pub within_exactly : (low high number : ℕ) → (within low high number ≡ true) ↔ ((low ≤ number) × (number ≤ high))
within_exactly low high number = (
  λ inside. (within_low low high number inside, within_high low high number inside),
  λ both. within_from low high number both.0 both.1,
)

-- a check that is met passes, and one that is not refuses by its number
pub check_exactly : (number : ℕ) → (check true number ≡ right tt) × (check false number ≡ wrong number)
check_exactly number = (refl, refl)

-- the paper's number of each refusal
pub refusal_numbers :
    (refusal_number Misshapen ≡ 1) × (refusal_number NotPlain ≡ 2) × (refusal_number NotHour ≡ 3) × (refusal_number OutOfRange ≡ 4)
    × (refusal_number BelowClock ≡ 5) × (refusal_number BookFull ≡ 6) × (refusal_number NoRoom ≡ 7) × (refusal_number NotSound ≡ 8)
    × (refusal_number TooLong ≡ 9) × (refusal_number Unlisted ≡ 11) × (refusal_number Again ≡ 12) × (refusal_number Early ≡ 13)
    × (refusal_number Late ≡ 14) × (refusal_number Overlapping ≡ 15)
refusal_numbers = (refl, refl, refl, refl, refl, refl, refl, refl, refl, refl, refl, refl, refl, refl)

-- they tell all refusals apart
pub refusal_numbers_told : Injective refusal_number
refusal_numbers_told = refusals.refusals_told

-- an answer reads as its value, or as the number of its refusal, and different answers read differently
pub answer_exactly :
    {A : Type 0} (value : A) (refusal : Refusal)
    → (as_read (Ok value) ≡ right value) × (as_read {A = A} (Err refusal) ≡ wrong (refusal_number refusal))
answer_exactly value refusal = (refl, refl)

pub answers_told : {A : Type 0} → Injective (as_read {A = A})
answers_told {A} = refusals.answers_told

-- what was wrong first ends it, and a value goes on to what is next
pub next_exactly :
    {E A B : Type 0} (first : E) (value : A) (next : A → Or E B) → ((wrong first >>= next) ≡ wrong first) × ((right value >>= next) ≡ next value)
next_exactly first value next = (refl, refl)

pub then_exactly :
    {E A B : Type 0} (first : E) (value : A) (next : Or E B) → (◌>>◌ {A = A} (wrong first) next ≡ wrong first) × ((right value >> next) ≡ next)
then_exactly first value next = (refl, refl)

-- a refusal's number, and 0 where there is none
pub number_exactly : {A : Type 0} (number : ℕ) (value : A) → (number_of {A = A} (wrong number) ≡ number) × (number_of (right value) ≡ 0)
number_exactly number value = (refl, refl)

-- a number spelled out is its digits: all digits, at least one, worth the number, no leading zero but for 0 itself; and no other word is
pub spelled_exactly : (number : ℕ) (word : List ℕ) → (word ≡ spelled number) ↔ DigitsOf number word
spelled_exactly = digits.spelled_only

-- a number's last digit is worth what is left of it over ten
pub last_digit_exactly : (number : ℕ) → last_digit number ≡ 48 + number % 10
last_digit_exactly number = refl

-- its last digits are as many digits as are asked for, worth what is left of the number over that power of ten
pub last_digits_exactly :
    (count number : ℕ)
    → AllDigits (last_digits count number) × (length (last_digits count number) ≡ count) × (value_of (last_digits count number) ≡ number % 10 ^ count)
last_digits_exactly count number =
    (digits.last_digits_all count number, digits.length_last_digits count number, digits.last_digits_worth count number)

-- a text written to a buffer stands at its front, the rest is as it was, and so is the length of a buffer that has room
pub onto_exactly :
    (text buffer : List ℕ)
    → (take (length text) (onto text buffer) ≡ text) × (drop (length text) (onto text buffer) ≡ drop (length text) buffer)
    × (length text ≤ length buffer → length (onto text buffer) ≡ length buffer)
onto_exactly text buffer = (front_of_onto text buffer, rest_of_onto text buffer, length_of_onto text buffer)

-- what was wrong before stays wrong; else a text fits exactly when it is no longer than the buffer, and is refused by 7 exactly when it is
pub unfit_before : (buffer : List ℕ) (number : ℕ) → fitted buffer (wrong number) ≡ wrong number
unfolding fitted
unfit_before buffer number = refl

pub fits_exactly : (buffer text other : List ℕ) → (fitted buffer (right text) ≡ right other) ↔ ((length text ≤ length buffer) × (text ≡ other))
unfolding fitted
fits_exactly buffer text other =
    let exactly = checked_right (leb (length text) (length buffer)) 7 text other in
    (λ fits. let p = exactly.0 fits in (leb-true _ _ p.0, p.1), λ fits. exactly.1 (le-leb _ _ fits.0, fits.1))

pub too_long_exactly :
    (buffer text : List ℕ) (number : ℕ) → (fitted buffer (right text) ≡ wrong number) ↔ ((length buffer < length text) × (number ≡ 7))
unfolding fitted
too_long_exactly buffer text number =
    let exactly = checked_wrong (leb (length text) (length buffer)) 7 text number in
    (λ long. let p = exactly.0 long in (leb-false _ _ p.0, p.1), λ long. exactly.1 (lt-leb _ _ long.0, long.1))

-- the length of what was written is answered, or the refusal
pub length_exactly : (text : List ℕ) (number : ℕ) → (length_of (right text) ≡ right (length text)) × (length_of (wrong number) ≡ wrong number)
length_exactly text number = (refl, refl)

-- the buffer holds what was written, and is as it was after a refusal
pub buffer_exactly :
    (buffer text : List ℕ) (number : ℕ) → (buffer_after buffer (right text) ≡ onto text buffer) × (buffer_after buffer (wrong number) ≡ buffer)
buffer_exactly buffer text number = (refl, refl)

-- a quoted text as bytes: the code of each of its letters
pub bytes_exactly : (letter : Char) (rest : String) → (bytes String.[] ≡ []) × (bytes (String.◌∷◌ letter rest) ≡ code letter ∷ bytes rest)
unfolding bytes
bytes_exactly letter rest = (refl, refl)

-- a statement admits a single outcome exactly when any two outcomes that meet it are one
pub single_exactly : {A : Type 0} (Meets : A → Type 0) → Single Meets ↔ ((one other : A) → Meets one → Meets other → one ≡ other)
single_exactly Meets = (λ single. single, λ single. single)

-- and a reading tells all values apart exactly when two that read the same are one
pub injective_exactly : {A B : Type 0} (reading : A → B) → Injective reading ↔ ((one other : A) → reading one ≡ reading other → one ≡ other)
injective_exactly reading = (λ told. told, λ told. told)

-- 1d: the contract of each function admits a single outcome
-- `check` passes where the test is met, and gives what says why where it is not: a refusal, a number, whatever type it has
module _ (E : RattleType) (laws : Laws E) (drops : Dict) (κs : Lfts 1) (met : Bool) (refusal : E.Denot) (after : _) where
  pub check_single : Single (λ answer. check_reads.Learnt E laws drops κs (met, (refusal, tt)) answer after)
  check_single one other this that = cc

  pub check_answers :
      (answer : Result (Unit {0}) E.Denot) → check_reads.Learnt E laws drops κs (met, (refusal, tt)) answer after
      → (met ≡ true → answer ≡ Ok tt) × (met ≡ false → answer ≡ Err refusal)
  check_answers answer learnt = (λ holds. learnt ∙ rw holds, λ fails. learnt ∙ rw fails)

-- `number` gives the paper's number of a refusal
module _ (κs : Lfts 0) (refusal : Refusal) (after : _) where
  pub number_single : Single (λ answer. number_reads.Learnt κs (refusal, tt) answer after)
  number_single one other this that = cc

  pub number_answers : (answer : ℕ) → number_reads.Learnt κs (refusal, tt) answer after → answer ≡ refusal_number refusal
  number_answers answer learnt = learnt

-- `within` answers whether the number is at least the low end and at most the high end
module _ (κs : Lfts 0) (low high number : ℕ) (after : _) where
  pub within_single : Single (λ answer. within_reads.Learnt κs (low, (high, (number, tt))) answer after)
  within_single one other this that = cc

  pub within_answers :
      (answer : Bool) → within_reads.Learnt κs (low, (high, (number, tt))) answer after → (answer ≡ true) ↔ ((low ≤ number) × (number ≤ high))
  within_answers answer learnt = rw learnt (within_exactly low high number)

-- 1a: no public function asks anything of what it is passed. `check` is of every type without lifetimes, as those of refusals and numbers are
check_unasked :
    (E : RattleType) (laws : Laws E) (drops : Dict) (κs : Lfts 1) (passed : _) → E.lives ≡ [] → check_reads.Asked E laws drops κs passed
check_unasked E laws drops κs passed lasting lifetime lives = absurd (not-mem-nil (subst (Mem lifetime) lasting lives))

pub nothing_asked :
    ((E : RattleType) (laws : Laws E) (drops : Dict) (κs : Lfts 1) (passed : _) → E.lives ≡ [] → check_reads.Asked E laws drops κs passed)
    × ((laws : Laws refusals_type) (drops : Dict) (κs : Lfts 1) (passed : _) → check_reads.Asked refusals_type laws drops κs passed)
    × ((laws : Laws u32) (drops : Dict) (κs : Lfts 1) (passed : _) → check_reads.Asked u32 laws drops κs passed)
    × ((κs : Lfts 0) (passed : _) → number_reads.Asked κs passed)
    × ((κs : Lfts 0) (passed : _) → within_reads.Asked κs passed)
nothing_asked = (
  check_unasked,
  λ laws drops κs passed. check_unasked refusals_type laws drops κs passed refl,
  λ laws drops κs passed. check_unasked u32 laws drops κs passed refl,
  λ κs passed. tt,
  λ κs passed. tt,
)
