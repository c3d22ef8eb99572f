-- Laws of the byte classes, over any decimal mark that is no digit, and what each class means at the comma. Assumes nothing.
use Prim.Native.Nat.{ℕ, ◌-◌}
use mathlib.Core.Path.{◌≡◌, refl}
use mathlib.Core.Bool.{true, false}
use mathlib.Core.Logic.{◌↔◌}
use lib.Dec.{eqb}
use borrow.Author.Tests.{eq-eqb, eqb-true, eqb-false, ne_eqb}
use Rattle.ground.specs.Spelling.{DigitByte}
use Rattle.ground.proofs.Tests.{by_test, never_both, not_met}
use Rattle.ground.proofs.Promises.{within_exactly}
use Rattle.classes.specs.Meaning.{OfClass}
use Rattle.classes.specs.Classes.{is_digit, class_of}
use Rattle.classes.specs.declared.Class.{Class}
use Rattle.classes.specs.declared.Class.TheVariants.{Digit, Mark, Tab, LineEnd, Foreign}

-- the test for a digit, and the range of its bytes
pub digit_tested : (byte : ℕ) → DigitByte byte → is_digit byte ≡ true
digit_tested byte digit = (within_exactly 48 57 byte).1 digit

pub digit_found : (byte : ℕ) → is_digit byte ≡ true → DigitByte byte
digit_found byte tested = (within_exactly 48 57 byte).0 tested

pub class_of_digit : (mark byte : ℕ) → DigitByte byte → class_of mark byte ≡ Digit (byte - 48)
unfolding class_of
class_of_digit mark byte digit = rw (digit_tested byte digit)

pub class_of_mark : (mark : ℕ) → is_digit mark ≡ false → class_of mark mark ≡ Mark
unfolding class_of
class_of_mark mark unlike = rw (unlike, eq-eqb mark mark refl)

-- a byte is of the class that it is sorted into
sorted : (byte : ℕ) → OfClass byte (class_of 44 byte)
unfolding class_of
sorted byte =
    by_test (is_digit byte) (λ digit. rw digit (digit_found byte digit, refl))
    (λ other.
    by_test (eqb byte 44) (λ mark. rw (other, mark) (eqb-true _ _ mark))
    (λ unmarked.
    by_test (eqb byte 9) (λ tab. rw (other, unmarked, tab) (eqb-true _ _ tab))
    (λ untabbed.
    by_test (eqb byte 10) (λ ends. rw (other, unmarked, untabbed, ends) (eqb-true _ _ ends))
    (λ goes.
    rw (other, unmarked, untabbed, goes)
    (λ digit. never_both (digit_tested byte digit) other, eqb-false _ _ unmarked, eqb-false _ _ untabbed, eqb-false _ _ goes)))))

-- and it is sorted into the class that it is of
sorts : (byte : ℕ) (class : Class) → OfClass byte class → class_of 44 byte ≡ class
unfolding class_of
sorts byte (Digit worth) of = rw (digit_tested byte of.0, of.1)
sorts byte Mark of = rw of
sorts byte Tab of = rw of
sorts byte LineEnd of = rw of
sorts byte Foreign of =
    rw (not_met (λ tested. of.0 (digit_found byte tested)), ne_eqb byte 44 of.1, ne_eqb byte 9 of.2, ne_eqb byte 10 of.3)

pub class_exactly : (byte : ℕ) (class : Class) → (class_of 44 byte ≡ class) ↔ OfClass byte class
class_exactly byte class = (λ same. rw same at (sorted byte), sorts byte class)
