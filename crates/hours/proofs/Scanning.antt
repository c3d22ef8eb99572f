-- Laws of scanning a field from the left, over any decimal mark. Assumes nothing.
use Prim.Native.Nat.{ℕ, suc, ◌+◌, ◌-◌, ◌*◌, ◌^◌, ◌≤◌, ◌<◌}
use mathlib.Core.Path.{◌≡◌, refl}
use mathlib.Core.Bool.{Bool, true, false, cond}
use mathlib.Core.List.{List, [], ◌∷◌, ◌++◌}
use lib.ListN.{length}
use lib.Dec.{eqb}
use native.Mathlib.Nat.{pow-suc, pow-le-pow_right}
use native.Mathlib.Omega.{arith}
use borrow.Author.Tests.{le-leb}
use Rattle.std.proofs.lemmas.List.Sums.{fold-append}
use Rattle.ground.specs.Spelling.{AllDigits, value_after, value_of, Plain}
use Rattle.classes.specs.Classes.{is_digit, class_of}
use Rattle.classes.specs.declared.Class.TheVariants.{Tab, LineEnd, Foreign}
use Rattle.classes.proofs.Classes.{class_of_digit}
use Rattle.hours.specs.Reading.{next, scanned}
use Rattle.hours.specs.declared.Stage.{Stage}
use Rattle.hours.specs.declared.Stage.TheVariants.{Start, Whole, Broken}

-- one piece after another
pub scan_append : (mark : ℕ) (stage : Stage) (front rest : List ℕ) → scanned mark stage (front ++ rest) ≡ scanned mark (scanned mark stage front) rest
unfolding scanned
scan_append mark stage front rest = fold-append _ stage front rest

-- after a byte that is no digit and not the mark the reading is broken
broken_after : (tab line_end : Bool) (stage : Stage) → next stage (cond tab Tab (cond line_end LineEnd Foreign)) ≡ Broken
broken_after true line_end stage = refl
broken_after false true stage = refl
broken_after false false stage = refl

pub after_another : (mark byte : ℕ) (stage : Stage) → is_digit byte ≡ false → eqb byte mark ≡ false → next stage (class_of mark byte) ≡ Broken
unfolding class_of
after_another mark byte stage unlike other = rw (unlike, other) (broken_after (eqb byte 9) (eqb byte 10) stage)

-- digits after a whole part of so many digits, with which it has at most four
scan_digits :
    (mark count whole : ℕ) (word : List ℕ) → AllDigits word → 1 ≤ whole → whole < 10 ^ count → count + length word ≤ 4
    → scanned mark (Whole whole) word ≡ Whole (value_after whole word)
unfolding scanned value_after AllDigits
scan_digits mark count whole [] all some below few = refl
scan_digits mark count whole (byte ∷ word) all some below few =
    let digit = all.0 in
    let short : count ≤ 3 = omega arith in
    let most : 10 ^ count ≤ 10 ^ 3 = pow-le-pow_right (omega arith) short in
    rw (class_of_digit mark byte digit, le-leb 1 whole some, le-leb whole 999 (omega arith))
    (scan_digits mark (suc count) (whole * 10 + (byte - 48)) word all.1 (omega arith) (omega (arith, pow-suc 10 count)) (omega arith))

-- a plain number is a whole part
pub scan_plain : (mark : ℕ) (word : List ℕ) → Plain word → scanned mark Start word ≡ Whole (value_of word)
unfolding scanned value_of value_after AllDigits
scan_plain mark [] plain = absurd (omega (arith, plain.some))
scan_plain mark (byte ∷ []) plain =
    let e : 0 * 10 + (byte - 48) ≡ byte - 48 = omega arith in
    rw (class_of_digit mark byte plain.digits.0, e)
scan_plain mark (byte ∷ more ∷ word) plain =
    let digit = plain.digits.0 in
    let other : byte ≡ 48 → ⊥ = λ zeroed. omega (arith, plain.unpadded zeroed) in
    let e : 0 * 10 + (byte - 48) ≡ byte - 48 = omega arith in
    rw (class_of_digit mark byte digit, e)
    (scan_digits mark 1 (byte - 48) (more ∷ word) plain.digits.1 (omega arith) (omega arith) (omega (arith, plain.most)))
