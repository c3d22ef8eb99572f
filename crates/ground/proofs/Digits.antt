-- Laws of decimal digits: a spelled number is the only word of its digits; what words are worth, how digits are counted. Assumes nothing.
use Prim.Native.Nat.{ℕ, zero, suc, ◌+◌, ◌-◌, ◌*◌, ◌/◌, ◌%◌, ◌^◌, ◌≤◌, ◌<◌}
use mathlib.Core.Path.{◌≡◌, refl, sym, ap, ◌∙◌}
use mathlib.Core.List.{List, [], ◌∷◌, ◌++◌, append-nil, append_assoc}
use mathlib.Core.Logic.{◌↔◌}
use lib.ListN.{length, get_or, drop, set, length-append, get_or-append}
use lib.Seq.{drop-cons, lt-length-set, get_or-set_same, drop-set-lt}
use lib.Dec.{ltb}
use lib.Arith.{mod-mul}
use native.Mathlib.Nat.{pow-suc, pow-le-pow_right}
use native.Mathlib.Omega.{arith}
use borrow.Author.Tests.{ltb-true, ltb-false, lt-ltb, le-ltb}
use Rattle.ground.specs.Limits.{last_plain}
use Rattle.ground.specs.Spelling.{DigitByte, AllDigits, value_after, value_of, Unpadded, Plain, DigitsOf}
use Rattle.ground.specs.Digits.{last_digit, last_digits, spelled_within, spelled}
use Rattle.ground.proofs.Tests.{by_test}

-- a number's last digit is a digit
pub last_is_digit : (number : ℕ) → DigitByte (last_digit number)
last_is_digit number = (omega arith, omega arith)

-- what holds of no bytes, and of a word with a byte more at its end, holds of every word
word_induction :
    (Holds : List ℕ → Type 0) → Holds [] → ((word : List ℕ) (byte : ℕ) → Holds word → Holds (word ++ byte ∷ [])) → (word : List ℕ) → Holds word
word_induction Holds none more word = go [] word none
  where
    go : (front rest : List ℕ) → Holds front → Holds (front ++ rest)
    go front [] held = rw append-nil held
    go front (byte ∷ rest) held = rw append_assoc at (go (front ++ byte ∷ []) rest (more front byte held))

-- digits one more at the end
all_digits_more : (word : List ℕ) (byte : ℕ) → AllDigits word → DigitByte byte → AllDigits (word ++ byte ∷ [])
unfolding AllDigits
all_digits_more [] byte all digit = (digit, tt)
all_digits_more (first ∷ word) byte all digit = (all.0, all_digits_more word byte all.1 digit)

all_digits_less : (word : List ℕ) (byte : ℕ) → AllDigits (word ++ byte ∷ []) → AllDigits word × DigitByte byte
unfolding AllDigits
all_digits_less [] byte all = (tt, all.0)
all_digits_less (first ∷ word) byte all = let p = all_digits_less word byte all.1 in ((all.0, p.0), p.1)

value_after_more : (before : ℕ) (word : List ℕ) (byte : ℕ) → value_after before (word ++ byte ∷ []) ≡ value_after before word * 10 + (byte - 48)
unfolding value_after
value_after_more before [] byte = refl
value_after_more before (first ∷ word) byte = value_after_more (before * 10 + (first - 48)) word byte

pub value_more : (word : List ℕ) (byte : ℕ) → value_of (word ++ byte ∷ []) ≡ value_of word * 10 + (byte - 48)
unfolding value_of
value_more word byte = value_after_more 0 word byte

length_more : (word : List ℕ) (byte : ℕ) → length (word ++ byte ∷ []) ≡ suc (length word)
length_more word byte = simp length-append (omega arith)

-- how far the bound lies above the number does not matter
within_any : (one other number : ℕ) → number < one → number < other → spelled_within one number ≡ spelled_within other number
unfolding spelled_within
within_any zero other number p q = absurd (omega arith)
within_any (suc one) zero number p q = absurd (omega arith)
within_any (suc one) (suc other) number p q =
    by_test (ltb number 10) (λ small. rw small)
    (λ large. let l : 10 ≤ number = ltb-false number 10 large in rw (large, within_any one other (number / 10) (omega arith) (omega arith)))

-- a number below ten is its one digit, and any other is spelled by what stands before its last digit, and that digit
spelled_one : (number : ℕ) → number < 10 → spelled number ≡ last_digit number ∷ []
unfolding spelled spelled_within
spelled_one number small = rw (lt-ltb number 10 small)

spelled_more : (number : ℕ) → 10 ≤ number → spelled number ≡ spelled (number / 10) ++ last_digit number ∷ []
unfolding spelled spelled_within
spelled_more number large = rw (le-ltb number 10 large, within_any number (suc (number / 10)) (number / 10) (omega arith) (omega arith))

-- what holds of the numbers below ten, and of a number where it holds of what stands before its last digit, holds of every number
digit_induction :
    (Holds : ℕ → Type 0) → ((number : ℕ) → number < 10 → Holds number)
    → ((number : ℕ) → 10 ≤ number → Holds (number / 10) → Holds number) → (number : ℕ) → Holds number
digit_induction Holds one more number = go (suc number) number (omega arith)
  where
    go : (bound number : ℕ) → number < bound → Holds number
    go zero number below = absurd (omega arith)
    go (suc bound) number below =
        by_test (ltb number 10) (λ small. one number (ltb-true _ _ small))
        (λ large. let l : 10 ≤ number = ltb-false number 10 large in more number l (go bound (number / 10) (omega arith)))

-- it has a digit, and one more for each time that the number can be cut by ten
pub length_one : (number : ℕ) → number < 10 → length (spelled number) ≡ 1
length_one number small = rw (spelled_one number small)

pub length_tenfold : (number : ℕ) → 10 ≤ number → length (spelled number) ≡ suc (length (spelled (number / 10)))
length_tenfold number large = rw (spelled_more number large, length_more)

-- a word that starts with 0 only where it is 0 alone, and is worth something, starts with another digit
not_padded : (word : List ℕ) → Unpadded word → 1 ≤ value_of word → get_or word 0 0 ≡ 48 → ⊥
unfolding value_of value_after
not_padded [] unpadded worth zeroed = omega arith
not_padded (byte ∷ []) unpadded worth zeroed = omega arith
not_padded (byte ∷ next ∷ rest) unpadded worth zeroed = omega (arith, unpadded zeroed)

-- so it does with one more digit behind it
padded_never :
    (word : List ℕ) (byte : ℕ) → 1 ≤ length word → Unpadded word → 1 ≤ value_of word → get_or (word ++ byte ∷ []) 0 0 ≡ 48 → ⊥
padded_never word byte some unpadded worth zeroed = not_padded word unpadded worth (sym (get_or-append word (byte ∷ []) 0 0 some) ∙ zeroed)

-- a spelled number is its digits
spelled_meant : (number : ℕ) → DigitsOf number (spelled number)
unfolding AllDigits value_of value_after
spelled_meant =
    digit_induction (λ number. DigitsOf number (spelled number))
    (λ number small.
    rw (spelled_one number small)
    (record { digits = (last_is_digit number, tt); some = omega arith; unpadded = λ zeroed. refl; worth = omega arith }))
    (λ number large before.
    let front = spelled (number / 10) in
    rw (spelled_more number large)
    (record {
      digits = all_digits_more front (last_digit number) before.digits (last_is_digit number);
      some = omega (arith, length_more front (last_digit number));
      unpadded =
          λ zeroed. absurd (padded_never front (last_digit number) before.some before.unpadded (omega (arith, before.worth)) zeroed);
      worth = omega (arith, value_more front (last_digit number), before.worth);
    }))

pub spelled_some : (number : ℕ) → 1 ≤ length (spelled number)
spelled_some number = (spelled_meant number).some

pub spelled_worth : (number : ℕ) → value_of (spelled number) ≡ number
spelled_worth number = (spelled_meant number).worth

pub spelled_digits : (number : ℕ) → AllDigits (spelled number)
spelled_digits number = (spelled_meant number).digits

-- digits behind a number make it no smaller
value_grows : (before : ℕ) (word : List ℕ) → before ≤ value_after before word
unfolding value_after
value_grows before [] = omega arith
value_grows before (byte ∷ word) = omega (arith, value_grows (before * 10 + (byte - 48)) word)

-- a word of digits with no leading zero but for 0 itself is its worth spelled out, with one more digit at its end too
only_spelled_more :
    (word : List ℕ) (byte : ℕ) → (AllDigits word → 1 ≤ length word → Unpadded word → word ≡ spelled (value_of word))
    → AllDigits (word ++ byte ∷ []) → Unpadded (word ++ byte ∷ [])
    → word ++ byte ∷ [] ≡ spelled (value_of (word ++ byte ∷ []))
unfolding AllDigits value_of value_after
only_spelled_more [] byte before all unpadded =
    let digit = (all_digits_less [] byte all).1 in
    let last : last_digit (value_of (byte ∷ [])) ≡ byte = omega arith in
    rw (spelled_one (value_of (byte ∷ [])) (omega arith), last)
only_spelled_more (first ∷ rest) byte before all unpadded =
    let word = first ∷ rest in
    let p = all_digits_less word byte all in
    let other : first ≡ 48 → ⊥ = λ zeroed. omega (arith, unpadded zeroed, length_more word byte) in
    let some : 0 * 10 + (first - 48) ≤ value_of word = value_grows (0 * 10 + (first - 48)) rest in
    let worth = value_of (word ++ byte ∷ []) in
    let more : worth ≡ value_of word * 10 + (byte - 48) = value_more word byte in
    let last : last_digit worth ≡ byte = omega arith in
    let cut : worth / 10 ≡ value_of word = omega arith in
    rw (spelled_more worth (omega arith), cut, last)
    (ap (λ (front : List ℕ). front ++ byte ∷ []) (before p.0 (omega arith) (λ zeroed. absurd (other zeroed))))

only_spelled : (word : List ℕ) → AllDigits word → 1 ≤ length word → Unpadded word → word ≡ spelled (value_of word)
only_spelled =
    word_induction (λ word. AllDigits word → 1 ≤ length word → Unpadded word → word ≡ spelled (value_of word))
    (λ all some unpadded. absurd (omega arith)) (λ word byte before all some unpadded. only_spelled_more word byte before all unpadded)

-- a word is a number's digits exactly when it is the number spelled out
pub spelled_only : (number : ℕ) (word : List ℕ) → (word ≡ spelled number) ↔ DigitsOf number word
spelled_only number word = (
  λ same. rw same (spelled_meant number),
  λ meant. only_spelled word meant.digits meant.some meant.unpadded ∙ ap spelled meant.worth,
)

-- a number below a power of ten has at most that many digits
pub spelled_most : (count number : ℕ) → number < 10 ^ suc count → length (spelled number) ≤ suc count
spelled_most zero number below = omega (arith, length_one number below)
spelled_most (suc count) number below =
    by_test (ltb number 10) (λ small. omega (arith, length_one number (ltb-true _ _ small)))
    (λ large.
    let l : 10 ≤ number = ltb-false number 10 large in
    omega (
      arith,
      length_tenfold number l,
      spelled_most count (number / 10) (omega (arith, pow-suc 10 (suc count))),
    ))

-- so a number of up to four digits is spelled plainly
pub spelled_plain : (number : ℕ) → number ≤ last_plain → Plain (spelled number)
spelled_plain number small =
    let meant = spelled_meant number in
    record { digits = meant.digits; some = meant.some; most = spelled_most 3 number (omega arith); unpadded = meant.unpadded }

-- as many of the last digits as the number has are the number spelled out
pub last_digits_spelled : (number : ℕ) → last_digits (length (spelled number)) number ≡ spelled number
unfolding last_digits
last_digits_spelled =
    digit_induction (λ number. last_digits (length (spelled number)) number ≡ spelled number)
    (λ number small. rw (spelled_one number small))
    (λ number large before. rw (length_tenfold number large, before, spelled_more number large))

-- so many digits are worth less than that power of ten
value_below : (word : List ℕ) → AllDigits word → value_of word < 10 ^ length word
unfolding value_of value_after
value_below =
    word_induction (λ word. AllDigits word → value_of word < 10 ^ length word) (λ all. omega arith)
    (λ word byte below all.
    let p = all_digits_less word byte all in
    let b : value_of word < 10 ^ length word = below p.0 in
    rw length_more (omega (arith, value_more word byte, pow-suc 10 (length word))))

few_below : (word : List ℕ) (count : ℕ) → AllDigits word → length word ≤ count → value_of word < 10 ^ count
few_below word count all few = let most : 10 ^ length word ≤ 10 ^ count = pow-le-pow_right (omega arith) few in omega (arith, value_below word all)

-- what the last digits of a number are worth is what is left of it over that power of ten
pub last_digits_worth : (count number : ℕ) → value_of (last_digits count number) ≡ number % 10 ^ count
unfolding last_digits value_of value_after AllDigits
last_digits_worth zero number = omega arith
last_digits_worth (suc count) number =
    let some : 0 < 10 ^ count = few_below [] count tt (omega arith) in
    value_more (last_digits count (number / 10)) (last_digit number)
    ∙ rw (last_digits_worth count (number / 10), pow-suc 10 count) (omega (arith, mod-mul number {c = 10} some (omega arith)))

pub last_digits_all : (count number : ℕ) → AllDigits (last_digits count number)
unfolding last_digits AllDigits
last_digits_all zero number = tt
last_digits_all (suc count) number =
    all_digits_more (last_digits count (number / 10)) (last_digit number) (last_digits_all count (number / 10)) (last_is_digit number)

pub length_last_digits : (count number : ℕ) → length (last_digits count number) ≡ count
unfolding last_digits
length_last_digits zero number = refl
length_last_digits (suc count) number = rw (length_more, length_last_digits count (number / 10))

-- A buffer is filled with last digits from its back: `at` digits are still to come, before the bytes that stand there. At each step one
-- digit more stands, and one fewer is to come.
pub fill_step :
    (at left : ℕ) (buffer : List ℕ) → 0 < at → at ≤ length buffer
    → last_digits (at - 1) (left / 10) ++ drop (at - 1) (set buffer (at - 1) (last_digit left)) ≡ last_digits at left ++ drop at buffer
unfolding last_digits
fill_step zero left buffer some room = absurd (omega arith)
fill_step (suc at) left buffer some room =
    let e : suc at - 1 ≡ at = omega arith in
    let inside : at < length buffer = omega arith in
    rw (
      e,
      drop-cons (set buffer at (last_digit left)) at 0 (lt-length-set buffer at (last_digit left) inside),
      get_or-set_same buffer at (last_digit left) 0 inside,
      drop-set-lt (suc at) buffer at (last_digit left) (omega arith),
      append_assoc,
    )

-- a digit alone is plain
pub plain_one : (byte : ℕ) → DigitByte byte → Plain (byte ∷ [])
unfolding AllDigits
plain_one byte digit = record { digits = (digit, tt); some = omega arith; most = omega arith; unpadded = λ zeroed. refl }

-- a plain word that is worth from 1 to 999 takes one more digit and stays plain: it has at most three
pub plain_more : (word : List ℕ) (byte : ℕ) → Plain word → 1 ≤ value_of word → value_of word ≤ 999 → DigitByte byte → Plain (word ++ byte ∷ [])
plain_more word byte plain worth small digit =
    let short : length (spelled (value_of word)) ≤ 3 = spelled_most 2 (value_of word) (omega arith) in
    record {
      digits = all_digits_more word byte plain.digits digit;
      some = omega (arith, length_more word byte);
      most = omega (arith, length_more word byte, ap length (only_spelled word plain.digits plain.some plain.unpadded));
      unpadded = λ zeroed. absurd (padded_never word byte plain.some plain.unpadded worth zeroed);
    }

-- a plain word is worth at most four nines
pub plain_worth : (word : List ℕ) → Plain word → value_of word ≤ last_plain
plain_worth word plain = omega (arith, few_below word 4 plain.digits plain.most)

-- and a number of at most so many digits is below that power of ten
pub spelled_below : (count number : ℕ) → length (spelled number) ≤ count → number < 10 ^ count
spelled_below count number few = omega (arith, few_below (spelled number) count (spelled_digits number) few, spelled_worth number)
