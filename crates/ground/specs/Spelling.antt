-- What digits are as bytes, what a word of them is worth, and when it is a plain number: what readers and writers are proved to go by.
-- Stands on lists, numbers and numerals alone. Assumes nothing.
use Rattle.std.specs.Prelude.{ℕ, ◌+◌, ◌-◌, ◌*◌, ◌≤◌, ◌≡◌, List, [], ◌∷◌, length, get_or}

-- a digit is a byte from '0', 48, to '9', 57
abbrev pub DigitByte : ℕ → Type 0
DigitByte byte = (48 ≤ byte) × (byte ≤ 57)

-- every byte of a word is a digit
unfoldable pub AllDigits : List ℕ → Type 0
AllDigits [] = Unit {0}
AllDigits (byte ∷ rest) = DigitByte byte × AllDigits rest

-- what the digits of a word add to what stands before them: ten times what stands before and the digit, which is worth its byte less 48
unfoldable pub value_after : ℕ → List ℕ → ℕ
value_after before [] = before
value_after before (byte ∷ rest) = value_after (before * 10 + (byte - 48)) rest

-- what a word of digits is worth
unfoldable pub value_of : List ℕ → ℕ
value_of word = value_after 0 word

-- "no leading zero, except that 0 alone is readable"
abbrev pub Unpadded : List ℕ → Type 0
Unpadded word = get_or word 0 0 ≡ 48 → length word ≡ 1

-- "Plain numbers have one to four digits and no leading zero, except that 0 alone is readable"; the whole part of an hour is spelled so too
pub record Plain (word : List ℕ) : Type 0 where
  pub digits : AllDigits word
  pub some : 1 ≤ length word
  pub most : length word ≤ 4
  pub unpadded : Unpadded word

-- a word is the number's digits, however many they are: at least one, and no leading zero but for 0 itself
pub record DigitsOf (number : ℕ) (word : List ℕ) : Type 0 where
  pub digits : AllDigits word
  pub some : 1 ≤ length word
  pub unpadded : Unpadded word
  pub worth : value_of word ≡ number
