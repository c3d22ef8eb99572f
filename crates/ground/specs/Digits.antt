-- How a number is spelled in decimal digits; `Spelling` says what it means. Assumes nothing.
use Rattle.std.specs.Prelude.{ℕ, zero, suc, ◌+◌, ◌/◌, ◌%◌, cond, List, [], ◌∷◌, ◌++◌, ltb}

-- the byte of a number's last digit
abbrev pub last_digit : ℕ → ℕ
last_digit number = 48 + number % 10

-- the last digits of a number, as many as are asked for
unfoldable pub last_digits : ℕ → ℕ → List ℕ
last_digits zero number = []
last_digits (suc count) number = last_digits count (number / 10) ++ last_digit number ∷ []

-- a number's digits with no leading zero; the first argument only bounds how many there can be
unfoldable pub spelled_within : ℕ → ℕ → List ℕ
spelled_within zero number = []
spelled_within (suc bound) number =
    let longer = spelled_within bound (number / 10) ++ last_digit number ∷ [] in
    cond (ltb number 10) (last_digit number ∷ []) longer

-- a number spelled out
unfoldable pub spelled : ℕ → List ℕ
spelled number = spelled_within (suc number) number
