-- How an hour is written: "The writer always writes two digits after the comma: 1850 is `18,50`." Assumes nothing.
use Rattle.std.specs.Prelude.{ℕ, ◌/◌, cond, List, [], ◌∷◌, ◌++◌, length, take, leb, Result, Ok, Err}
use Rattle.ground.specs.Refusal.{Read, wrong, right, check, ◌>>◌}
use Rattle.ground.specs.Limits.{last_hour}
use Rattle.ground.specs.Digits.{last_digit, spelled}
use Rattle.writer.specs.declared.Written.{Written}
use Rattle.writer.specs.declared.Written.TheVariants.{Length, Refused}

-- an hour's text: the whole hours, the mark, the tenth and the hundredth
unfoldable pub hour_text : ℕ → ℕ → List ℕ
hour_text mark hour = spelled (hour / 100) ++ mark ∷ last_digit (hour / 10) ∷ last_digit hour ∷ []

-- the text to be written: 4 for "an hour above 999,999 given as a number"
unfoldable pub hour_written : ℕ → ℕ → Read (List ℕ)
hour_written mark hour = do
  check (leb hour last_hour) 4
  right (hour_text mark hour)

-- the paper's number and value for each case of the answer
abbrev pub as_length : Written → Read ℕ
as_length (Length length) = right length
as_length (Refused number) = wrong number

-- the text that was written to a buffer: its front, as long as was answered; nothing
-- where the writing was refused, or the buffer is shorter
unfoldable pub front_of : ℕ → List ℕ → List ℕ
front_of count buffer = cond (leb count (length buffer)) (take count buffer) []

unfoldable pub text_in : Written → List ℕ → List ℕ
text_in (Length length) buffer = front_of length buffer
text_in (Refused number) buffer = []

-- the writing that says what a `Result` says
abbrev pub written_of : Result ℕ ℕ → Written
written_of (Ok length) = Length length
written_of (Err number) = Refused number
