-- How an hour is read, byte after byte from the left; `Spelling` says what it means to be an hour's text. Assumes nothing.
use Rattle.std.specs.Prelude.{ℕ, ◌+◌, ◌*◌, cond, List, fold}
use Rattle.ground.specs.Range.{within}
use Rattle.ground.specs.Refusal.{Read, wrong, right}
use Rattle.classes.specs.Classes.{comma, class_of}
use Rattle.classes.specs.declared.Class.{Class}
use Rattle.classes.specs.declared.Class.TheVariants.{Digit, Mark, Tab, LineEnd, Foreign}
use Rattle.hours.specs.declared.Stage.{Stage}
use Rattle.hours.specs.declared.Stage.TheVariants.{Start, Whole, Marked, Tenth, Hundredth, Broken}

-- a whole part with one more digit: it takes one while it has fewer than four, and none after a leading zero
abbrev pub longer : ℕ → ℕ → Stage
longer whole digit = cond (within 1 999 whole) (Whole (whole * 10 + digit)) Broken

-- after a digit
abbrev pub next_at_digit : Stage → ℕ → Stage
next_at_digit Start digit = Whole digit
next_at_digit (Whole whole) digit = longer whole digit
next_at_digit (Marked whole) digit = Tenth whole digit
next_at_digit (Tenth whole tenth) digit = Hundredth whole tenth digit
next_at_digit (Hundredth whole tenth hundredth) digit = Broken
next_at_digit Broken digit = Broken

-- after the decimal mark
abbrev pub next_at_mark : Stage → Stage
next_at_mark Start = Broken
next_at_mark (Whole whole) = Marked whole
next_at_mark (Marked whole) = Broken
next_at_mark (Tenth whole tenth) = Broken
next_at_mark (Hundredth whole tenth hundredth) = Broken
next_at_mark Broken = Broken

-- after a byte of some class: a tab, a line end or a foreign byte stands in no hour and is never skipped
abbrev pub next : Stage → Class → Stage
next stage (Digit digit) = next_at_digit stage digit
next stage Mark = next_at_mark stage
next stage Tab = Broken
next stage LineEnd = Broken
next stage Foreign = Broken

-- after all bytes of a field
unfoldable pub scanned : ℕ → Stage → List ℕ → Stage
scanned mark = fold (λ stage byte. next stage (class_of mark byte))

-- "Inside, an hour is a whole number of hundredths": from its whole part, its tenth and its hundredth
abbrev pub in_hundredths : ℕ → ℕ → ℕ → ℕ
in_hundredths whole tenth hundredth = whole * 100 + tenth * 10 + hundredth

-- what has been read where the field ends: "One digit after the comma means tenths"; 3 where no hour ends here
abbrev pub ended : Stage → Read ℕ
ended Start = wrong 3
ended (Whole whole) = right (in_hundredths whole 0 0)
ended (Marked whole) = wrong 3
ended (Tenth whole tenth) = right (in_hundredths whole tenth 0)
ended (Hundredth whole tenth hundredth) = right (in_hundredths whole tenth hundredth)
ended Broken = wrong 3

-- the hour that a field spells, in hundredths, or refusal 3
unfoldable pub hour_of : ℕ → List ℕ → Read ℕ
hour_of mark field = ended (scanned mark Start field)

-- what has been read as a plain number where the field ends: the whole part of an hour is spelled as one; 2 for anything else
abbrev pub ended_plain : Stage → Read ℕ
ended_plain Start = wrong 2
ended_plain (Whole whole) = right whole
ended_plain (Marked whole) = wrong 2
ended_plain (Tenth whole tenth) = wrong 2
ended_plain (Hundredth whole tenth hundredth) = wrong 2
ended_plain Broken = wrong 2

-- the plain number that a field spells, or refusal 2
unfoldable pub plain_of : List ℕ → Read ℕ
plain_of field = ended_plain (scanned comma Start field)
