-- Laws of an hour's text, over any decimal mark, of what is written of it, and of a number's last digits. Assumes nothing.
use Prim.Native.Nat.{ℕ, zero, suc, ◌+◌, ◌-◌, ◌*◌, ◌/◌, ◌^◌, ◌≤◌, ◌<◌}
use mathlib.Core.Path.{◌≡◌, refl, sym, ap, ◌∙◌}
use mathlib.Core.Bool.{false}
use mathlib.Core.List.{List, ◌∷◌, ◌++◌}
use lib.ListN.{length, length-append, length-take}
use lib.Dec.{leb}
use native.Mathlib.Nat.{pow-suc}
use native.Mathlib.Omega.{arith}
use borrow.Author.Tests.{le-leb, leb-true, leb-false}
use Rattle.std.proofs.Common.{max}
use Rattle.writer.specs.declared.Written.{Written}
use Rattle.writer.specs.declared.Written.TheVariants.{Length, Refused}
use Rattle.ground.specs.Refusal.{Read, right, check, ◌>>◌}
use Rattle.ground.specs.Limits.{last_hour}
use Rattle.ground.specs.Digits.{last_digit, last_digits, spelled}
use Rattle.classes.specs.Classes.{is_digit}
use Rattle.ground.specs.Buffer.{onto, fitted, length_of, buffer_after}
use Rattle.ground.proofs.Tests.{by_test}
use Rattle.ground.proofs.Checks.{never_right, same_right}
use Rattle.ground.proofs.Digits.{last_is_digit, length_one, spelled_most, spelled_below, spelled_worth, spelled_plain, last_digits_spelled}
use Rattle.ground.proofs.Buffer.{front_of_onto}
use Rattle.hours.specs.Spelling.{Spells}
use Rattle.hours.specs.Spelling.Spells.{hundredths}
use Rattle.hours.specs.Reading.{hour_of}
use Rattle.classes.specs.Classes.{comma}
use Rattle.writer.specs.Writing.{hour_text, hour_written, as_length, front_of, text_in}
use Rattle.writer.specs.Meaning.{HourText, EndsIn, none, more}
use Rattle.hours.proofs.Spelling.{reads_exactly}

-- an hour's text has three bytes more than its whole part
pub length_of_text : (mark hour : ℕ) → length (hour_text mark hour) ≡ length (spelled (hour / 100)) + 3
unfolding hour_text
length_of_text mark hour = simp length-append

-- a number has one digit more than its logarithm to the base ten, and 0 has as many as 1
sized_by_log : (number log : ℕ) → 10 ^ log ≤ number → number < 10 * 10 ^ log → log + 1 ≡ length (spelled number)
sized_by_log number log least most =
    by_test (leb (length (spelled number)) log) (λ few. absurd (omega (arith, spelled_below log number (leb-true _ _ few))))
    (λ more. omega (arith, spelled_most log number (omega (arith, pow-suc 10 log)), leb-false (length (spelled number)) log more))

pub counted_by_log :
    (number log : ℕ) {raised : ℕ} → raised ≡ max number 1 → 10 ^ log ≤ raised → raised < 10 * 10 ^ log → log + 1 ≡ length (spelled number)
counted_by_log zero log is least most = (rw is at (sized_by_log _ log least most)) ∙ length_one 1 (omega arith) ∙ sym (length_one 0 (omega arith))
counted_by_log (suc number) log {raised} is least most =
    let itself : raised ≡ suc number = omega arith in
    rw itself at (sized_by_log raised log least most)

-- digits that fill a part as long as a number is spelled are the number
pub digits_fill : (number : ℕ) (part : List ℕ) → length part ≡ length (spelled number) → last_digits (length part) number ≡ spelled number
digits_fill number part sized = rw sized (last_digits_spelled number)

-- the whole hours, the mark and two digits that fill a part as long as an hour's text are the text
pub hour_fills :
    (mark hour : ℕ) (part : List ℕ) → length part ≡ length (hour_text mark hour)
    → last_digits (length part - 3) (hour / 100) ++ mark ∷ last_digits 2 hour ≡ hour_text mark hour
unfolding hour_text last_digits
hour_fills mark hour part sized =
    let whole : length part - 3 ≡ length (spelled (hour / 100)) = omega (arith, length_of_text mark hour) in
    rw (whole, last_digits_spelled)

-- what is to be written: the text where the hour is in range
pub tested : (mark hour : ℕ) → hour_written mark hour ≡ (check (leb hour last_hour) 4 >> right (hour_text mark hour))
unfolding hour_written
tested mark hour = refl

-- an hour's text spells it
text_spells : (mark hour : ℕ) → hour ≤ last_hour → Spells mark (hour_text mark hour) hour
unfolding hour_text
text_spells mark hour within =
    hundredths (spelled (hour / 100)) (last_digit (hour / 10)) (last_digit hour) (spelled_plain (hour / 100) (omega arith)) (last_is_digit (hour / 10))
    (last_is_digit hour) refl (omega (arith, spelled_worth (hour / 100)))

-- at the comma it is a plain whole part, the comma and two digits
pub hour_text_lem : (hour : ℕ) → hour ≤ last_hour → HourText hour (hour_text comma hour)
unfolding hour_text
hour_text_lem hour within =
    record {
      whole = spelled (hour / 100);
      tenth = last_digit (hour / 10);
      hundredth = last_digit hour;
      stands = refl;
      plain = spelled_plain (hour / 100) (omega arith);
      tenth_digit = (omega arith, omega arith);
      hundredth_digit = (omega arith, omega arith);
      spells = text_spells comma hour within;
    }

module _ (mark : ℕ) (unlike : is_digit mark ≡ false) where
  -- reading an hour's text gives the hour
  pub reads_back : (hour : ℕ) → hour ≤ last_hour → hour_of mark (hour_text mark hour) ≡ right hour
  reads_back hour within = (reads_exactly mark unlike (hour_text mark hour) hour).1 (text_spells mark hour within)

  -- different hours never have the same text
  pub texts_differ : (hour other : ℕ) → hour ≤ last_hour → other ≤ last_hour → hour_text mark hour ≡ hour_text mark other → hour ≡ other
  texts_differ hour other within too same =
      same_right (sym (reads_back hour within) ∙ ap (hour_of mark) same ∙ reads_back other too)

-- what was written, to whatever buffer it fits, is the text that stands in it
pub written_stands :
    (buffer : List ℕ) (text : Read (List ℕ)) (bytes : List ℕ) (written : Written) → fitted buffer text ≡ right bytes
    → as_length written ≡ length_of (fitted buffer text) → text_in written (buffer_after buffer (fitted buffer text)) ≡ bytes
unfolding text_in front_of
written_stands buffer text bytes (Length count) fits answered =
    let size : count ≡ length bytes = same_right (answered ∙ ap length_of fits) in
    let room : length bytes ≤ length (onto bytes buffer) = omega (arith, ap length (front_of_onto bytes buffer), length-take (length bytes) (onto bytes buffer)) in
    rw (fits, size, le-leb (length bytes) (length (onto bytes buffer)) room, front_of_onto bytes buffer)
written_stands buffer text bytes (Refused number) fits answered = absurd (never_right (answered ∙ ap length_of fits))

-- the last digits of a number are what it ends in
pub ends_in : (count number : ℕ) → EndsIn number (last_digits count number)
unfolding last_digits
ends_in zero number = none number
ends_in (suc count) number = more number (last_digits count (number / 10)) (ends_in count (number / 10))
