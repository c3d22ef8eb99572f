-- What this room promises, of the answers themselves and of the definitions that its contracts cite, at the comma.
-- Each is a line over a law of this folder. Assumes nothing.
use Prim.Native.Nat.{ℕ, suc, ◌+◌, ◌/◌, ◌%◌, ◌^◌, ◌≤◌, ◌<◌}
use mathlib.Core.Path.{◌≡◌, refl, sym, ap, ◌∙◌}
use mathlib.Core.Bool.{true}
use mathlib.Core.List.{List, [], ◌∷◌, ◌++◌}
use mathlib.Core.Logic.{◌↔◌}
use lib.ListN.{length, take}
use lib.Dec.{leb}
use native.Mathlib.Omega.{arith}
use borrow.Author.Tests.{leb-true, le-leb, lt-leb}
use contract.Lifetimes.{Lfts}
use Rattle.std.specs.Prelude.{Ok, Err}
use Rattle.ground.specs.Refusal.{Read, wrong, right}
use Rattle.ground.specs.Spelling.{DigitsOf}
use Rattle.ground.specs.Digits.{spelled}
use Rattle.ground.specs.Buffer.{fitted, length_of, buffer_after}
use Rattle.ground.specs.Outcome.{Injective, Single}
use Rattle.ground.proofs.Promises.{spelled_exactly}
use Rattle.ground.proofs.Digits.{spelled_some, spelled_most, spelled_below, length_last_digits}
use Rattle.ground.proofs.Outcome.{single_value}
use Rattle.hours.specs.Reading.{hour_of}
use Rattle.texts.specs.Meaning.{LiesAt}
use Rattle.fields.specs.Meaning.{all_clean, tabbed, Splits}
use Rattle.writer.specs.Writing.{hour_text, hour_written, as_length, written_of, text_in, front_of}
use Rattle.writer.specs.Line.{line_with, line_in}
use Rattle.writer.specs.Steps.{fields_after, line_made, bytes_of_all}
use Rattle.writer.specs.Meaning.{HourText, EndsIn, Writes, PutBehind}
use Rattle.writer.specs.declared.Written.{Written}
use Rattle.writer.specs.declared.Written.TheVariants.{Length, Refused}
use Rattle.writer.proofs.Writing as writing
use Rattle.writer.proofs.Line as line
use Rattle.writer.proofs.Answers as answers
use Rattle.writer.proofs.digit_count.Reads as digit_count
use Rattle.writer.proofs.put_digits.Reads as put_digits
use Rattle.writer.proofs.write_hour.Reads as write_hour
use Rattle.writer.proofs.put_word.Reads as put_word
use Rattle.writer.proofs.put_number.Reads as put_number
use Rattle.writer.proofs.put_hour.Reads as put_hour
use Rattle.writer.proofs.write_line.Reads as write_line
use Rattle.writer.proofs.text_in.Reads as text_in

-- the paper's number and value for each case of an answer, and they tell its cases apart
pub length_answered : (count : ℕ) → as_length (Length count) ≡ right count
length_answered count = refl

pub refusal_answered : (number : ℕ) → as_length (Refused number) ≡ wrong number
refusal_answered number = refl

pub length_told : Injective as_length
length_told = answers.length_told

-- and `?` goes on with the length, or hands the refusal's number on
pub length_handed_on : (count : ℕ) → written_of (Ok count) ≡ Length count
length_handed_on count = refl

pub refusal_handed_on : (number : ℕ) → written_of (Err number) ≡ Refused number
refusal_handed_on number = refl

-- a number has a digit at least, and at most so many exactly when it is below that power of ten
pub digit_count_means :
    (κs : Lfts 0) (number count : ℕ) (after : _) → digit_count.Learnt κs (number, tt) count after
    → (1 ≤ count) × ((most : ℕ) → (count ≤ suc most) ↔ (number < 10 ^ suc most))
digit_count_means κs number count after learnt =
    rw learnt (spelled_some number, λ most. (spelled_below (suc most) number, spelled_most most number))

-- digits that are put are the last of the number, as many as the buffer has bytes; nothing is answered
pub put_digits_means :
    (κs : Lfts 1) (number : ℕ) (buffer : _) (answer : Unit {0}) (after : _) → put_digits.Learnt κs (number, (buffer, tt)) answer after
    → EndsIn number after.1.0.now × (length after.1.0.now ≡ length buffer.now)
put_digits_means κs number buffer answer after learnt =
    rw learnt (writing.ends_in (length buffer.now) number, length_last_digits (length buffer.now) number)

-- an hour's text is a plain whole part, the comma and two digits, and spells the hour
pub hour_text_lem : (hour : ℕ) → hour ≤ 999_999 → HourText hour (hour_text 44 hour)
hour_text_lem = writing.hour_text_lem

-- of whatever number, also above 999,999, it is the digits of the whole hours, the comma and the last two digits; and no other text is
pub hour_text_exactly :
    (hour : ℕ) (text : List ℕ)
    → (text ≡ hour_text 44 hour)
    ↔ ((whole : List ℕ) × DigitsOf (hour / 100) whole × (text ≡ whole ++ 44 ∷ (48 + hour / 10 % 10) ∷ (48 + hour % 10) ∷ []))
unfolding hour_text
hour_text_exactly hour text =
    let whole_exactly = spelled_exactly (hour / 100) in (
      λ same. (spelled (hour / 100), (whole_exactly (spelled (hour / 100))).0 refl, same),
      λ stands. stands.2 ∙ ap (λ whole. whole ++ 44 ∷ (48 + hour / 10 % 10) ∷ (48 + hour % 10) ∷ []) ((whole_exactly stands.0).1 stands.1),
    )

-- the test of an hour to be written is that it is at most 999,999
in_hours : (hour : ℕ) → (leb hour 999_999 ≡ true) ↔ (hour ≤ 999_999)
in_hours hour = (leb-true hour 999_999, le-leb hour 999_999)

-- 1b, 1c: an hour is refused by 4 exactly when it is above 999,999, whatever the room, then by 7 exactly when its text is longer than the
-- buffer, and every byte stays; in every other case its text stands at the front, every other byte stays, and its length is answered
pub write_hour_writes :
    (κs : Lfts 1) (hour : ℕ) (buffer : _) (answer : Written) (after : _) → write_hour.Learnt κs (hour, (buffer, tt)) answer after
    → Writes (hour ≤ 999_999) (hour_text 44 hour) buffer.now answer after.1.0.now
write_hour_writes κs hour buffer answer after learnt =
    answers.writes (leb hour 999_999) (hour ≤ 999_999) (in_hours hour) (hour_text 44 hour) buffer.now (hour_written 44 hour) (writing.tested 44 hour) answer
    after.1.0.now learnt.0 learnt.1

-- a word and its stop are put behind a line so far
pub put_word_puts :
    (κs : Lfts 2) (so_far : Written) (word : _) (stop : ℕ) (buffer : _) (answer : Written) (after : _)
    → put_word.Learnt κs (so_far, (word, (stop, (buffer, tt)))) answer after
    → PutBehind so_far (Unit {0}) word.now stop buffer.now answer after.1.1.1.0.now
put_word_puts κs so_far word stop buffer answer after learnt =
    answers.put_behind true (Unit {0}) answers.always word.now (right word.now) refl so_far stop buffer.now answer after.1.1.1.0.now learnt.0
    learnt.1

-- a number's digits and their stop
pub put_number_puts :
    (κs : Lfts 1) (so_far : Written) (number stop : ℕ) (buffer : _) (answer : Written) (after : _)
    → put_number.Learnt κs (so_far, (number, (stop, (buffer, tt)))) answer after
    → PutBehind so_far (Unit {0}) (spelled number) stop buffer.now answer after.1.1.1.0.now
put_number_puts κs so_far number stop buffer answer after learnt =
    answers.put_behind true (Unit {0}) answers.always (spelled number) (right (spelled number)) refl so_far stop buffer.now answer after.1.1.1.0.now
    learnt.0 learnt.1

-- an hour's text and its stop, refused by 4 above 999,999
pub put_hour_puts :
    (κs : Lfts 1) (so_far : Written) (hour stop : ℕ) (buffer : _) (answer : Written) (after : _)
    → put_hour.Learnt κs (so_far, (hour, (stop, (buffer, tt)))) answer after
    → PutBehind so_far (hour ≤ 999_999) (hour_text 44 hour) stop buffer.now answer after.1.1.1.0.now
put_hour_puts κs so_far hour stop buffer answer after learnt =
    answers.put_behind (leb hour 999_999) (hour ≤ 999_999) (in_hours hour) (hour_text 44 hour) (hour_written 44 hour) (writing.tested 44 hour) so_far stop
    buffer.now answer after.1.1.1.0.now learnt.0 learnt.1

-- fields put one behind the other in a buffer with room for them are the line of these fields,
-- or what the first of them that is refused is refused by
pub fields_put :
    (field : Read (List ℕ)) (fields : List (Read (List ℕ))) (buffer : List ℕ) → bytes_of_all (field ∷ fields) ≤ length buffer
    → line_in (fields_after (right 0) (field ∷ fields) buffer).0 (fields_after (right 0) (field ∷ fields) buffer).1 ≡ line_made (field ∷ fields)
fields_put field fields buffer room = line.line_put (right tt) field fields buffer room (record { place = refl; holds = refl })

-- the line of fields, whatever stands in them, has a tab between each two and byte 10 behind
pub line_exactly : (fields : List (List ℕ)) → line_with fields ≡ tabbed fields ++ 10 ∷ []
line_exactly fields = refl

-- and such a line splits into just these fields, where none has a tab or a line end in it
pub line_splits : (field : List ℕ) (fields : List (List ℕ)) → all_clean (field ∷ fields) ≡ true → Splits (line_with (field ∷ fields)) (field ∷ fields)
line_splits field fields clean = record { some = omega arith; clean = clean; joined = refl }

-- a line that was refused stays refused; 7 where its own buffer is shorter than was answered; else it is written whole or not at all
module _ (κs : Lfts 2) (put : Written) (own buffer : _) (answer : Written) (after : _) (learnt : write_line.Learnt κs (put, (own, (buffer, tt))) answer after) where
  pub refused_line_stays : (number : ℕ) → put ≡ Refused number → (answer ≡ Refused number) × (after.1.1.0.now ≡ buffer.now)
  unfolding line_in fitted
  refused_line_stays number refused = answers.passed_on answer buffer.now (fitted buffer.now (line_in (as_length put) own.now)) learnt.0 learnt.1 number (rw refused)

  pub long_line_refused :
      (count : ℕ) → put ≡ Length count → length own.now < count → (answer ≡ Refused 7) × (after.1.1.0.now ≡ buffer.now)
  unfolding line_in fitted
  long_line_refused count counted short =
      answers.passed_on answer buffer.now (fitted buffer.now (line_in (as_length put) own.now)) learnt.0 learnt.1 7
      (rw (counted, lt-leb count (length own.now) short))

  pub write_line_writes :
      (count : ℕ) → put ≡ Length count → count ≤ length own.now
      → Writes (Unit {0}) (take count own.now) buffer.now answer after.1.1.0.now
  unfolding line_in
  write_line_writes count counted room =
      answers.writes true (Unit {0}) answers.always (take count own.now) buffer.now (line_in (as_length put) own.now)
      (rw (counted, le-leb count (length own.now) room)) answer after.1.1.0.now learnt.0 learnt.1

-- the text that was written: nothing for a refusal or a buffer that is shorter, else the front
module _ (κs : Lfts 1) (written : Written) (buffer : _) (text : _) (after : _) (learnt : text_in.Learnt κs (written, (buffer, tt)) text after) where
  pub no_text_of_a_refusal : (number : ℕ) → written ≡ Refused number → text.now ≡ []
  unfolding text_in
  no_text_of_a_refusal number refused = learnt.0 ∙ rw refused

  pub no_text_past_the_end : (count : ℕ) → written ≡ Length count → length buffer.now < count → text.now ≡ []
  unfolding text_in front_of
  no_text_past_the_end count counted short = learnt.0 ∙ rw (counted, lt-leb count (length buffer.now) short)

  pub text_is_the_front : (count : ℕ) → written ≡ Length count → count ≤ length buffer.now → text.now ≡ take count buffer.now
  unfolding text_in front_of
  text_is_the_front count counted room = learnt.0 ∙ rw (counted, le-leb count (length buffer.now) room)

  -- and it lies at the buffer's front
  pub text_lies : LiesAt text buffer 0
  text_lies = learnt.1

-- what was written, to whatever buffer it fits, is the text that stands in it
pub written_stands :
    (buffer : List ℕ) (text : Read (List ℕ)) (bytes : List ℕ) (written : Written) → fitted buffer text ≡ right bytes
    → as_length written ≡ length_of (fitted buffer text) → text_in written (buffer_after buffer (fitted buffer text)) ≡ bytes
written_stands = writing.written_stands

-- 2e: what was written reads back as the hour
pub written_reads_back :
    (κs : Lfts 1) (hour : ℕ) (buffer : _) (count : ℕ) (after : _) → write_hour.Learnt κs (hour, (buffer, tt)) (Length count) after
    → hour_of 44 (take count after.1.0.now) ≡ right hour
written_reads_back κs hour buffer count after learnt =
    let writes = write_hour_writes κs hour buffer (Length count) after learnt in
    ap (hour_of 44) (writes.front count refl) ∙ writing.reads_back 44 refl hour ((writes.written count).0 refl).0

-- 2e: different hours never give the same bytes
pub texts_differ : (hour other : ℕ) → hour ≤ 999_999 → other ≤ 999_999 → hour_text 44 hour ≡ hour_text 44 other → hour ≡ other
texts_differ = writing.texts_differ 44 refl

-- 1d: each public function's contract admits a single outcome
pub digit_count_single : (κs : Lfts 0) (number : ℕ) (after : _) → Single (λ count. digit_count.Learnt κs (number, tt) count after)
digit_count_single κs number after = single_value (length (spelled number))

pub put_digits_single :
    (κs : Lfts 1) (number : ℕ) (buffer : _) (one other : _) (held kept : _) → put_digits.Learnt κs (number, (buffer, tt)) one held
    → put_digits.Learnt κs (number, (buffer, tt)) other kept → (one ≡ other) × (held.1.0.now ≡ kept.1.0.now)
put_digits_single κs number buffer one other held kept p q = (refl, p ∙ sym q)

pub write_hour_single :
    (κs : Lfts 1) (hour : ℕ) (buffer : _) (one other : Written) (held kept : _) → write_hour.Learnt κs (hour, (buffer, tt)) one held
    → write_hour.Learnt κs (hour, (buffer, tt)) other kept → (one ≡ other) × (held.1.0.now ≡ kept.1.0.now)
write_hour_single κs hour buffer one other held kept p q = answers.single one other p.0 q.0 (p.1 ∙ sym q.1)

pub put_word_single :
    (κs : Lfts 2) (so_far : Written) (word : _) (stop : ℕ) (buffer : _) (one other : Written) (held kept : _)
    → put_word.Learnt κs (so_far, (word, (stop, (buffer, tt)))) one held → put_word.Learnt κs (so_far, (word, (stop, (buffer, tt)))) other kept
    → (one ≡ other) × (held.1.1.1.0.now ≡ kept.1.1.1.0.now)
put_word_single κs so_far word stop buffer one other held kept p q = answers.single one other p.0 q.0 (p.1 ∙ sym q.1)

pub put_number_single :
    (κs : Lfts 1) (so_far : Written) (number stop : ℕ) (buffer : _) (one other : Written) (held kept : _)
    → put_number.Learnt κs (so_far, (number, (stop, (buffer, tt)))) one held → put_number.Learnt κs (so_far, (number, (stop, (buffer, tt)))) other kept
    → (one ≡ other) × (held.1.1.1.0.now ≡ kept.1.1.1.0.now)
put_number_single κs so_far number stop buffer one other held kept p q = answers.single one other p.0 q.0 (p.1 ∙ sym q.1)

pub put_hour_single :
    (κs : Lfts 1) (so_far : Written) (hour stop : ℕ) (buffer : _) (one other : Written) (held kept : _)
    → put_hour.Learnt κs (so_far, (hour, (stop, (buffer, tt)))) one held → put_hour.Learnt κs (so_far, (hour, (stop, (buffer, tt)))) other kept
    → (one ≡ other) × (held.1.1.1.0.now ≡ kept.1.1.1.0.now)
put_hour_single κs so_far hour stop buffer one other held kept p q = answers.single one other p.0 q.0 (p.1 ∙ sym q.1)

pub write_line_single :
    (κs : Lfts 2) (put : Written) (own buffer : _) (one other : Written) (held kept : _) → write_line.Learnt κs (put, (own, (buffer, tt))) one held
    → write_line.Learnt κs (put, (own, (buffer, tt))) other kept → (one ≡ other) × (held.1.1.0.now ≡ kept.1.1.0.now)
write_line_single κs put own buffer one other held kept p q = answers.single one other p.0 q.0 (p.1 ∙ sym q.1)

-- of a returned part: its bytes, and where it lies
pub text_in_single :
    (κs : Lfts 1) (written : Written) (buffer : _) (one other : _) (after : _) → text_in.Learnt κs (written, (buffer, tt)) one after
    → text_in.Learnt κs (written, (buffer, tt)) other after → (one.now ≡ other.now) × (one.ref_ptr.0 ≡ other.ref_ptr.0) × (one.ref_ptr.1 ≡ other.ref_ptr.1)
text_in_single κs written buffer one other after p q = (p.0 ∙ sym q.0, p.1.0 ∙ sym q.1.0, p.1.1 ∙ sym q.1.1)

-- 1a: no public function asks anything of what it is passed
pub nothing_asked :
    ((κs : Lfts 0) (passed : _) → digit_count.Asked κs passed)
    × ((κs : Lfts 1) (passed : _) → put_digits.Asked κs passed)
    × ((κs : Lfts 1) (passed : _) → write_hour.Asked κs passed)
    × ((κs : Lfts 2) (passed : _) → put_word.Asked κs passed)
    × ((κs : Lfts 1) (passed : _) → put_number.Asked κs passed)
    × ((κs : Lfts 1) (passed : _) → put_hour.Asked κs passed)
    × ((κs : Lfts 2) (passed : _) → write_line.Asked κs passed)
    × ((κs : Lfts 1) (passed : _) → text_in.Asked κs passed)
nothing_asked = (λ κs passed. tt, λ κs passed. tt, λ κs passed. tt, λ κs passed. tt, λ κs passed. tt, λ κs passed. tt, λ κs passed. tt, λ κs passed. tt)
