-- What was written as a plan line reads back as its three numbers. Assumes nothing.
use Prim.Native.Nat.{ℕ, ◌≤◌, ◌/◌}
use mathlib.Core.Path.{◌≡◌, refl, sym, ap, ◌∙◌}
use mathlib.Core.Bool.{true}
use mathlib.Core.List.{List, [], ◌∷◌, ◌++◌, append-nil}
use native.Mathlib.Omega.{arith}
use borrow.Author.Tests.{ne_eqb}
use Rattle.ground.specs.Refusal.{right}
use Rattle.ground.specs.Limits.{most_chambers, last_plain}
use Rattle.ground.specs.Spelling.{DigitByte, AllDigits}
use Rattle.ground.specs.Digits.{last_digit, spelled}
use Rattle.ground.proofs.Tests.{both}
use Rattle.ground.proofs.Checks.{same_right}
use Rattle.ground.proofs.Digits.{last_is_digit, spelled_digits, spelled_worth, spelled_plain}
use Rattle.classes.specs.Classes.{comma}
use Rattle.writer.specs.Writing.{hour_text}
use Rattle.hours.proofs.Promises.{reads_exactly}
use Rattle.writer.proofs.Writing.{reads_back, hour_text_lem}
use Rattle.texts.specs.Lines.{line_end}
use Rattle.fields.specs.Fields.{tab, is_ended}
use Rattle.lines.specs.Reading.{load_of}
use Rattle.lines.specs.Meaning.{PlainReads, no_more, one_more}
use Rattle.planlines.specs.Writing.{plan_text}
use Rattle.planlines.specs.Meaning.{InRange, PlanText}
use Rattle.fields.specs.Meaning.{is_clean, all_clean, Splits}
use Rattle.lines.specs.declared.Load.{Load}
use Rattle.fields.proofs.Splits.{fields_of_tabbed}
use Rattle.lines.proofs.Promises.{load_reads}

-- digits are clean, and so is what is put behind a clean text
clean_digit : (byte : ℕ) (rest : List ℕ) → DigitByte byte → is_clean rest ≡ true → is_clean (byte ∷ rest) ≡ true
unfolding is_clean
clean_digit byte rest digit clean = rw (ne_eqb byte tab (λ e. omega arith), ne_eqb byte line_end (λ e. omega arith)) clean

clean_digits : (word rest : List ℕ) → AllDigits word → is_clean rest ≡ true → is_clean (word ++ rest) ≡ true
unfolding AllDigits
clean_digits [] rest all clean = clean
clean_digits (byte ∷ word) rest all clean =
    clean_digit byte (word ++ rest) all.0 (clean_digits word rest all.1 clean)

pub clean_number : (number : ℕ) → is_clean (spelled number) ≡ true
unfolding is_clean
clean_number number = rw append-nil at (clean_digits (spelled number) [] (spelled_digits number) refl)

pub clean_hour : (hour : ℕ) → is_clean (hour_text comma hour) ≡ true
unfolding is_clean hour_text
clean_hour hour =
    let tail : is_clean (last_digit (hour / 10) ∷ last_digit hour ∷ []) ≡ true =
    clean_digit (last_digit (hour / 10)) (last_digit hour ∷ []) (last_is_digit (hour / 10)) (clean_digit (last_digit hour) [] (last_is_digit hour) refl) in
    clean_digits (spelled (hour / 100)) (comma ∷ last_digit (hour / 10) ∷ last_digit hour ∷ []) (spelled_digits (hour / 100)) tail

module _ (order chamber start : ℕ) where
  abbrev numbers : List (List ℕ)
  numbers = spelled order ∷ spelled chamber ∷ hour_text comma start ∷ []

  numbers_clean : all_clean numbers ≡ true
  unfolding all_clean
  numbers_clean = both (clean_number order) (both (clean_number chamber) (both (clean_hour start) refl))

  -- a plan line's text is its three numbers with tabs between and the line end behind
  pub text_ended : is_ended (plan_text order chamber start) ≡ true
  unfolding plan_text
  text_ended = (fields_of_tabbed numbers (omega arith) numbers_clean).0

  text_splits : Splits (plan_text order chamber start) numbers
  unfolding plan_text
  text_splits = record { some = omega arith; clean = numbers_clean; joined = refl }

-- a spelled number reads as itself, where it is in its range
plain_back : (number : ℕ) {low high : ℕ} → number ≤ last_plain → low ≤ number → number ≤ high → PlainReads low high (spelled number) number
plain_back number small least most =
    record { plain = spelled_plain number small; worth = sym (spelled_worth number); least = least; most = most }

module _ (order chamber start count : ℕ) (range : InRange order chamber start) (admitted : chamber ≤ count) where
  -- the text reads back as its three numbers
  pub text_reads_back : load_of count (plan_text order chamber start) ≡ right (record { order = order; chamber = chamber; start = start })
  text_reads_back =
      (load_reads count (plan_text order chamber start) (record { order = order; chamber = chamber; start = start })).1
      (record {
        numbers = order ∷ chamber ∷ start ∷ [];
        reads =
            record {
              fields = numbers order chamber start;
              shaped = record { splits = text_splits order chamber start; enough = omega arith; most = omega arith };
              read =
                  one_more (plain_back order (omega arith) (omega arith) (omega arith))
                  (one_more (plain_back chamber (omega arith) (omega arith) admitted)
                  (one_more (record { spells = (reads_exactly _ start).0 (reads_back comma refl start range.start_hour); least = omega arith; most = range.start_hour })
                  no_more));
            };
        made = refl;
      })

-- different numbers never give the same bytes
pub texts_differ :
    (order chamber start other_order other_chamber other_start : ℕ) → InRange order chamber start → InRange other_order other_chamber other_start
    → plan_text order chamber start ≡ plan_text other_order other_chamber other_start
    → (order ≡ other_order) × (chamber ≡ other_chamber) × (start ≡ other_start)
texts_differ order chamber start other_order other_chamber other_start range other_range same =
    let loads : ◌≡◌ {A = Load} (record { order = order; chamber = chamber; start = start })
    (record { order = other_order; chamber = other_chamber; start = other_start }) =
    same_right
    (sym (text_reads_back order chamber start most_chambers range range.chamber_number.1) ∙ ap (load_of most_chambers) same
    ∙ text_reads_back other_order other_chamber other_start most_chambers other_range other_range.chamber_number.1) in
    (ap (λ (load : Load). load.order) loads, ap (λ (load : Load). load.chamber) loads, ap (λ (load : Load). load.start) loads)

-- a plan line's text is these three fields, spelled
pub plan_text_lem : (order chamber start : ℕ) → InRange order chamber start → PlanText order chamber start (plan_text order chamber start)
plan_text_lem order chamber start range =
    record {
      first = spelled order;
      second = spelled chamber;
      third = hour_text comma start;
      splits = text_splits order chamber start;
      order_spelled = (spelled_plain order (omega arith), spelled_worth order);
      chamber_spelled = (spelled_plain chamber (omega arith), spelled_worth chamber);
      start_spelled = hour_text_lem start range.start_hour;
    }
