-- Reading a field goes by what it means: what is meant is read, by a value or by a fault, and one of them is meant. Assumes nothing.
use Prim.Native.Nat.{ℕ, ◌≤◌}
use mathlib.Core.Path.{◌≡◌, refl, sym, ◌∙◌}
use mathlib.Core.List.{List, [], ◌∷◌}
use mathlib.Core.Logic.{◌⊎◌, inl, inr}
use native.Mathlib.Omega.{arith}
use Rattle.ground.specs.Refusal.{Read, wrong, right}
use Rattle.ground.specs.Range.{within}
use Rattle.ground.specs.Spelling.{value_of}
use Rattle.ground.specs.Text.{bytes}
use Rattle.ground.proofs.Range.{within_from, within_low, within_high, outside_exactly}
use Rattle.ground.proofs.Tests.{by_test, never_both, not_met}
use Rattle.classes.specs.Classes.{comma}
use Rattle.hours.specs.Reading.{hour_of, plain_of}
use Rattle.hours.proofs.Promises.{reads_exactly, refused_by_three, plain_exactly, refused_by_two}
use Rattle.fields.specs.Fields.{same_bytes}
use Rattle.fields.proofs.Promises.{same_exactly}
use Rattle.lines.specs.Reading.{steam, steam_at, ranged, plain_within, hour_within}
use Rattle.lines.specs.Meaning.{PlainFault, HourFault, WordFault, Kind, the_word, plain_between, hour_between, FieldReads, FieldFault}
use Rattle.lines.specs.Meaning.PlainFault.{unread as no_plain, outside as plain_outside}
use Rattle.lines.specs.Meaning.HourFault.{unread as no_hour, outside as hour_outside}
use Rattle.lines.specs.Meaning.WordFault.{other as no_word}

-- a reader goes by what is meant by a kind of field
pub record GoesBy (reader : List ℕ → Read ℕ) (kind : Kind) : Type 0 where
  pub reads : (text : List ℕ) (value : ℕ) → FieldReads kind text value → reader text ≡ right value
  pub faults : (text : List ℕ) (number : ℕ) → FieldFault kind text number → reader text ≡ wrong number
  pub meant : (text : List ℕ) → ((value : ℕ) × FieldReads kind text value) ⊎ ((number : ℕ) × FieldFault kind text number)

-- a number that is read lies in its range or outside, or there is none
held :
    {Reads Fault : ℕ → Type 0} (low high : ℕ) (read : Read ℕ) → ((value : ℕ) → read ≡ right value → low ≤ value → value ≤ high → Reads value)
    → ((value : ℕ) → read ≡ right value → ((low ≤ value) × (value ≤ high) → ⊥) → (number : ℕ) × Fault number)
    → ((number : ℕ) → read ≡ wrong number → (number : ℕ) × Fault number) → ((value : ℕ) × Reads value) ⊎ ((number : ℕ) × Fault number)
held low high (wrong number) reads out unread = inr (unread number refl)
held low high (right value) reads out unread =
    by_test (within low high value) (λ inside. inl (value, reads value refl (within_low low high value inside) (within_high low high value inside)))
    (λ outside. inr (out value refl ((outside_exactly low high value).0 outside)))

-- A number field and an hour field.
module _ (low high : ℕ) where
  plain_faults : (text : List ℕ) (number : ℕ) → PlainFault low high text number → plain_within low high text ≡ wrong number
  unfolding plain_within ranged
  plain_faults text number (no_plain none) = rw ((refused_by_two text 2).1 (refl, none))
  plain_faults text number (plain_outside plain out) =
      rw ((plain_exactly text (value_of text)).1 (plain, refl), (outside_exactly low high (value_of text)).1 out)

  pub plain_goes : GoesBy (plain_within low high) (plain_between low high)
  unfolding plain_within ranged
  plain_goes =
      record {
        reads = λ text value reads. rw ((plain_exactly text value).1 (reads.plain, reads.worth), within_from low high value reads.least reads.most);
        faults = plain_faults;
        meant =
            λ text.
            held low high (plain_of text)
            (λ value e least most. let is = (plain_exactly text value).0 e in record { plain = is.0; worth = is.1; least = least; most = most })
            (λ value e out. let is = (plain_exactly text value).0 e in (4, plain_outside is.0 (rw is.1 at out)))
            (λ number e. (2, no_plain ((refused_by_two text number).0 e).1));
      }

  hour_faults : (text : List ℕ) (number : ℕ) → HourFault low high text number → hour_within low high text ≡ wrong number
  unfolding hour_within ranged
  hour_faults text number (no_hour none) = rw ((refused_by_three text 3).1 (refl, none))
  hour_faults text number (hour_outside hour spells out) = rw ((reads_exactly text hour).1 spells, (outside_exactly low high hour).1 out)

  pub hour_goes : GoesBy (hour_within low high) (hour_between low high)
  unfolding hour_within ranged
  hour_goes =
      record {
        reads = λ text hour reads. rw ((reads_exactly text hour).1 reads.spells, within_from low high hour reads.least reads.most);
        faults = hour_faults;
        meant =
            λ text.
            held low high (hour_of comma text) (λ hour e least most. record { spells = (reads_exactly text hour).0 e; least = least; most = most })
            (λ hour e out. (4, hour_outside hour ((reads_exactly text hour).0 e) out))
            (λ number e. (3, no_hour ((refused_by_three text number).0 e).1));
      }

-- the word is these five bytes
pub steam_bytes : steam ≡ 115 ∷ 116 ∷ 101 ∷ 97 ∷ 109 ∷ []
unfolding steam bytes
steam_bytes = refl

-- The word of a first line.
word_faults : (text : List ℕ) (number : ℕ) → WordFault text number → steam_at text ≡ wrong number
unfolding steam_at
word_faults text number (no_word differs) =
    rw (not_met {met = same_bytes text steam} (λ same. differs ((same_exactly text steam).0 same ∙ steam_bytes)))

pub word_goes : GoesBy steam_at the_word
unfolding steam_at
word_goes =
    record {
      reads = λ text value reads. rw ((same_exactly text steam).1 (reads.word ∙ sym steam_bytes), reads.none);
      faults = word_faults;
      meant =
          λ text.
          by_test (same_bytes text steam) (λ same. inl (0, record { word = (same_exactly text steam).0 same ∙ steam_bytes; none = refl }))
          (λ differ. inr (1, no_word (λ word. never_both ((same_exactly text steam).1 (word ∙ sym steam_bytes)) differ)));
    }

-- the fault of a field has a number from 1 to 4
pub fault_from : (kind : Kind) (text : List ℕ) {number : ℕ} → FieldFault kind text number → (1 ≤ number) × (number ≤ 4)
fault_from the_word text (no_word differs) = (omega arith, omega arith)
fault_from (plain_between low high) text (no_plain unread) = (omega arith, omega arith)
fault_from (plain_between low high) text (plain_outside plain out) = (omega arith, omega arith)
fault_from (hour_between low high) text (no_hour unread) = (omega arith, omega arith)
fault_from (hour_between low high) text (hour_outside value spells out) = (omega arith, omega arith)
