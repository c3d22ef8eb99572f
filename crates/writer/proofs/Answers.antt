-- What the answer of a writer says, and what the buffer holds then. Over any text, any test and any buffer. Assumes nothing.
use Prim.Native.Nat.{ℕ, ◌+◌}
use mathlib.Core.Path.{◌≡◌, refl, sym, ap, ◌∙◌}
use mathlib.Core.Bool.{Bool, true}
use mathlib.Core.List.{List, [], ◌∷◌, ◌++◌, append_assoc}
use mathlib.Core.Logic.{inl, inr, ◌↔◌}
use lib.ListN.{length, take, drop}
use native.Mathlib.Omega.{arith}
use borrow.Author.Tests.{lt-ltb, le-ltb}
use Rattle.writer.specs.declared.Written.{Written}
use Rattle.writer.specs.declared.Written.TheVariants.{Length, Refused}
use Rattle.ground.specs.Refusal.{Read, wrong, right, check, ◌>>◌}
use Rattle.ground.specs.Buffer.{onto, fitted, length_of, buffer_after}
use Rattle.ground.specs.Outcome.{Injective}
use Rattle.ground.proofs.Tests.{never_both, not_met}
use Rattle.ground.proofs.Checks.{never_right, same_right, same_wrong}
use Rattle.ground.proofs.Buffer.{front_of_onto, rest_of_onto, length_of_onto}
use Rattle.ground.proofs.Writing.{Outcome, unmet, too_long, fits, outcome_of}
use Rattle.writer.specs.Writing.{as_length}
use Rattle.writer.specs.Line.{front_after, place_after, held_after}
use Rattle.writer.specs.Meaning.{Writes, PutBehind}
use Rattle.writer.proofs.Line.{front_length}

-- the paper's number and length tell the cases of an answer apart
pub length_told : Injective as_length
length_told (Length one) (Length other) same = ap Length (same_right same)
length_told (Length one) (Refused other) same = absurd (never_right (sym same))
length_told (Refused one) (Length other) same = absurd (never_right same)
length_told (Refused one) (Refused other) same = ap Refused (same_wrong same)

-- two answers that are read as one outcome are one
pub single :
    (one other : Written) {outcome : Read ℕ} {held kept : List ℕ} → as_length one ≡ outcome → as_length other ≡ outcome → held ≡ kept
    → (one ≡ other) × (held ≡ kept)
single one other p q same = (length_told one other (p ∙ sym q), same)

-- a refusal is answered by its number, and the buffer stays
pub passed_on :
    (answer : Written) (buffer : List ℕ) {held : List ℕ} (outcome : Read (List ℕ)) → as_length answer ≡ length_of outcome
    → held ≡ buffer_after buffer outcome → (number : ℕ) → outcome ≡ wrong number → (answer ≡ Refused number) × (held ≡ buffer)
passed_on answer buffer outcome answered kept number refused =
    (length_told answer (Refused number) (answered ∙ ap length_of refused), kept ∙ ap (buffer_after buffer) refused)

-- a test that always holds means nothing
pub always : (true ≡ true) ↔ (Unit {0})
always = (λ holds. tt, λ may. refl)

-- no answer is both a length and a refusal, and one that is a refusal has its number
never_both_ways : {answer : Written} {count number : ℕ} → answer ≡ Length count → answer ≡ Refused number → ⊥
never_both_ways counted refused = never_right (ap as_length (sym refused ∙ counted))

same_refusal : {answer : Written} {number other : ℕ} → answer ≡ Refused number → answer ≡ Refused other → other ≡ number
same_refusal one other = same_wrong (ap as_length (sym other ∙ one))

-- A text that is to be written where a test holds, and refused by 4 where it does not; the test means that its numbers are allowed.
module _ (met : Bool) (Allowed : Type 0) (means : (met ≡ true) ↔ Allowed) (text buffer : List ℕ) (written : Read (List ℕ))
    (tested : written ≡ (check met 4 >> right text)) where
  -- the answer of a writer, and what its buffer holds
  pub writes :
      (answer : Written) (held : List ℕ) → as_length answer ≡ length_of (fitted buffer written) → held ≡ buffer_after buffer (fitted buffer written)
      → Writes Allowed text buffer answer held
  writes answer held answered kept = go (outcome_of met text buffer written tested)
    where
      go : Outcome met text buffer (fitted buffer written) → Writes Allowed text buffer answer held
      go (unmet fails is) =
          let p = passed_on answer buffer (fitted buffer written) answered kept 4 is in
          let never : Allowed → ⊥ = λ may. never_both (means.1 may) fails in
          record {
            out_of_range = (λ same. never, λ none. p.0);
            no_room = (λ same. absurd (omega (arith, same_refusal p.0 same)), λ facts. absurd (never facts.0));
            no_other = λ number same. inl (same_refusal p.0 same);
            written = λ count. (λ same. absurd (never_both_ways same p.0), λ facts. absurd (never facts.0));
            refused_stays = λ number same. p.1;
            front = λ count same. absurd (never_both_ways same p.0);
            rest_stays = λ count same. absurd (never_both_ways same p.0);
          }
      go (too_long holds short is) =
          let p = passed_on answer buffer (fitted buffer written) answered kept 7 is in
          record {
            out_of_range = (λ same. absurd (omega (arith, same_refusal p.0 same)), λ never. absurd (never (means.0 holds)));
            no_room = (λ same. (means.0 holds, short), λ facts. p.0);
            no_other = λ number same. inr (same_refusal p.0 same);
            written = λ count. (λ same. absurd (never_both_ways same p.0), λ facts. absurd (omega (arith, facts.1)));
            refused_stays = λ number same. p.1;
            front = λ count same. absurd (never_both_ways same p.0);
            rest_stays = λ count same. absurd (never_both_ways same p.0);
          }
      go (fits holds room is) =
          let long : answer ≡ Length (length text) = length_told answer (Length (length text)) (answered ∙ ap length_of is) in
          let size : (count : ℕ) → answer ≡ Length count → count ≡ length text = λ count same. same_right (ap as_length (sym same ∙ long)) in
          let stands : held ≡ onto text buffer = kept ∙ ap (buffer_after buffer) is in
          record {
            out_of_range = (λ same. absurd (never_both_ways long same), λ never. absurd (never (means.0 holds)));
            no_room = (λ same. absurd (never_both_ways long same), λ facts. absurd (omega (arith, facts.1)));
            no_other = λ number same. absurd (never_both_ways long same);
            written = λ count. (λ same. (means.0 holds, room, size count same), λ facts. long ∙ ap Length (sym facts.2));
            refused_stays = λ number same. absurd (never_both_ways long same);
            front = λ count same. rw (stands, size count same) (front_of_onto text buffer);
            rest_stays = λ count same. rw (stands, size count same) (rest_of_onto text buffer, length_of_onto text buffer room);
          }

-- A field that is to be put where a test holds, and refused by 4 where it does not; the test means that its number is allowed.
module _ (met : Bool) (Allowed : Type 0) (means : (met ≡ true) ↔ Allowed) (field : List ℕ) (read : Read (List ℕ))
    (tested : read ≡ (check met 4 >> right field)) (so_far : Written) (stop : ℕ) (buffer : List ℕ) (answer : Written) (held : List ℕ)
    (answered : as_length answer ≡ place_after (as_length so_far) read stop buffer) (kept : held ≡ held_after (as_length so_far) read stop buffer) where
  -- what stands at the front then tells answer and buffer
  refused_by : (number : ℕ) → front_after (as_length so_far) read stop buffer ≡ wrong number → (answer ≡ Refused number) × (held ≡ buffer)
  refused_by = passed_on answer buffer (front_after (as_length so_far) read stop buffer) answered kept

  pub put_behind : PutBehind so_far Allowed field stop buffer answer held
  unfolding front_after onto
  put_behind =
      record {
        stays_refused = λ number same. refused_by number (rw same);
        out_of_range = λ at on never. refused_by 4 (rw (on, tested, not_met (λ passed. never (means.0 passed))));
        no_room = λ at on may short. refused_by 7 (rw (on, tested, means.1 may, le-ltb (at + length field) (length buffer) (omega arith)));
        put =
            λ at on may room.
            let front : front_after (as_length so_far) read stop buffer ≡ right (take at buffer ++ field ++ stop ∷ []) =
            rw (on, tested, means.1 may, lt-ltb (at + length field) (length buffer) (omega arith)) in
            let long = front_length at field stop buffer (omega arith) in (
              length_told answer (Length (at + length field + 1)) (answered ∙ ap length_of front ∙ ap right long),
              kept ∙ ap (buffer_after buffer) front ∙ rw long (append_assoc (take at buffer ++ field) (stop ∷ []) (drop (at + length field + 1) buffer)),
            );
      }
