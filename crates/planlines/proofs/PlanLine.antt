-- Laws of a plan line's text and of what is written of it. Assumes nothing.
use Prim.Native.Nat.{ℕ}
use mathlib.Core.Path.{◌≡◌, refl}
use mathlib.Core.Bool.{Bool, true, false, ◌&&◌}
use mathlib.Core.List.{List}
use mathlib.Core.Logic.{◌↔◌}
use lib.Dec.{leb}
use borrow.Author.Tests.{leb-true, leb-false, le-leb}
use Rattle.ground.specs.Refusal.{right, check, ◌>>=◌, ◌>>◌}
use Rattle.ground.specs.Range.{within}
use Rattle.ground.specs.Limits.{last_hour, most_chambers, first_order_line, last_order_line}
use Rattle.ground.proofs.Tests.{by_test, both, first_of, second_of}
use Rattle.ground.proofs.Promises.{within_exactly}
use Rattle.classes.specs.Classes.{comma}
use Rattle.writer.specs.Writing.{hour_text, hour_written}
use Rattle.writer.specs.Steps.{texts_of, line_made}
use Rattle.writer.proofs.Line.{hour_within_lem, hour_above}
use Rattle.planlines.specs.Writing.{plan_text, places_checked, plan_written, plan_fields}
use Rattle.planlines.specs.Meaning.{InRange}

-- the line to be written is that of its fields, once order line and chamber are checked
pub line_of_fields : (order chamber start : ℕ) → plan_written order chamber start ≡ (places_checked order chamber >> line_made (plan_fields order chamber start))
unfolding plan_written plan_text texts_of line_made
line_of_fields order chamber start =
    by_test (leb start last_hour)
    (λ passed. rw (hour_within_lem start (leb-true start last_hour passed)))
    (λ failed. rw (hour_above start (leb-false start last_hour failed)))

-- the test of the three numbers
abbrev pub in_range : ℕ → ℕ → ℕ → Bool
in_range order chamber start = within first_order_line last_order_line order && within 1 most_chambers chamber && leb start last_hour

-- what is to be written: the text where the three numbers are in range
pub tested : (order chamber start : ℕ) → plan_written order chamber start ≡ (check (in_range order chamber start) 4 >> right (plan_text order chamber start))
unfolding plan_written hour_written
tested order chamber start =
    go (within first_order_line last_order_line order) (within 1 most_chambers chamber) (leb start last_hour) (hour_text comma start) (plan_text order chamber start)
  where
    go :
        (ordered housed timed : Bool) (hour text : List ℕ)
        → ((check ordered 4 >> check housed 4) >> (check timed 4 >> right hour >>= λ hour. right text)) ≡ (check (ordered && housed && timed) 4 >> right text)
    go false housed timed hour text = refl
    go true false timed hour text = refl
    go true true false hour text = refl
    go true true true hour text = refl

-- the test says that the numbers lie in their ranges
pub in_range_lem : (order chamber start : ℕ) → (in_range order chamber start ≡ true) ↔ InRange order chamber start
in_range_lem order chamber start =
    let first = within first_order_line last_order_line order in
    let second = within 1 most_chambers chamber in (
      λ passed.
          let places = first_of (first && second) _ passed in
          record {
            order_line = (within_exactly _ _ _).0 (first_of first second places);
            chamber_number = (within_exactly _ _ _).0 (second_of first second places);
            start_hour = leb-true _ _ (second_of (first && second) _ passed);
          },
      λ ranged.
          both (both ((within_exactly _ _ _).1 ranged.order_line) ((within_exactly _ _ _).1 ranged.chamber_number)) (le-leb _ _ ranged.start_hour),
    )
