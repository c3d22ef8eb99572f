-- Laws of the lines of a reply: the fields that they are put together from, and what is written of a line. Assumes nothing.
use Prim.Native.Nat.{ℕ, ◌≤◌}
use mathlib.Core.Path.{◌≡◌, refl}
use mathlib.Core.Bool.{true, false}
use lib.ListN.{length, length-append}
use lib.Dec.{leb}
use native.Mathlib.Omega.{arith}
use borrow.Author.Tests.{leb-true, leb-false, lt-leb}
use Rattle.ground.specs.Refusal.{right, check, ◌>>◌}
use Rattle.ground.specs.Limits.{last_hour}
use Rattle.ground.proofs.Tests.{by_test, never_both}
use Rattle.ground.specs.Text.{bytes}
use Rattle.fields.specs.Meaning.{tabbed}
use Rattle.writer.specs.Line.{line_room}
use Rattle.writer.specs.Steps.{bytes_of_all, texts_of, line_made}
use Rattle.writer.proofs.Line.{hour_within_lem, hour_above}
use Rattle.book.specs.declared.Answer.{Answer}
use Rattle.book.specs.declared.Answer.TheVariants.{Yes, No, Refused}
use Rattle.replies.specs.Replies.{reply_line, sum_line, start_in_range, reply_written}
use Rattle.replies.specs.Meaning.{StartsPastLast}
use Rattle.replies.specs.Meaning.StartsPastLast.{past}
use Rattle.replies.specs.Steps.{reply_put, sum_put}
use Rattle.replies.specs.Filling.{bytes_in}

-- the lines to be written are those of their fields
pub reply_of_fields : (line : ℕ) (answer : Answer) → reply_written line answer ≡ line_made (reply_put line answer)
unfolding reply_written reply_line texts_of line_made
reply_of_fields line (Yes chamber start) =
    by_test (leb start last_hour)
    (λ passed. rw (passed, hour_within_lem start (leb-true start last_hour passed)))
    (λ failed. rw (failed, hour_above start (leb-false start last_hour failed)))
reply_of_fields line No = refl
reply_of_fields line (Refused number) = refl

pub sum_of_fields : (taken kept : ℕ) → right (sum_line taken kept) ≡ line_made (sum_put taken kept)
unfolding sum_line texts_of line_made
sum_of_fields taken kept = refl

-- the test of the start fails exactly for a yes that starts past the last hour
past_last : (answer : Answer) → start_in_range answer ≡ false → StartsPastLast answer
past_last (Yes chamber start) failed = past chamber start (leb-false _ _ failed)
past_last No failed = absurd (never_both refl failed)
past_last (Refused number) failed = absurd (never_both refl failed)

not_in_range : {answer : Answer} → StartsPastLast answer → start_in_range answer ≡ false
not_in_range (past chamber start above) = lt-leb start last_hour above

-- so it holds exactly for any other answer
pub in_range_lem : (answer : Answer) → (StartsPastLast answer → ⊥) → start_in_range answer ≡ true
in_range_lem answer never = by_test (start_in_range answer) (λ passed. passed) (λ failed. absurd (never (past_last answer failed)))

pub not_past : (answer : Answer) → start_in_range answer ≡ true → StartsPastLast answer → ⊥
not_past answer passed late = never_both passed (not_in_range late)

-- what is to be written: the line where the start is an hour
pub tested : (line : ℕ) (answer : Answer) → reply_written line answer ≡ (check (start_in_range answer) 4 >> right (reply_line line answer))
unfolding reply_written
tested line answer = refl

-- a line has room where its fields and their stops have
pub reply_fits : (line : ℕ) (answer : Answer) → bytes_of_all (reply_put line answer) ≤ line_room → length (bytes_in (reply_written line answer)) ≤ line_room
unfolding reply_written reply_line tabbed bytes bytes_of_all
reply_fits line (Yes chamber start) room =
    by_test (leb start last_hour)
    (λ passed.
    let whole = rw (hour_within_lem start (leb-true start last_hour passed)) at room in
    rw passed (simp length-append (omega (arith, whole))))
    (λ failed. rw failed (omega arith))
reply_fits line No room = simp length-append (omega arith)
reply_fits line (Refused number) room = simp length-append (omega arith)

pub sum_fits : (taken kept : ℕ) → bytes_of_all (sum_put taken kept) ≤ line_room → length (sum_line taken kept) ≤ line_room
unfolding sum_line tabbed bytes bytes_of_all
sum_fits taken kept room = simp length-append (omega arith)
