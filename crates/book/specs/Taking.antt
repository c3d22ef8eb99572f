-- What a book answers to an order, and the next book. Assumes nothing.
use Rattle.std.specs.Prelude.{ℕ, ◌+◌, ◌-◌, ◌≡◌, Option, Some, None, take, set, leb, ltb}
use Rattle.ground.specs.Refusal.{Read, wrong, right, check, ◌>>◌}
use Rattle.ground.specs.Limits.{last_hour, most_orders}
use Rattle.book.specs.Soundness.{is_sound}
use Rattle.choice.specs.BestFit.{best_fit}
use Rattle.choice.specs.declared.Offer.{Offer}
use Rattle.book.specs.declared.Book.{Book}
use Rattle.book.specs.declared.Taken.{Taken}
use Rattle.book.specs.declared.Answer.{Answer}
use Rattle.book.specs.declared.Answer.TheVariants.{Yes, No, Refused}

-- how long a load takes its chamber, which is as long as it runs
abbrev pub hold : Book → ℕ
hold book = book.run

-- "An order given as numbers: 8, then 4 for ready, 4 for due, 6, 5", and then the choice among the book's chambers
unfoldable pub decided : Book → ℕ → ℕ → Read (Option Offer)
decided book ready due = do
  check (is_sound book) 8
  check (leb ready last_hour) 4
  check (leb due last_hour) 4
  check (ltb book.taken most_orders) 6
  check (leb book.clock ready) 5
  right (best_fit ready due book.run 1 (take book.chambers book.free))

-- "Its free hour becomes start plus run. Taken and kept each rise by 1 and the clock becomes r"; with a no "taken rises by 1, the clock
-- becomes r, nothing else changes"; a refused order leaves the book
abbrev pub next_book : Book → ℕ → Read (Option Offer) → Book
next_book book ready (wrong number) = book
next_book book ready (right None) =
    record { chambers = book.chambers; run = book.run; clock = ready; taken = book.taken + 1; kept = book.kept; free = book.free }
next_book book ready (right (Some offer)) =
    record {
      chambers = book.chambers;
      run = book.run;
      clock = ready;
      taken = book.taken + 1;
      kept = book.kept + 1;
      free = set book.free (offer.chamber - 1) (offer.start + hold book);
    }

-- "An order's answer is one of three: yes with chamber and start, no, or refused with a number"
pub data Word : Type 0 where
  yes : Word
  no : Word
  refused : Word

-- an answer's word and its numbers
pub record Told : Type 0 where
  pub word : Word
  pub refusal : ℕ
  pub chamber : ℕ
  pub start : ℕ

-- the paper's word and numbers for each case of the answer: "Each refusal returns its number, and any other number in the answer is 0"
abbrev pub told : Answer → Told
told (Yes chamber start) = record { word = yes; refusal = 0; chamber = chamber; start = start }
told No = record { word = no; refusal = 0; chamber = 0; start = 0 }
told (Refused number) = record { word = refused; refusal = number; chamber = 0; start = 0 }

-- the answer to what was decided
abbrev pub answer_of : Read (Option Offer) → Answer
answer_of (wrong number) = Refused number
answer_of (right None) = No
answer_of (right (Some offer)) = Yes offer.chamber offer.start

-- an order's answer and the next book are what was decided
pub record Answered (book : Book) (ready : ℕ) (decision : Read (Option Offer)) (taken : Taken) : Type 0 where
  pub said : told taken.answer ≡ told (answer_of decision)
  pub next : taken.book ≡ next_book book ready decision
