-- What the paper says of a book: when it is sound and when fresh, when an order is refused and by which number, what it is answered, and
-- the next book. The computing definitions are proved to be this. Assumes nothing.
use Rattle.std.specs.Prelude.{ℕ, ◌+◌, ◌-◌, ◌≤◌, ◌<◌, ◌≡◌, length, get_or}
use Rattle.choice.specs.Meaning.{BestFitting, NoneFits}
use Rattle.book.specs.declared.Book.{Book}
use Rattle.book.specs.declared.Answer.{Answer}
use Rattle.book.specs.declared.Answer.TheVariants.{Yes, No, Refused}

-- "A book is sound when chambers are 1 to 8, run 1 to 9,999, clock and free hours at most 999,999, kept at most taken, taken at most 512,
-- and chambers above the count have free hour 0."
pub record Sound (book : Book) : Type 0 where
  pub chambers_range : (1 ≤ book.chambers) × (book.chambers ≤ 8)
  pub run_range : (1 ≤ book.run) × (book.run ≤ 9_999)
  pub clock_most : book.clock ≤ 999_999
  pub hours_most : (place : ℕ) → get_or book.free place 0 ≤ 999_999
  pub kept_most : book.kept ≤ book.taken
  pub taken_most : book.taken ≤ 512
  pub others_free : (place : ℕ) → book.chambers ≤ place → get_or book.free place 0 ≡ 0

-- the numbers that a book can be opened with: "the number of chambers (1 to 8), the run in hours (1 to 9,999 hundredths)"
abbrev pub Openable : ℕ → ℕ → Type 0
Openable chambers run = (1 ≤ chambers) × (chambers ≤ 8) × (1 ≤ run) × (run ≤ 9_999)

-- "A fresh book has every chamber free from hour 0, the clock at 0 and both counts 0"; with no chambers and no run it is "a book with
-- every field 0"
pub record Fresh (chambers run : ℕ) (book : Book) : Type 0 where
  pub chambers_given : book.chambers ≡ chambers
  pub run_given : book.run ≡ run
  pub clock_zero : book.clock ≡ 0
  pub none_taken : book.taken ≡ 0
  pub none_kept : book.kept ≡ 0
  pub eight_hours : length book.free ≡ 8
  pub hours_zero : (place : ℕ) → get_or book.free place 0 ≡ 0

-- an order that is refused by none of 8, 4, 6 and 5
pub record Admitted (book : Book) (ready due : ℕ) : Type 0 where
  pub sound : Sound book
  pub ready_most : ready ≤ 999_999
  pub due_most : due ≤ 999_999
  pub room : book.taken < 512
  pub in_turn : book.clock ≤ ready

-- "An order given as numbers: 8, then 4 for ready, 4 for due, 6, 5": the first that applies
pub data BookRefuses (book : Book) (ready due : ℕ) : ℕ → Type 0 where
  not_sound : (Sound book → ⊥) → BookRefuses book ready due 8
  ready_past_last : Sound book → 999_999 < ready → BookRefuses book ready due 4
  due_past_last : Sound book → ready ≤ 999_999 → 999_999 < due → BookRefuses book ready due 4
  book_full : Sound book → ready ≤ 999_999 → due ≤ 999_999 → book.taken ≡ 512 → BookRefuses book ready due 6
  below_clock : Sound book → ready ≤ 999_999 → due ≤ 999_999 → book.taken < 512 → ready < book.clock → BookRefuses book ready due 5

-- step 3: the chamber and the start that the rule gives an order, of the book's chambers with their free hours
abbrev pub BestChamber : Book → ℕ → ℕ → ℕ → ℕ → Type 0
BestChamber book ready due = BestFitting ready due book.run book.free book.chambers

-- step 4: none of them fits
abbrev pub NoChamber : Book → ℕ → ℕ → Type 0
NoChamber book ready due = NoneFits ready due book.run book.free book.chambers

-- "Its free hour becomes start plus run. Taken and kept each rise by 1 and the clock becomes r"
pub record AfterYes (book : Book) (ready chamber start : ℕ) (next : Book) : Type 0 where
  pub clock_ready : next.clock ≡ ready
  pub one_taken : next.taken ≡ book.taken + 1
  pub one_kept : next.kept ≡ book.kept + 1
  pub chambers_stay : next.chambers ≡ book.chambers
  pub run_stays : next.run ≡ book.run
  pub hours_stay : length next.free ≡ length book.free
  pub its_hour : get_or next.free (chamber - 1) 0 ≡ start + book.run
  pub other_hours : (place : ℕ) → (place ≡ chamber - 1 → ⊥) → get_or next.free place 0 ≡ get_or book.free place 0

-- "taken rises by 1, the clock becomes r, nothing else changes"
pub record AfterNo (book : Book) (ready : ℕ) (next : Book) : Type 0 where
  pub clock_ready : next.clock ≡ ready
  pub one_taken : next.taken ≡ book.taken + 1
  pub kept_stays : next.kept ≡ book.kept
  pub chambers_stay : next.chambers ≡ book.chambers
  pub run_stays : next.run ≡ book.run
  pub free_stays : next.free ≡ book.free

-- "An order's answer is one of three: yes with chamber and start, no, or refused with a number", each with the next book;
-- with a refusal "the book comes back as handed in"
abbrev pub RightAnswer : Book → ℕ → ℕ → Book → Answer → Type 0
RightAnswer book ready due next (Yes chamber start) =
    Admitted book ready due × BestChamber book ready due chamber start × AfterYes book ready chamber start next
RightAnswer book ready due next No = Admitted book ready due × NoChamber book ready due × AfterNo book ready next
RightAnswer book ready due next (Refused number) = BookRefuses book ready due number × (next ≡ book)
