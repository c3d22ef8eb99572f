-- What this room promises: of whatever its contracts admit, and of the definitions
-- that they cite. Each is a line over a law of this folder.
-- Assumes nothing.
use Rattle.ground.specs.declared.Refusal.{Refusal}
use Prim.Native.Nat.{ℕ, ◌+◌, ◌≤◌, ◌<◌, min}
use mathlib.Core.Path.{◌≡◌, refl, sym, ap, ◌∙◌}
use mathlib.Core.Logic.{◌⊎◌, ◌↔◌}
use mathlib.Core.List.{List, [], ◌∷◌, ◌++◌, tail-eq_of_cons-eq}
use lib.ListN.{length, get_or, drop}
use native.Mathlib.Omega.{arith}
use contract.Lifetimes.{Lfts}
use denote.Ref.{Bor}
use Rattle.std.specs.Prelude.{Result, Ok, Err}
use Rattle.ground.specs.Refusal.{Read, wrong, right, refusal_number}
use Rattle.ground.specs.Outcome.{Injective, Single}
use Rattle.ground.specs.declared.Refusal.TheVariants.{TooLong}
use Rattle.ground.proofs.Outcome.{single_answer}
use Rattle.texts.specs.Lines.{lines_of, line_length, line_at}
use Rattle.texts.specs.Meaning.{joined, AreLines}
use Rattle.fields.specs.Fields.{is_ended, shape_of}
use Rattle.lines.specs.Reading.{line_of, heading_of, order_of}
use Rattle.lines.specs.Meaning.{HeadingReads, HeadingFault, OrderReads, OrderFault}
use Rattle.lines.specs.declared.Heading.{Heading}
use Rattle.lines.specs.declared.Order.{Order}
use Rattle.lines.proofs.Promises.{heading_reads, order_reads, order_fault, line_fault_from}
use Rattle.book.specs.Taking.{decided, told, answer_of}
use Rattle.book.specs.declared.Book.{Book}
use Rattle.book.specs.declared.Taken.{Taken}
use Rattle.book.specs.declared.Answer.{Answer}
use Rattle.book.specs.declared.Answer.TheVariants.{No, Refused}
use Rattle.book.proofs.Promises.{answer_told}
use Rattle.book.proofs.Book.take.Reads as take
use Rattle.orders.specs.Answers.{book_for, opening, order_lines, answers_from, book_after, decision, book_past, refusals, yeses, as_begun, begun_by}
use Rattle.orders.specs.Meaning.{HasLines, FirstOf, of_lines, CleanOrders, CleanList, OrderWrong}
use Rattle.orders.specs.History.{new_book, Answers, Counts}
use Rattle.orders.specs.declared.NotBegun.{NotBegun}
use Rattle.orders.specs.declared.Progress.{Progress}
use Rattle.orders.specs.declared.Step.{Step}
use Rattle.orders.proofs.Places as places
use Rattle.orders.proofs.Counting as counting
use Rattle.orders.proofs.FirstLines as first_lines
use Rattle.orders.proofs.Opening as openings
use Rattle.orders.proofs.Steps as steps
use Rattle.orders.proofs.Answering as answering
use Rattle.orders.proofs.Tallies as tallies
use Rattle.orders.proofs.begin.Reads as begin
use Rattle.orders.proofs.next.Reads as next
use Rattle.orders.proofs.Clean as clean

-- 2g: of a text of any length the first line is the line at its top, and the further ones are the order lines
pub first_and_further :
    (text first : List ℕ) (further : List (List ℕ)) → FirstOf text first further ↔ ((first ≡ line_at text 0) × (further ≡ order_lines text))
first_and_further = first_lines.first_exactly

-- in other words: the order lines are what stands behind the first of any lines, and a text that is not empty has its first line and these
pub orders_behind_the_first : (first : List ℕ) (further : List (List ℕ)) → AreLines (first ∷ further) → order_lines (joined (first ∷ further)) ≡ further
orders_behind_the_first first further are = sym ((first_and_further (joined (first ∷ further)) first further).0 (of_lines (are, refl))).1

pub lines_are_first_and_orders : (text : List ℕ) → 0 < length text → lines_of text ≡ line_at text 0 ∷ order_lines text
lines_are_first_and_orders = first_lines.first_and_orders

-- the book of a first line is a fresh one with its chambers and its run, whatever these are
pub book_for_heading : (heading : Heading) → book_for heading ≡ new_book heading.chambers heading.run
book_for_heading heading = refl

module _ (text first : List ℕ) (further : List (List ℕ)) (cut : FirstOf text first further) where
  -- a list opens a book exactly when it is not longer than 65,536 bytes and its first line reads, and that is its fresh book
  pub opening_right :
      (book : Book)
      → (opening text ≡ right book)
      ↔ ((length text ≤ 65_536) × ((heading : Heading) × HeadingReads first heading × (book ≡ new_book heading.chambers heading.run)))
  opening_right = openings.opens_exactly text first further cut

  -- 1b: it is refused by 9 exactly when it is longer, and else by the first fault of its first line
  pub opening_wrong :
      (number : ℕ)
      → (opening text ≡ wrong number) ↔ (((number ≡ 9) × (65_536 < length text)) ⊎ ((length text ≤ 65_536) × HeadingFault first number))
  opening_wrong = openings.rejects_exactly text first further cut

-- which is 1 to 4
pub heading_numbers : (line : List ℕ) (number : ℕ) → HeadingFault line number → (1 ≤ number) × (number ≤ 4)
heading_numbers line number = line_fault_from

-- an empty text is refused by 1
pub refused_empty : opening [] ≡ wrong 1
unfolding opening heading_of line_of shape_of is_ended line_at line_length
refused_empty = refl

-- a beginning reads as its progress, or as the refusal's number with the progress that comes with it
pub begun_reads :
    (progress : Progress) (refused : NotBegun)
    → (as_begun (Ok progress) ≡ right progress) × (as_begun (Err refused) ≡ wrong (refusal_number refused.refusal, refused.progress))
begun_reads progress refused = (refl, refl)

-- different beginnings never read the same
pub begun_told : Injective as_begun
begun_told = openings.begun_told

-- Any text, and whatever `begin` admits.
module _ (κs : Lfts 1) (text : Bor (List ℕ)) (begun : Result Progress NotBegun) (after : _) (learnt : begin.Learnt κs (text, tt) begun after) where
  -- 1b, 1c: a text longer than 65,536 bytes is refused by 9 at line 0, with a book of which every field is 0
  pub begin_too_long :
      65_536 < length text.now → begun ≡ Err (record { refusal = TooLong; progress = record { at = 0; line = 0; book = new_book 0 0 } })
  begin_too_long = openings.begun_too_long κs text begun after learnt

  module _ (first : List ℕ) (further : List (List ℕ)) (cut : FirstOf text.now first further) (within : length text.now ≤ 65_536) where
    -- one whose first line is at fault is refused by that at line 1
    pub begin_at_fault :
        (number : ℕ) → HeadingFault first number
        → (refusal : Refusal) × (refusal_number refusal ≡ number)
        × (begun ≡ Err (record { refusal = refusal; progress = record { at = 0; line = 1; book = new_book 0 0 } }))
    begin_at_fault = openings.begun_at_fault κs text begun after learnt first further cut within

    -- and one whose first line reads begins: the place past that line, line 2, and a fresh book
    pub begin_reading :
        (heading : Heading) → HeadingReads first heading
        → begun ≡ Ok (record { at = length first; line = 2; book = new_book heading.chambers heading.run })
    begin_reading = openings.begun_reading κs text begun after learnt first further cut within

-- Any text, any progress, and whatever `next` admits.
module _ (κs : Lfts 1) (text : Bor (List ℕ)) (progress : Progress) (step : Step) (after : _) (learnt : next.Learnt κs (text, (progress, tt)) step after) where
  module _ (line : List ℕ) (further : List (List ℕ)) (cut : FirstOf (drop progress.at text.now) line further) where
    -- a line that reads as an order: that order, what `take` answers to its hours, the next place and number, and the next book
    pub next_reading :
        (order : Order) → OrderReads line order → (κ : Lfts 0) (taken : Taken) (exit : _)
        → take.Learnt κ (progress.book, (order.ready, (order.due, tt))) taken exit
        → step
        ≡ record {
          order = order;
          answer = taken.answer;
          progress = record { at = progress.at + length line; line = min (progress.line + 1) 4_294_967_295; book = taken.book };
        }
    next_reading = steps.step_reading κs text progress step after learnt line further cut

    -- 1b, 1c: one that does not: an order of zeros, its fault's number, the next place and number, and the book as it was
    pub next_at_fault :
        (number : ℕ) → OrderFault line number
        → step
        ≡ record {
          order = record { grower = 0; ready = 0; due = 0 };
          answer = Refused number;
          progress = record { at = progress.at + length line; line = min (progress.line + 1) 4_294_967_295; book = progress.book };
        }
    next_at_fault = steps.step_at_fault κs text progress step after learnt line further cut

  -- at or past the end of the text: 1, and the place stays
  pub next_at_end :
      length text.now ≤ progress.at
      → step
      ≡ record {
        order = record { grower = 0; ready = 0; due = 0 };
        answer = Refused 1;
        progress = record { at = progress.at; line = min (progress.line + 1) 4_294_967_295; book = progress.book };
      }
  next_at_end = steps.step_at_end κs text progress step after learnt

  -- while a line is left the place moves on, so that going through ends
  pub moves_on : progress.at < length text.now → progress.at < step.progress.at
  moves_on inside = omega (arith, ap (λ (reached : Progress). reached.at) learnt.next, places.moves_on text.now progress inside)

-- What is decided of an order line, and the book past it.
module _ (book : Book) (line : List ℕ) where
  -- 1b: its own fault, and the book stays
  pub decided_at_fault : (number : ℕ) → OrderFault line number → (decision book (order_of line) ≡ wrong number) × (book_past book (order_of line) ≡ book)
  decided_at_fault number fault = let refused = (order_fault line number).1 fault in (ap (decision book) refused, ap (book_past book) refused)

  -- else what the book decides of the order read, number for number
  pub decided_reading : (order : Order) → OrderReads line order → decision book (order_of line) ≡ decided book order.ready order.due
  decided_reading order reads = ap (decision book) ((order_reads line order).1 reads)

  -- and the book past it is the one that comes back from `take`
  pub past_reading :
      (order : Order) → OrderReads line order → (κs : Lfts 0) (taken : Taken) (exit : _)
      → take.Learnt κs (book, (order.ready, (order.due, tt))) taken exit → book_past book (order_of line) ≡ taken.book
  past_reading order reads κs taken exit takes = ap (book_past book) ((order_reads line order).1 reads) ∙ sym takes.next

-- 1c: a refused line leaves the book as it stood
pub refused_line_stays : (book : Book) (order : Read Order) (number : ℕ) → decision book order ≡ wrong number → book_past book order ≡ book
refused_line_stays = counting.refused_line_stays

-- and the list goes on with the next line
pub refused_line_goes_on :
    (book : Book) (line : List ℕ) (lines : List (List ℕ)) (number : ℕ) → decision book (order_of line) ≡ wrong number
    → answers_from book (line ∷ lines) ≡ Refused number ∷ answers_from book lines
refused_line_goes_on = counting.refused_line_goes_on

-- Lines answered one after another, where an order is taken as whatever `take` admits.
module _ (κs : Lfts 0) (exit : Book × (ℕ × (ℕ × Unit {0}))) where
  abbrev Taking : Book → ℕ → ℕ → Taken → Type 0
  Taking book ready due taken = take.Learnt κs (book, (ready, (due, tt))) taken exit

  abbrev Answered : Book → List (List ℕ) → List Answer → Book → Type 0
  Answered = Answers Taking

  module _ (book : Book) (lines : List (List ℕ)) (answers : List Answer) (last : Book) where
    -- the answers to lines and the book past them: each line that reads is taken by the book past those before it, and each other is
    -- refused by its fault and leaves that book
    pub answered_exactly : Answered book lines answers last ↔ ((answers ≡ answers_from book lines) × (last ≡ book_after book lines))
    answered_exactly = answering.answered_exactly Taking answering.taken_exactly book lines answers last

    module _ (answered : Answered book lines answers last) where
      -- there are as many answers as lines
      pub as_many_answers : length answers ≡ length lines
      as_many_answers = ap length (answered_exactly.0 answered).0 ∙ counting.answers_length book lines

      -- kept has risen by the yeses and taken by the answers that are not refusals, and
      -- the clock is the ready hour of the last line not refused
      pub counted_exactly :
          (kept taken clock : ℕ)
          → Counts book.clock lines answers kept taken clock
          ↔ ((last.kept ≡ book.kept + kept) × (last.taken ≡ book.taken + taken) × (last.clock ≡ clock))
      counted_exactly =
          let same = answered_exactly.0 answered in
          rw (same.0, same.1) (tallies.counted book lines)

  -- The answer to a line with others before it and behind it, the book having come so far.
  module _
      (book between last : Book)
      (front : List (List ℕ))
      (line : List ℕ)
      (rest : List (List ℕ))
      (early answers : List Answer)
      (before : Answered book front early between)
      (all : Answered book (front ++ line ∷ rest) answers last) where
    -- where it reads it is what that book answers to its order
    pub answer_reading :
        (order : Order) → OrderReads line order → (taken : Taken) → Taking between order.ready order.due taken
        → get_or answers (length front) No ≡ taken.answer
    answer_reading order reads taken takes =
        let come = ((answered_exactly book front early between).0 before).1 in
        let same = ((answered_exactly book (front ++ line ∷ rest) answers last).0 all).0 in
        rw (same, (answering.taken_exactly between order.ready order.due taken).0 takes, come)
        (answering.answer_reading book front line rest order ((order_reads line order).1 reads))

    -- where it does not it is refused by its fault
    pub answer_at_fault : (number : ℕ) → OrderFault line number → get_or answers (length front) No ≡ Refused number
    answer_at_fault number fault =
        rw ((answered_exactly book (front ++ line ∷ rest) answers last).0 all).0
        (answering.answer_at_fault book front line rest number ((order_fault line number).1 fault))

  -- Whatever `next` admits of a line, as one of the lines that are left.
  module _
      (κ : Lfts 1)
      (text : Bor (List ℕ))
      (progress : Progress)
      (step : Step)
      (after : _)
      (learnt : next.Learnt κ (text, (progress, tt)) step after)
      (line : List ℕ)
      (further : List (List ℕ))
      (cut : FirstOf (drop progress.at text.now) line further) where
    -- its answer stands before those to the further lines from its book on
    pub next_answers :
        (answers : List Answer) (last : Book)
        → Answered progress.book (line ∷ further) (step.answer ∷ answers) last ↔ Answered step.progress.book further answers last
    next_answers answers last =
        let one = steps.step_answers κ text progress step after learnt line further cut in
        let all = answered_exactly progress.book (line ∷ further) (step.answer ∷ answers) last in
        let others = answered_exactly step.progress.book further answers last in (
          λ answered. let same = all.0 answered in others.1 (tail-eq_of_cons-eq (same.0 ∙ one.0), same.1 ∙ one.1),
          λ answered. let same = others.0 answered in all.1 (ap (λ rest. step.answer ∷ rest) same.0 ∙ sym one.0, same.1 ∙ sym one.1),
        )

    -- and those are the lines of what is left from its place on
    pub next_leaves : HasLines (drop step.progress.at text.now) further
    next_leaves = steps.step_leaves κ text progress step after learnt line further cut

  -- The answers of a list that begins.
  module _
      (first : List ℕ)
      (heading : Heading)
      (reads : HeadingReads first heading)
      (lines : List (List ℕ))
      (answers : List Answer)
      (last : Book)
      (answered : Answered (new_book heading.chambers heading.run) lines answers last) where
    -- 1b: an order line is refused by 1 to 6
    pub refused_by_one_to_six :
        (front : List Answer) (number : ℕ) (rest : List Answer) → answers ≡ front ++ Refused number ∷ rest → (1 ≤ number) × (number ≤ 6)
    refused_by_one_to_six front number rest among =
        answering.refused_range (new_book heading.chambers heading.run) (openings.heading_sound first heading reads) lines front number rest
        (sym ((answered_exactly (new_book heading.chambers heading.run) lines answers last).0 answered).0 ∙ among)

    -- kept is the number of yeses, taken that of the answers that are not refusals, and
    -- the clock the ready hour of the last line not refused
    pub fresh_counted : Counts 0 lines answers last.kept last.taken last.clock
    fresh_counted =
        (counted_exactly (new_book heading.chambers heading.run) lines answers last answered last.kept last.taken last.clock).1
        (omega arith, omega arith, refl)

-- the yeses among answers and the refusals are counted so
pub yeses_and_refusals :
    (before after kept taken : ℕ) (lines : List (List ℕ)) (answers : List Answer) → Counts before lines answers kept taken after
    → (yeses answers ≡ kept) × (refusals answers + taken ≡ length answers)
yeses_and_refusals before after kept taken lines answers = tallies.counts_are

-- a list is clean exactly when it begins and the desk refuses none of its lines
pub clean_exactly :
    (list : List ℕ) (heading : Heading)
    → ((opening list ≡ right (book_for heading)) × (refusals (answers_from (book_for heading) (order_lines list)) ≡ 0))
    ↔ ((orders : List Order) × CleanList list heading orders)
clean_exactly = clean.clean_exactly

-- 1b: behind the first line and clean order lines, an order line is refused exactly by its first fault: its own, 6, or 5
pub refused_by_its_fault :
    (line : List ℕ) (heading : Heading) → HeadingReads line heading → (lines : List (List ℕ)) (orders : List Order) → CleanOrders lines orders
    → (next : List ℕ) (number : ℕ) → (decision (book_after (book_for heading) lines) (order_of next) ≡ wrong number) ↔ OrderWrong orders next number
refused_by_its_fault line heading reads = clean.behind_clean line heading ((heading_reads line heading).1 reads)

-- 1d: each public function's contract admits a single outcome
pub begin_single : (κs : Lfts 1) (text : Bor (List ℕ)) (after : _) → Single (λ begun. begin.Learnt κs (text, tt) begun after)
begin_single κs text after = single_answer as_begun begun_told (begun_by text.now (opening text.now))

pub next_single : (κs : Lfts 1) (text : Bor (List ℕ)) (progress : Progress) (after : _) → Single (λ step. next.Learnt κs (text, (progress, tt)) step after)
next_single κs text progress after one other p q =
    let answers : one.answer ≡ other.answer =
    single_answer told answer_told (told (answer_of (decision progress.book (order_of (line_at text.now progress.at))))) one.answer other.answer
    p.said q.said in
    let orders : one.order ≡ other.order = p.read ∙ sym q.read in
    let places : one.progress ≡ other.progress = p.next ∙ sym q.next in
    λ i. record { order = orders i; answer = answers i; progress = places i }

-- 1a: no public function asks anything of what it is passed
pub nothing_asked :
    ((κs : Lfts 1) (passed : _) → begin.Asked κs passed)
    × ((κs : Lfts 1) (passed : _) → next.Asked κs passed)
nothing_asked = (λ κs passed. tt, λ κs passed. tt)
