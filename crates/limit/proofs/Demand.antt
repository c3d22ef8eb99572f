-- The third demand, on bytes, and over what the programs print and the writer writes. A clean list is one of which the desk refuses no
-- line; its answers are the desk's, from the book that its first line opens. A plan is any text; whether it is right is for the checker to
-- say. Assumes nothing.
use Prim.Native.Nat.{ℕ, ◌+◌, ◌-◌, ◌*◌, ◌^◌, ◌≤◌}
use mathlib.Core.Path.{◌≡◌, refl, sym, ap, ◌∙◌}
use mathlib.Core.List.{List, [], ◌∷◌, ◌++◌}
use mathlib.Core.Logic.{◌↔◌}
use lib.ListN.{length, take}
use native.Mathlib.Numerals.{add-one}
use native.Mathlib.Omega.{arith}
use contract.Lifetimes.{Lfts}
use denote.MutBor.{MutBor}
use Rattle.ground.specs.Refusal.{right}
use Rattle.ground.specs.Limits.{longest_text, first_order_line}
use Rattle.ground.specs.Text.{bytes}
use Rattle.ground.specs.Buffer.{onto, length_of, buffer_after}
use Rattle.ground.proofs.Promises.{onto_exactly}
use Rattle.texts.specs.Lines.{lines_of, line_at}
use Rattle.writer.specs.declared.Written.{Written}
use Rattle.writer.specs.declared.Written.TheVariants.{Length}
use Rattle.lines.specs.Reading.{heading_of}
use Rattle.lines.specs.Meaning.{HeadingReads}
use Rattle.lines.proofs.Promises.{heading_reads}
use Rattle.planlines.specs.Writing.{plan_text}
use Rattle.planlines.specs.Meaning.{InRange}
use Rattle.planlines.proofs.Promises.{plan_line_writes}
use Rattle.planlines.proofs.write_plan_line.Reads as write_plan_line
use Rattle.book.specs.Soundness.{fresh_book}
use Rattle.book.specs.declared.Answer.{Answer}
use Rattle.book.specs.declared.Answer.TheVariants.{Yes, No, Refused}
use Rattle.lines.specs.declared.Heading.{Heading}
use Rattle.lines.specs.declared.Order.{Order}
use Rattle.orders.specs.Answers.{book_for, order_lines, answers_from, yeses}
use Rattle.orders.specs.Meaning.{FirstOf, Each, CleanList}
use Rattle.orders.proofs.Promises.{first_and_further}
use Rattle.replies.specs.Replies.{reply_of}
use Rattle.plans.specs.Judging.{judged}
use Rattle.judgements.specs.Judgements.{checked_line}
use Rattle.judgements.specs.Meaning.{RightLine}
use Rattle.limit.specs.Example.{paper_list, paper_plan}
use Rattle.limit.specs.Yeses.{yes_plan}
use Rattle.limit.specs.Meaning.{SaysBad, EndsInSum, YesesWritten, YesesPrinted}
use Rattle.limit.proofs.Bytes.{limit_on_bytes}
use Rattle.limit.proofs.LineRoom.{line_short}
use Rattle.limit.proofs.YesPlan as yes
use Rattle.limit.proofs.Printed as printed
use Rattle.limit.proofs.Reached.{paper_clean, paper_orders, paper_yeses, paper_right}

-- The yeses of answers as a plan, from a line number on: a yes has its plan line, a no and a refusal have none.
module _ (line : ℕ) where
  pub plan_of_none : yes_plan line [] ≡ []
  unfolding yes_plan
  plan_of_none = refl

  module _ (answers : List Answer) where
    pub plan_of_yes : (chamber start : ℕ) → yes_plan line (Yes chamber start ∷ answers) ≡ plan_text line chamber start ++ yes_plan (line + 1) answers
    unfolding yes_plan
    plan_of_yes chamber start = rw add-one

    pub plan_of_no : yes_plan line (No ∷ answers) ≡ yes_plan (line + 1) answers
    unfolding yes_plan
    plan_of_no = rw add-one

    pub plan_of_refused : (number : ℕ) → yes_plan line (Refused number ∷ answers) ≡ yes_plan (line + 1) answers
    unfolding yes_plan
    plan_of_refused number = rw add-one

    -- in one: it is the plan of exactly the yeses, each by its plan line's own text and in their order, and no other plan is
    pub plan_of_yeses :
        (plan : List ℕ)
        → YesesWritten (λ order chamber start text. text ≡ plan_text order chamber start) line answers plan ↔ (plan ≡ yes_plan line answers)
    plan_of_yeses plan = (
      printed.written_plan (λ order chamber start text same. same),
      λ same. rw same (printed.plan_written_lem line answers),
    )

-- 3a: the yeses of a clean list, written as plan lines, are judged right with their number
pub yeses_are_right :
    (list : List ℕ) (heading : Heading) (orders : List Order) → CleanList list heading orders
    → let answers = answers_from (book_for heading) (order_lines list) in judged list (yes_plan first_order_line answers) ≡ right (yeses answers)
yeses_are_right = yes.yeses_are_right

-- and that text is at most 65,536 bytes
pub yeses_fit :
    (list : List ℕ) (heading : Heading) (orders : List Order) → CleanList list heading orders
    → length (yes_plan first_order_line (answers_from (book_for heading) (order_lines list))) ≤ longest_text
yeses_fit = yes.plan_fits

-- a text that `write_plan_line` wrote of three numbers, to some buffer
pub record Wrote (κs : Lfts 1) (order chamber start : ℕ) (text : List ℕ) : Type 0 where
  pub buffer : MutBor (List ℕ)
  pub count : ℕ
  pub after : ℕ × (ℕ × (ℕ × (MutBor (List ℕ) × Unit {0})))
  pub learnt : write_plan_line.Learnt κs (order, (chamber, (start, (buffer, tt)))) (Length count) after
  pub front : take count after.1.1.1.0.now ≡ text

-- it is the plan line of these numbers
wrote_plan_line : {κs : Lfts 1} (order chamber start : ℕ) (text : List ℕ) → Wrote κs order chamber start text → text ≡ plan_text order chamber start
wrote_plan_line {κs} order chamber start text wrote =
    sym wrote.front
    ∙ (plan_line_writes κs order chamber start wrote.buffer (Length wrote.count) wrote.after wrote.learnt).front wrote.count refl

-- with numbers in range it can be, to whatever buffer of 14 bytes or more
can_write :
    {κs : Lfts 1} (order chamber start : ℕ) → InRange order chamber start → (buffer : MutBor (List ℕ)) → 14 ≤ length buffer.now
    → Wrote κs order chamber start (plan_text order chamber start)
can_write order chamber start range buffer room =
    let text : List ℕ = plan_text order chamber start in
    let fits = printed.plan_line_fits order chamber start range buffer.now room in
    record {
      buffer = buffer;
      count = length text;
      after = (order, (chamber, (start, (record { ref_ptr = buffer.ref_ptr; ghost_name = buffer.ghost_name; now = onto text buffer.now }, tt))));
      learnt = (sym (ap length_of fits), sym (ap (buffer_after buffer.now) fits));
      front = (onto_exactly text buffer.now).0;
    }

-- A clean list, and `write_plan_line`.
module _ (list : List ℕ) (heading : Heading) (orders : List Order) (clean : CleanList list heading orders) (κs : Lfts 1) where
  abbrev answers : List Answer
  answers = answers_from (book_for heading) (order_lines list)

  -- 3a over what is written: each yes is accepted, with the number of its order's line, to whatever buffer of 14 bytes or more
  pub yes_accepted :
      (front : List Answer) (chamber start : ℕ) (rest : List Answer) → answers ≡ front ++ Yes chamber start ∷ rest
      → (buffer : MutBor (List ℕ)) (answer : Written) (after : _)
      → write_plan_line.Learnt κs (2 + length front, (chamber, (start, (buffer, tt)))) answer after → 14 ≤ length buffer.now
      → (count : ℕ) × (answer ≡ Length count)
  yes_accepted front chamber start rest among buffer answer after learnt room =
      let range = printed.yes_in_range list heading orders clean front chamber start rest among in
      let text : List ℕ = plan_text (2 + length front) chamber start in
      let fits : length text ≤ length buffer.now = omega (arith, line_short range) in
      (length text, ((plan_line_writes κs (2 + length front) chamber start buffer answer after learnt).written (length text)).1 (range, fits, refl))

  -- so the yeses can all be written
  pub yeses_can_be_written : (buffer : MutBor (List ℕ)) → 14 ≤ length buffer.now → YesesWritten (Wrote κs) 2 answers (yes_plan 2 answers)
  yeses_can_be_written buffer room =
      printed.written_each (Wrote κs) 2 answers
      (λ front chamber start rest among.
      can_write (2 + length front) chamber start (printed.yes_in_range list heading orders clean front chamber start rest among) buffer room)

  -- and the lines that are written of the yeses, joined in the order of the list, are a plan for which the checker prints `right` and their
  -- number
  pub written_yeses_are_right :
      (plan : List ℕ) → YesesWritten (Wrote κs) 2 answers plan → RightLine (yeses answers) (checked_line list plan)
  written_yeses_are_right plan written =
      printed.printed_right list plan (yeses answers)
      (ap (judged list) (printed.written_plan wrote_plan_line written) ∙ yes.yeses_are_right list heading orders clean)

  -- they are the yeses that the desk prints, with the numbers of their lines
  pub yeses_in_print :
      (plan : List ℕ) (count : ℕ)
      → YesesPrinted (Wrote κs) (lines_of (reply_of list)) plan count ↔ (YesesWritten (Wrote κs) 2 answers plan × (count ≡ yeses answers))
  yeses_in_print = printed.clean_yeses list heading orders clean (Wrote κs)

-- 3a over what is printed, of any list: where every line of the desk's reply says yes or no but the last, which is the sum, the plan lines
-- that are written of the numbers on the yes lines, one behind the other, make the checker print `right` and how many they are
pub printed_yeses_are_right :
    (κs : Lfts 1) (list plan : List ℕ) (count : ℕ) → YesesPrinted (Wrote κs) (lines_of (reply_of list)) plan count → RightLine count (checked_line list plan)
printed_yeses_are_right κs list plan count says =
    let clean = printed.yeses_of_clean list says in
    let written = (yeses_in_print list clean.0 clean.1 clean.2 κs plan count).0 says in
    rw written.1 (written_yeses_are_right list clean.0 clean.1 clean.2 κs plan written.0)

-- 3b: with m chambers, where the desk says yes A times, a plan that is judged right with Z loads has ((m + 1)^m − m^m) · Z ≤ (m + 1)^m · A
pub at_least_its_part :
    (list plan : List ℕ) (heading : Heading) (orders : List Order) (m A Z : ℕ) → CleanList list heading orders → heading.chambers ≡ m
    → yeses (answers_from (book_for heading) (order_lines list)) ≡ A → judged list plan ≡ right Z → ((m + 1) ^ m - m ^ m) * Z ≤ (m + 1) ^ m * A
at_least_its_part = limit_on_bytes

-- Any list, and what its first line reads as.
module _ (list first : List ℕ) (further : List (List ℕ)) (heading : Heading) (cut : FirstOf list first further)
    (reads : HeadingReads first heading) where
  headed : heading_of (line_at list 0) ≡ right heading
  headed = rw ((first_and_further list first further).0 cut).0 at ((heading_reads first heading).1 reads)

  -- it is clean exactly when the desk's reply has no `bad` line
  pub clean_in_print : ((orders : List Order) × CleanList list heading orders) ↔ Each (λ reply. SaysBad reply → ⊥) (lines_of (reply_of list))
  clean_in_print = (λ clean. printed.clean_none_bad list heading clean.0 clean.1, printed.prints_clean list heading headed)

  -- 3b over what is printed: where that reply has no `bad` line and ends in `sum`, T and A, m is the heading's number, and the checker
  -- prints `right` and Z
  pub at_least_its_part_printed :
      (plan : List ℕ) (m T A Z : ℕ) → heading.chambers ≡ m → Each (λ reply. SaysBad reply → ⊥) (lines_of (reply_of list))
      → EndsInSum T A (lines_of (reply_of list)) → RightLine Z (checked_line list plan) → ((m + 1) ^ m - m ^ m) * Z ≤ (m + 1) ^ m * A
  at_least_its_part_printed plan m T A Z = printed.printed_limit list plan heading m T A Z headed

-- 3b with two chambers: at least 5 of 9
pub at_least_five_of_nine :
    (list plan : List ℕ) (heading : Heading) (orders : List Order) (A Z : ℕ) → CleanList list heading orders → heading.chambers ≡ 2
    → yeses (answers_from (book_for heading) (order_lines list)) ≡ A → judged list plan ≡ right Z → 5 * Z ≤ 9 * A
at_least_five_of_nine list plan heading orders = at_least_its_part list plan heading orders 2

-- the paper's list and its plan, byte for byte
pub paper_bytes :
    (paper_list ≡ bytes "steam\t2\t3\n7\t0\t20\n7\t0\t20\n7\t0\t20\n12\t1\t11\n12\t1\t11\n3\t2\t8\n3\t2\t8\n3\t2\t8\n3\t2\t8\n")
    × (paper_plan ≡ bytes "7\t1\t2\n8\t2\t2\n9\t1\t5\n10\t2\t5\n5\t1\t8\n6\t2\t8\n2\t1\t11\n3\t2\t11\n4\t1\t14\n")
unfolding paper_list paper_plan
paper_bytes = (refl, refl)

-- "Five times 9 is nine times 5: the limit of the third demand is met exactly": the paper's list is clean, and its plan has nine loads
-- where the desk says yes five times
pub met_exactly :
    ((orders : List Order) × CleanList paper_list (record { chambers = 2; run = 300 }) orders) × (judged paper_list paper_plan ≡ right 9)
    × (5 * 9 ≡ 9 * yeses (answers_from (fresh_book 2 300) (order_lines paper_list)))
met_exactly = (paper_clean, paper_right, rw paper_yeses refl)

-- so it is met in what is printed: the reply to the paper's list has no `bad` line and ends in `sum`, 9 and 5, and the checker prints
-- `right` and 9 for its plan
pub met_exactly_printed :
    Each (λ reply. SaysBad reply → ⊥) (lines_of (reply_of paper_list)) × EndsInSum 9 5 (lines_of (reply_of paper_list))
    × RightLine 9 (checked_line paper_list paper_plan)
met_exactly_printed =
    let heading : Heading = record { chambers = 2; run = 300 } in (
      printed.clean_none_bad paper_list heading paper_clean.0 paper_clean.1,
      rw (paper_orders, paper_yeses) at (printed.clean_ends paper_list heading paper_clean.0 paper_clean.1),
      printed.printed_right paper_list paper_plan 9 paper_right,
    )
