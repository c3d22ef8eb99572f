-- A step through a list, said of the line at its place: whatever the contract of `next` admits. Assumes nothing.
use Prim.Native.Nat.{ℕ, ◌+◌, ◌≤◌, min}
use mathlib.Core.Path.{◌≡◌, refl, sym, ap, ◌∙◌}
use mathlib.Core.List.{List, [], ◌∷◌}
use lib.ListN.{length, drop}
use native.Mathlib.Numerals.{add-one}
use contract.Lifetimes.{Lfts}
use denote.Ref.{Bor}
use Rattle.ground.specs.Refusal.{Read, wrong, right}
use Rattle.texts.specs.Lines.{lines_of, line_at, past_line}
use Rattle.texts.proofs.Lines.{past_is}
use Rattle.texts.proofs.Promises.{walk_done}
use Rattle.fields.specs.Fields.{is_ended, shape_of}
use Rattle.lines.specs.Reading.{line_of, order_of}
use Rattle.lines.specs.Meaning.{OrderReads, OrderFault}
use Rattle.lines.specs.declared.Order.{Order}
use Rattle.lines.proofs.Promises.{order_reads, order_fault}
use Rattle.book.specs.Taking.{told, answer_of}
use Rattle.book.specs.declared.Book.{Book}
use Rattle.book.specs.declared.Taken.{Taken}
use Rattle.book.specs.declared.Answer.{Answer}
use Rattle.book.specs.declared.Answer.TheVariants.{Refused}
use Rattle.book.proofs.Promises.{answer_told}
use Rattle.book.proofs.Book.take.Reads as take
use Rattle.orders.specs.Answers.{answers_from, book_after, decision, book_past, order_in}
use Rattle.orders.specs.Meaning.{HasLines, FirstOf}
use Rattle.orders.specs.Steps.{line_after}
use Rattle.orders.specs.declared.Progress.{Progress}
use Rattle.orders.specs.declared.Step.{Step}
use Rattle.orders.proofs.FirstLines.{lines_exactly, first_only}
use Rattle.orders.proofs.next.Reads as next

-- the empty line is refused by 1
empty_refused : order_of [] ≡ wrong 1
unfolding order_of line_of shape_of is_ended
empty_refused = refl

module _ (κs : Lfts 1) (text : Bor (List ℕ)) (progress : Progress) (step : Step) (after : _) (learnt : next.Learnt κs (text, (progress, tt)) step after) where
  -- what comes of a line that reads so, or is refused so, and ends here
  step_from :
      (read : Read Order) (end : ℕ) (answer : Answer) (book : Book) → order_of (line_at text.now progress.at) ≡ read
      → past_line text.now progress.at ≡ end → answer_of (decision progress.book read) ≡ answer → book_past progress.book read ≡ book
      → step
      ≡ record { order = order_in read; answer = answer; progress = record { at = end; line = min (progress.line + 1) 4_294_967_295; book = book } }
  step_from read end answer book reads ends answers books =
      let same : step.answer ≡ answer =
      answer_told step.answer answer (learnt.said ∙ ap (λ order. told (answer_of (decision progress.book order))) reads ∙ ap told answers) in
      let order : step.order ≡ order_in read = learnt.read ∙ ap order_in reads in
      let line : line_after progress.line ≡ min (progress.line + 1) 4_294_967_295 = rw add-one in
      let kept : book_past progress.book (order_of (line_at text.now progress.at)) ≡ book = ap (book_past progress.book) reads ∙ books in
      let reached : step.progress ≡ record { at = end; line = min (progress.line + 1) 4_294_967_295; book = book } =
      learnt.next ∙ (λ i. record { at = ends i; line = line i; book = kept i }) in
      λ i. record { order = order i; answer = same i; progress = reached i }

  module _ (line : List ℕ) (further : List (List ℕ)) (cut : FirstOf (drop progress.at text.now) line further) where
    here : line ≡ line_at text.now progress.at
    here = (first_only text.now progress.at cut).0

    past_here : past_line text.now progress.at ≡ progress.at + length line
    past_here = rw here (sym (past_is text.now progress.at))

    -- a line that reads as an order
    pub step_reading :
        (order : Order) → OrderReads line order → (κ : Lfts 0) (taken : Taken) (exit : _)
        → take.Learnt κ (progress.book, (order.ready, (order.due, tt))) taken exit
        → step
        ≡ record {
          order = order;
          answer = taken.answer;
          progress = record { at = progress.at + length line; line = min (progress.line + 1) 4_294_967_295; book = taken.book };
        }
    step_reading order reads κ taken exit takes =
        step_from (right order) (progress.at + length line) taken.answer taken.book (rw here at ((order_reads line order).1 reads)) past_here
        (sym (answer_told taken.answer _ takes.said)) (sym takes.next)

    -- one that does not
    pub step_at_fault :
        (number : ℕ) → OrderFault line number
        → step
        ≡ record {
          order = record { grower = 0; ready = 0; due = 0 };
          answer = Refused number;
          progress = record { at = progress.at + length line; line = min (progress.line + 1) 4_294_967_295; book = progress.book };
        }
    step_at_fault number fault =
        step_from (wrong number) (progress.at + length line) (Refused number) progress.book
        (rw here at ((order_fault line number).1 fault)) past_here refl refl

    -- the step is one of going through the lines that are left
    pub step_answers :
        (answers_from progress.book (line ∷ further) ≡ step.answer ∷ answers_from step.progress.book further)
        × (book_after progress.book (line ∷ further) ≡ book_after step.progress.book further)
    unfolding answers_from book_after
    step_answers =
        let answer : step.answer ≡ answer_of (decision progress.book (order_of line)) =
        rw here (answer_told step.answer (answer_of (decision progress.book (order_of (line_at text.now progress.at)))) learnt.said) in
        let book : step.progress.book ≡ book_past progress.book (order_of line) = rw here (ap (λ reached. reached.book) learnt.next) in
        rw (answer, book) (refl, refl)

    -- and the others are left past it
    pub step_leaves : HasLines (drop step.progress.at text.now) further
    step_leaves =
        let left : further ≡ lines_of (drop (past_line text.now progress.at) text.now) = (first_only text.now progress.at cut).1 in
        let place : step.progress.at ≡ past_line text.now progress.at = ap (λ reached. reached.at) learnt.next in
        lines_exactly.1 (rw place left)

  -- at or past the end
  pub step_at_end :
      length text.now ≤ progress.at
      → step
      ≡ record {
        order = record { grower = 0; ready = 0; due = 0 };
        answer = Refused 1;
        progress = record { at = progress.at; line = min (progress.line + 1) 4_294_967_295; book = progress.book };
      }
  step_at_end ended =
      let done = walk_done text.now progress.at ended in
      step_from (wrong 1) progress.at (Refused 1) progress.book (ap order_of done.1 ∙ empty_refused) done.2 refl refl
