-- Lines answered one after another: the answers and the book past them are those that the definitions compute, whatever way it is said
-- that a book takes an order; the answer to a line is that of the book past the lines before it; and a refusal from a sound book on is
-- 1 to 6. Assumes nothing.
use Prim.Native.Nat.{ℕ, ◌≤◌}
use mathlib.Core.Path.{◌≡◌, refl, ap, ◌∙◌}
use mathlib.Core.Logic.{◌↔◌, ⊎_elim}
use mathlib.Core.List.{List, [], ◌∷◌, ◌++◌, nil≢cons, head-eq_of_cons-eq, tail-eq_of_cons-eq}
use lib.ListN.{length, get_or}
use native.Mathlib.Omega.{arith}
use Rattle.ground.specs.Refusal.{Read, wrong, right}
use Rattle.ground.proofs.Checks.{same_wrong}
use Rattle.lines.specs.Reading.{order_of}
use Rattle.lines.specs.declared.Order.{Order}
use Rattle.lines.proofs.Promises.{order_reads, order_fault, line_fault_from}
use Rattle.std.specs.Prelude.{Option, Some, None}
use Rattle.choice.specs.declared.Offer.{Offer}
use Rattle.book.specs.Taking.{decided, next_book, answer_of, Answered}
use Rattle.book.specs.Meaning.{Sound}
use Rattle.book.specs.declared.Book.{Book}
use Rattle.book.specs.declared.Taken.{Taken}
use Rattle.book.specs.declared.Answer.{Answer}
use Rattle.book.specs.declared.Answer.TheVariants.{No, Refused}
use Rattle.book.proofs.Promises.{answer_told, stays_sound, refused_by_eight, refused_by_no_other}
use Rattle.orders.specs.Answers.{answers_from, book_after, decision, book_past}
use Rattle.orders.specs.History.{Answers, none_left, read_line, faulty_line}

-- what a book answers an order, and the next book
abbrev pub taken_by : Book → ℕ → ℕ → Taken
taken_by book ready due = record { answer = answer_of (decided book ready due); book = next_book book ready (decided book ready due) }

-- the contract of `take` admits just that
pub taken_exactly : (book : Book) (ready due : ℕ) (taken : Taken) → Answered book ready (decided book ready due) taken ↔ (taken ≡ taken_by book ready due)
taken_exactly book ready due taken = (
  λ answered.
      let answers : taken.answer ≡ answer_of (decided book ready due) =
      answer_told taken.answer (answer_of (decided book ready due)) answered.said in
      λ i. record { answer = answers i; book = answered.next i },
  λ same. rw same (record { said = refl; next = refl }),
)

module _
    (Takes : Book → ℕ → ℕ → Taken → Type 0)
    (takes : (book : Book) (ready due : ℕ) (taken : Taken) → Takes book ready due taken ↔ (taken ≡ taken_by book ready due)) where
  -- they are answered as computed
  answered_to :
      {book last : Book} {lines : List (List ℕ)} {answers : List Answer} → Answers Takes book lines answers last
      → (answers ≡ answers_from book lines) × (last ≡ book_after book lines)
  unfolding answers_from book_after
  answered_to none_left = (refl, refl)
  answered_to {book} (read_line line order taken read takes_it others) =
      let later = answered_to others in
      let read_as : order_of line ≡ right order = (order_reads line order).1 read in
      let same : taken ≡ taken_by book order.ready order.due = (takes book order.ready order.due taken).0 takes_it in
      rw (read_as, later.0, later.1, same) (refl, refl)
  answered_to (faulty_line line number fault others) =
      let later = answered_to others in
      let refused : order_of line ≡ wrong number = (order_fault line number).1 fault in
      rw (refused, later.0, later.1) (refl, refl)

  -- and what is computed answers them
  answered_from : (book : Book) (lines : List (List ℕ)) → Answers Takes book lines (answers_from book lines) (book_after book lines)
  unfolding answers_from book_after
  answered_from book [] = none_left
  answered_from book (line ∷ lines) = go (order_of line) refl (answered_from (book_past book (order_of line)) lines)
    where
      go :
          (read : Read Order) → order_of line ≡ read
          → Answers Takes (book_past book read) lines (answers_from (book_past book read) lines) (book_after (book_past book read) lines)
          → Answers Takes book (line ∷ lines) (answer_of (decision book read) ∷ answers_from (book_past book read) lines)
          (book_after (book_past book read) lines)
      go (wrong number) refused others = faulty_line line number ((order_fault line number).0 refused) others
      go (right order) read others =
          read_line line order (taken_by book order.ready order.due) ((order_reads line order).0 read)
          ((takes book order.ready order.due (taken_by book order.ready order.due)).1 refl) others

  pub answered_exactly :
      (book : Book) (lines : List (List ℕ)) (answers : List Answer) (last : Book)
      → Answers Takes book lines answers last ↔ ((answers ≡ answers_from book lines) × (last ≡ book_after book lines))
  answered_exactly book lines answers last = (answered_to, λ same. rw (same.0, same.1) (answered_from book lines))

-- the answer to a line is what the book past the lines before it answers
answer_at :
    (book : Book) (front : List (List ℕ)) (line : List ℕ) (rest : List (List ℕ))
    → get_or (answers_from book (front ++ line ∷ rest)) (length front) No ≡ answer_of (decision (book_after book front) (order_of line))
unfolding answers_from book_after
answer_at book [] line rest = refl
answer_at book (one ∷ front) line rest = answer_at (book_past book (order_of one)) front line rest

-- a line that is read is answered as its order is
pub answer_reading :
    (book : Book) (front : List (List ℕ)) (line : List ℕ) (rest : List (List ℕ)) (order : Order) → order_of line ≡ right order
    → get_or (answers_from book (front ++ line ∷ rest)) (length front) No ≡ (taken_by (book_after book front) order.ready order.due).answer
answer_reading book front line rest order read = answer_at book front line rest ∙ ap (λ one. answer_of (decision (book_after book front) one)) read

-- and one that is not, by its fault
pub answer_at_fault :
    (book : Book) (front : List (List ℕ)) (line : List ℕ) (rest : List (List ℕ)) (number : ℕ) → order_of line ≡ wrong number
    → get_or (answers_from book (front ++ line ∷ rest)) (length front) No ≡ Refused number
answer_at_fault book front line rest number refused =
    answer_at book front line rest ∙ ap (λ one. answer_of (decision (book_after book front) one)) refused

-- an answer that is a refusal was decided as one
decided_refused : (choice : Read (Option Offer)) (number : ℕ) → answer_of choice ≡ Refused number → choice ≡ wrong number
decided_refused (wrong other) number e = cc
decided_refused (right None) number e = absurd (let z : ◌≡◌ {A = ℕ} 0 1 = cc in omega arith)
decided_refused (right (Some offer)) number e = absurd (let z : ◌≡◌ {A = ℕ} 0 1 = cc in omega arith)

-- A sound book refuses a line by 1 to 6, and is sound past it.
module _ (book : Book) (sound : Sound book) (line : List ℕ) where
  order_range : (ready due number : ℕ) → decided book ready due ≡ wrong number → (1 ≤ number) × (number ≤ 6)
  order_range ready due number refused =
      ⊎_elim (λ eight. absurd ((refused_by_eight book ready due).0 (refused ∙ ap wrong eight) sound))
      (⊎_elim (λ four. (omega arith, omega arith)) (⊎_elim (λ six. (omega arith, omega arith)) (λ five. (omega arith, omega arith))))
      (refused_by_no_other book ready due number refused)

  line_range : (read : Read Order) → order_of line ≡ read → (number : ℕ) → answer_of (decision book read) ≡ Refused number → (1 ≤ number) × (number ≤ 6)
  line_range (wrong other) refused number e =
      let same : ◌≡◌ {A = Read (Option Offer)} (wrong other) (wrong number) = decided_refused (wrong other) number e in
      let own = line_fault_from ((order_fault line number).0 (refused ∙ ap wrong (same_wrong same))) in
      (omega arith, omega arith)
  line_range (right order) read number e = order_range order.ready order.due number (decided_refused (decided book order.ready order.due) number e)

  sound_past : (read : Read Order) → Sound (book_past book read)
  sound_past (wrong number) = sound
  sound_past (right order) = stays_sound book order.ready order.due sound

-- so of any lines
pub refused_range :
    (book : Book) → Sound book → (lines : List (List ℕ)) (front : List Answer) (number : ℕ) (rest : List Answer)
    → answers_from book lines ≡ front ++ Refused number ∷ rest → (1 ≤ number) × (number ≤ 6)
unfolding answers_from
refused_range book sound [] [] number rest e = absurd (nil≢cons e)
refused_range book sound [] (answer ∷ front) number rest e = absurd (nil≢cons e)
refused_range book sound (line ∷ lines) [] number rest e = line_range book sound line (order_of line) refl number (head-eq_of_cons-eq e)
refused_range book sound (line ∷ lines) (answer ∷ front) number rest e =
    refused_range (book_past book (order_of line)) (sound_past book sound line (order_of line)) lines front number rest (tail-eq_of_cons-eq e)
