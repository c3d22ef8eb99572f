-- What is due at each place of a list: the replies to its lines from there on, and the sum. Assumes nothing.
use Prim.Native.Nat.{ℕ, suc, ◌+◌, ◌≤◌, ◌<◌}
use mathlib.Core.Path.{◌≡◌, refl, ap}
use mathlib.Core.List.{List, [], ◌∷◌}
use lib.ListN.{length, drop, length-drop}
use native.Mathlib.Omega.{arith}
use Rattle.ground.specs.Refusal.{right}
use Rattle.texts.specs.Lines.{lines_of, line_at, past_line}
use Rattle.lines.specs.Reading.{order_of}
use Rattle.texts.proofs.WholeText.{lines_within}
use Rattle.texts.proofs.Promises.{walk_on, walk_done}
use Rattle.book.specs.Taking.{answer_of}
use Rattle.book.specs.declared.Book.{Book}
use Rattle.orders.specs.Answers.{opening, answers_from, book_after, decision, book_past, order_lines, begun_with, progress_past}
use Rattle.orders.specs.Steps.{last_line, line_after}
use Rattle.replies.specs.Replies.{reply_line, sum_line, numbered, replies_from}
use Rattle.orders.specs.declared.Progress.{Progress}
use Rattle.orders.proofs.Places.{begun_left}
use Rattle.orders.proofs.Beginning.{opened_within}

-- one line more, and one reply
replies_more :
    (line : ℕ) (book : Book) (text : List ℕ) (lines : List (List ℕ))
    → replies_from line book (text ∷ lines)
    ≡ reply_line line (answer_of (decision book (order_of text))) ∷ replies_from (suc line) (book_past book (order_of text)) lines
unfolding replies_from numbered answers_from book_after
replies_more line book text lines = refl

-- none more, and the sum
replies_none : (line : ℕ) (book : Book) → replies_from line book [] ≡ sum_line book.taken book.kept ∷ []
unfolding replies_from numbered answers_from book_after
replies_none line book = refl

module _ (text : List ℕ) where
  -- the lines from the place of a progress on
  unfoldable pub left : Progress → List (List ℕ)
  left progress = lines_of (drop progress.at text)

  -- what it replies to them
  unfoldable pub due : Progress → List (List ℕ)
  due progress = replies_from progress.line progress.book (left progress)

  -- every line that is left has a number
  unfoldable pub Counted : Progress → Type 0
  Counted progress = progress.line + length (left progress) ≤ last_line

  -- at the end nothing but the sum is due
  pub due_over : (progress : Progress) → length text ≤ progress.at → due progress ≡ sum_line progress.book.taken progress.book.kept ∷ []
  unfolding due left
  due_over progress past = rw (walk_done text progress.at past).0 (replies_none progress.line progress.book)

  -- before it a line is left, then those past it
  pub left_on : (progress : Progress) → progress.at < length text → left progress ≡ line_at text progress.at ∷ left (progress_past text progress)
  unfolding left
  left_on progress inside = walk_on text progress.at inside

  pub counted_on : (progress : Progress) → progress.at < length text → Counted progress → Counted (progress_past text progress)
  unfolding Counted
  counted_on progress inside counted = omega (arith, counted, ap length (left_on progress inside))

  -- and its reply is due before what is due past it
  pub due_on :
      (progress : Progress) → progress.at < length text → Counted progress
      → due progress
      ≡ reply_line progress.line (answer_of (decision progress.book (order_of (line_at text progress.at)))) ∷ due (progress_past text progress)
  unfolding due left Counted
  due_on progress inside counted =
      let next : line_after progress.line ≡ suc progress.line = omega (arith, counted, ap length (left_on progress inside)) in
      rw (left_on progress inside, next) (replies_more progress.line progress.book (line_at text progress.at) (left (progress_past text progress)))

  -- from its beginning on
  pub begun_counted : (book : Book) → opening text ≡ right book → Counted (begun_with text book)
  unfolding left Counted
  begun_counted book begun =
      let few : length (lines_of (drop (past_line text 0) text)) ≤ length text =
      omega (arith, lines_within (drop (past_line text 0) text), length-drop (past_line text 0) text) in
      omega (arith, few, opened_within text book begun)

  pub begun_due : (book : Book) → due (begun_with text book) ≡ replies_from 2 book (order_lines text)
  unfolding due left
  begun_due book = rw begun_left
