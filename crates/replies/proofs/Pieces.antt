-- The pieces that a reply is written out by, joined, are the reply. Assumes nothing.
use Prim.Native.Nat.{ℕ, zero, suc, ◌-◌, ◌≤◌, ◌<◌}
use mathlib.Core.Path.{◌≡◌, refl, sym, ap, ◌∙◌}
use mathlib.Core.Bool.{true, false, cond}
use mathlib.Core.List.{List, [], ◌∷◌, ◌++◌, append_assoc, append-nil}
use lib.ListN.{length, take, length-append}
use lib.Dec.{ltb}
use native.Mathlib.Omega.{arith}
use borrow.Author.Tests.{ltb-true, ltb-false, le-leb}
use Rattle.std.specs.Prelude.{Option, None, Some}
use Rattle.std.proofs.lemmas.Option.{none-some}
use Rattle.ground.specs.Refusal.{Read, wrong, right}
use Rattle.ground.specs.Limits.{last_hour}
use Rattle.ground.proofs.Tests.{by_test}
use Rattle.ground.proofs.Buffer.{front_of_onto}
use Rattle.texts.specs.Meaning.{joined, AreLines}
use Rattle.texts.specs.Lines.{line_at}
use Rattle.lines.specs.Reading.{order_of}
use Rattle.lines.specs.declared.Order.{Order}
use Rattle.writer.specs.Line.{line_room}
use Rattle.std.specs.Prelude.{Option, Some, None}
use Rattle.choice.specs.declared.Offer.{Offer}
use Rattle.book.specs.Taking.{decided, answer_of}
use Rattle.book.specs.declared.Book.{Book}
use Rattle.book.specs.declared.Answer.{Answer}
use Rattle.book.specs.declared.Answer.TheVariants.{Refused}
use Rattle.book.proofs.Promises.{start_in_time, yes_exactly}
use Rattle.orders.specs.Answers.{opening, decision, begun_by, refused_line}
use Rattle.orders.specs.declared.Progress.{Progress}
use Rattle.replies.specs.Replies.{reply_line, sum_line, start_in_range, reply_written, replies_by, reply_of}
use Rattle.replies.specs.Filling.{bytes_in, reply_from, reply_begun, line_due, past_line_due, may_go_on, filling_up_to, filling, Fills}
use Rattle.replies.specs.Meaning.{WrittenOut, nothing_more, a_piece}
use Rattle.replies.specs.declared.Reply.{Reply}
use Rattle.replies.specs.declared.Filled.{Filled}
use Rattle.replies.proofs.ReplyText.{reply_is, sum_is}
use Rattle.replies.proofs.Filling.{by_option, is_on, going_on, filling_on}
use Rattle.replies.proofs.Walking.{due, Counted, due_over, due_on, counted_on, begun_counted, begun_due}

-- every start that a book gives is an hour
chosen_in_range : (book : Book) (ready deadline : ℕ) (choice : Read (Option Offer)) → decided book ready deadline ≡ choice → start_in_range (answer_of choice) ≡ true
chosen_in_range book ready deadline (wrong number) same = refl
chosen_in_range book ready deadline (right None) same = refl
chosen_in_range book ready deadline (right (Some offer)) same =
    let timely = start_in_time book ready deadline offer.chamber offer.start same in
    let admitted = ((yes_exactly book ready deadline offer.chamber offer.start).0 same).0 in
    le-leb offer.start last_hour (omega (arith, timely, admitted.due_most))

pub start_in_range_lem : (book : Book) (order : Read Order) → start_in_range (answer_of (decision book order)) ≡ true
start_in_range_lem book (wrong number) = refl
start_in_range_lem book (right order) = chosen_in_range book order.ready order.due (decided book order.ready order.due) refl

-- so that its reply is written
pub step_written :
    (line : ℕ) (book : Book) (order : Read Order) → reply_written line (answer_of (decision book order)) ≡ right (reply_line line (answer_of (decision book order)))
unfolding reply_written
step_written line book order = rw (start_in_range_lem book order)

pub refusal_written : (line number : ℕ) → reply_written line (Refused number) ≡ right (reply_line line (Refused number))
unfolding reply_written
refusal_written line number = refl

-- every line has a byte at least
reply_some : (line : ℕ) (answer : Answer) → 1 ≤ length (reply_line line answer)
unfolding reply_line
reply_some line answer = simp length-append (omega arith)

sum_some : (taken kept : ℕ) → 1 ≤ length (sum_line taken kept)
unfolding sum_line
sum_some taken kept = simp length-append (omega arith)

module _ (text : List ℕ) where
  -- the bytes of a reply that are left to be written
  abbrev pub out_by : Progress → Option ℕ → List ℕ
  out_by progress None = joined (due text progress)
  out_by progress (Some number) = reply_line progress.line (Refused number)

  unfoldable pub out_of : Reply → List ℕ
  out_of reply = cond reply.over [] (out_by reply.progress reply.refusal)

  -- the lines that are left of a list that begins all have numbers
  unfoldable pub Numbered : Reply → Type 0
  Numbered reply = reply.refusal ≡ None → Counted text reply.progress

  -- the next line, and what is left past it
  line_out :
      (reply : Reply) → reply.over ≡ false → Numbered reply
      → (bytes_in (line_due text reply) ++ out_of (past_line_due text reply) ≡ out_of reply) × Numbered (past_line_due text reply) × (1 ≤ length (bytes_in (line_due text reply)))
  unfolding out_of Numbered line_due past_line_due joined
  line_out reply on numbered =
      by_option reply.refusal
      (λ begun.
      by_test (ltb reply.progress.at (length text))
      (λ here.
      let inside : reply.progress.at < length text = ltb-true reply.progress.at (length text) here in
      let counted = numbered begun in
      rw (on, begun, here, step_written reply.progress.line reply.progress.book (order_of (line_at text reply.progress.at)), due_on text reply.progress inside counted)
      (refl, (λ again. counted_on text reply.progress inside counted), reply_some reply.progress.line _))
      (λ past.
      rw (on, begun, past, due_over text reply.progress (ltb-false reply.progress.at (length text) past))
      (refl, (λ again. numbered begun), sum_some reply.progress.book.taken reply.progress.book.kept)))
      (λ number refused.
      rw (on, refused, refusal_written reply.progress.line number)
      (append-nil (reply_line reply.progress.line (Refused number)), (λ begun. absurd (none-some number (sym begun))), reply_some reply.progress.line _))

  -- what is filled, and what is left past it
  filled_out :
      (count : ℕ) (reply : Reply) (room : ℕ) → Numbered reply
      → ((filling_up_to count text reply room).0 ++ out_of (filling_up_to count text reply room).1 ≡ out_of reply) × Numbered (filling_up_to count text reply room).1
  unfolding filling_up_to
  filled_out zero reply room numbered = (refl, numbered)
  filled_out (suc count) reply room numbered =
      by_test (may_go_on reply room)
      (λ on.
      let line = bytes_in (line_due text reply) in
      let next = line_out reply (is_on reply room on).0 numbered in
      let rest = filled_out count (past_line_due text reply) (room - length line) next.1 in
      rw on (append_assoc line _ _ ∙ ap (λ bytes. line ++ bytes) rest.0 ∙ next.0, rest.1))
      (λ off. rw off (refl, numbered))

  -- the next line is a line, whatever the state
  line_due_is : (reply : Reply) {lines : List (List ℕ)} → AreLines lines → AreLines (bytes_in (line_due text reply) ∷ lines)
  unfolding line_due
  line_due_is reply are =
      by_option reply.refusal
      (λ begun.
      by_test (ltb reply.progress.at (length text))
      (λ here.
      rw (begun, here, step_written reply.progress.line reply.progress.book (order_of (line_at text reply.progress.at)))
      (reply_is reply.progress.line _ are))
      (λ past. rw (begun, past) (sum_is reply.progress.book.taken reply.progress.book.kept are)))
      (λ number refused. rw (refused, refusal_written reply.progress.line number) (reply_is reply.progress.line _ are))

  -- so what is filled is whole lines: other lines may follow them
  filled_lines :
      (count : ℕ) (reply : Reply) (room : ℕ)
      → (lines : List (List ℕ)) × (joined lines ≡ (filling_up_to count text reply room).0)
      × ((others : List (List ℕ)) → AreLines others → AreLines (lines ++ others))
  unfolding filling_up_to joined
  filled_lines zero reply room = ([], refl, λ others are. are)
  filled_lines (suc count) reply room =
      by_test (may_go_on reply room)
      (λ on.
      let line = bytes_in (line_due text reply) in
      let rest = filled_lines count (past_line_due text reply) (room - length line) in
      rw on (line ∷ rest.0, ap (λ bytes. line ++ bytes) rest.1, λ others are. line_due_is reply (rest.2 others are)))
      (λ off. rw off ([], refl, λ others are. are))

  -- before any line is written the whole reply is left
  pub all_left : out_of (reply_begun text) ≡ reply_of text
  unfolding out_of reply_of joined
  all_left = by_opening (opening text)
    where
      by_opening : (begun : Read Book) → out_of (reply_from (begun_by text begun)) ≡ joined (replies_by text begun)
      by_opening (wrong number) = sym (append-nil (reply_line (refused_line number) (Refused number)))
      by_opening (right book) = ap joined (begun_due text book)

  -- and its lines all have numbers
  pub begun_numbered : Numbered (reply_begun text)
  unfolding Numbered
  begun_numbered = by_opening (opening text) refl
    where
      by_opening :
          (begun : Read Book) → opening text ≡ begun → (reply_from (begun_by text begun)).refusal ≡ None
          → Counted text (reply_from (begun_by text begun)).progress
      by_opening (wrong number) refused none = absurd (none-some number (sym none))
      by_opening (right book) begun none = begun_counted text book begun

  -- a buffer that is filled: its piece and what is left are what was left, and where there is room a piece is not empty
  module _ {reply : Reply} {buffer held : List ℕ} {filled : Filled} (fills : Fills text reply buffer filled held) where
    pub piece_is : take filled.length held ≡ (filling text reply (length buffer)).0
    piece_is = rw (fills.holds, fills.counted) (front_of_onto (filling text reply (length buffer)).0 buffer)

    pub piece_lines :
        (lines : List (List ℕ)) × (joined lines ≡ take filled.length held) × ((others : List (List ℕ)) → AreLines others → AreLines (lines ++ others))
    unfolding filling
    piece_lines = rw piece_is (filled_lines (suc (suc (length text))) reply (length buffer))

    pub piece_out : Numbered reply → take filled.length held ++ out_of filled.reply ≡ out_of reply
    unfolding filling
    piece_out numbered = rw (piece_is, fills.comes) (filled_out (suc (suc (length text))) reply (length buffer) numbered).0

    pub next_numbered : Numbered reply → Numbered filled.reply
    unfolding filling
    next_numbered numbered = rw fills.comes (filled_out (suc (suc (length text))) reply (length buffer) numbered).1

    pub piece_some : Numbered reply → reply.over ≡ false → line_room ≤ length buffer → 1 ≤ length (take filled.length held)
    piece_some numbered on room =
        rw (piece_is, filling_on text reply (length buffer) (going_on reply (length buffer) on room))
        (simp length-append (omega (arith, (line_out reply on numbered).2)))

  -- the pieces joined, and what is left, are what was left; and there are no more pieces than bytes
  module _ (Fill : Reply → List ℕ → Filled → List ℕ → Type 0)
      (filling_said : (reply : Reply) (buffer : List ℕ) (filled : Filled) (held : List ℕ) → Fill reply buffer filled held → Fills text reply buffer filled held) where
    pub pieces_out :
        {reply end : Reply} {pieces : List (List ℕ)} → Numbered reply → WrittenOut Fill reply pieces end → joined pieces ++ out_of end ≡ out_of reply
    unfolding joined
    pieces_out numbered (nothing_more reply) = refl
    pieces_out numbered (a_piece reply end buffer held filled pieces on room fill more) =
        append_assoc (take filled.length held) (joined pieces) (out_of end)
        ∙ ap (λ rest. take filled.length held ++ rest) (pieces_out (next_numbered (filling_said reply buffer filled held fill) numbered) more)
        ∙ piece_out (filling_said reply buffer filled held fill) numbered

    pub pieces_few :
        {reply end : Reply} {pieces : List (List ℕ)} → Numbered reply → WrittenOut Fill reply pieces end → length pieces ≤ length (joined pieces)
    unfolding joined
    pieces_few numbered (nothing_more reply) = omega arith
    pieces_few numbered (a_piece reply end buffer held filled pieces on room fill more) =
        simp length-append
        (omega (arith, piece_some (filling_said reply buffer filled held fill) numbered on room, pieces_few (next_numbered (filling_said reply buffer filled held fill) numbered) more))

  -- nothing is left of a reply that is over
  pub out_over : (reply : Reply) → reply.over ≡ true → out_of reply ≡ []
  unfolding out_of
  out_over reply over = rw over
