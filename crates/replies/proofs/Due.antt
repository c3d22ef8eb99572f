-- The lines that a buffer is filled with, from whatever state of a reply: each is the next that is due. Assumes nothing.
use Prim.Native.Nat.{ℕ, zero, suc, ◌-◌, ◌<◌}
use mathlib.Core.Path.{◌≡◌, refl, sym, ap, ◌∙◌}
use mathlib.Core.Bool.{false}
use mathlib.Core.List.{List, [], ◌∷◌, ◌++◌}
use lib.ListN.{length, take, length-append}
use lib.Dec.{ltb}
use native.Mathlib.Omega.{arith}
use borrow.Author.Tests.{ltb-true, ltb-false}
use Rattle.ground.proofs.Tests.{by_test, never_both}
use Rattle.texts.specs.Lines.{line_at}
use Rattle.texts.specs.Meaning.{joined}
use Rattle.lines.specs.Reading.{order_of}
use Rattle.book.specs.Taking.{answer_of}
use Rattle.orders.specs.Answers.{decision, order_in, progress_past, Stepped}
use Rattle.orders.specs.declared.Progress.{Progress}
use Rattle.orders.specs.declared.Step.{Step}
use Rattle.replies.specs.Filling.{bytes_in, line_due, past_line_due, may_go_on, filling_up_to, filling, Fills}
use Rattle.replies.specs.Meaning.{NextLine, of_refusal, of_answer, of_sum, FilledWith, stops, goes_on}
use Rattle.replies.specs.declared.Reply.{Reply}
use Rattle.replies.specs.declared.Filled.{Filled}
use Rattle.replies.proofs.Fields.{reply_fields, sum_fields}
use Rattle.replies.proofs.Filling.{due_refused, past_refused, due_answered, past_answered, due_summed, past_summed, by_option, is_on, going_on}
use Rattle.replies.proofs.Pieces.{start_in_range_lem, step_written, refusal_written, piece_is}

-- the step at a place of a list
abbrev pub step_at : List ℕ → Progress → Step
step_at text progress =
    let order = order_of (line_at text progress.at) in
    record { order = order_in order; answer = answer_of (decision progress.book order); progress = progress_past text progress }

-- before any line all of the room is left
whole_room : (room : ℕ) → room - 0 ≡ room
whole_room room = omega arith

module _ (text : List ℕ) (Steps : Progress → Step → Type 0) (steps : (progress : Progress) → Steps progress (step_at text progress)) where
  -- the line that is due is the next
  next_due : (reply : Reply) → NextLine text Steps reply (bytes_in (line_due text reply)) (past_line_due text reply)
  next_due reply =
      by_option reply.refusal
      (λ begun.
      by_test (ltb reply.progress.at (length text))
      (λ here.
      let inside : reply.progress.at < length text = ltb-true reply.progress.at (length text) here in
      let step = step_at text reply.progress in
      let stepped : Stepped text reply.progress step = record { read = refl; said = refl; next = refl } in
      let order = order_of (line_at text reply.progress.at) in
      rw (
        due_answered text reply step begun inside stepped,
        past_answered text reply step begun inside stepped,
        step_written reply.progress.line reply.progress.book order,
      )
      (of_answer _ step begun inside (steps reply.progress)
      (reply_fields reply.progress.line step.answer (start_in_range_lem reply.progress.book order))))
      (λ past.
      let ended = ltb-false reply.progress.at (length text) past in
      rw (due_summed text reply begun ended, past_summed text reply begun ended)
      (of_sum _ begun ended (sum_fields reply.progress.book.taken reply.progress.book.kept))))
      (λ number refused.
      rw (due_refused text reply number refused, past_refused text reply number refused, refusal_written reply.progress.line number)
      (of_refusal _ number refused (reply_fields reply.progress.line _ refl)))

  -- so those that room is filled with are, where it is filled up
  filled_with :
      (count : ℕ) (reply : Reply) (room : ℕ)
      → may_go_on (filling_up_to count text reply room).1 (room - length (filling_up_to count text reply room).0) ≡ false
      → (lines : List (List ℕ)) × (joined lines ≡ (filling_up_to count text reply room).0)
      × FilledWith text Steps reply room lines (filling_up_to count text reply room).1
  unfolding filling_up_to joined
  filled_with zero reply room full =
      ([], refl, stops reply room (λ on space. never_both (going_on reply room on space) (rw (whole_room room) at full)))
  filled_with (suc count) reply room full =
      by_test (may_go_on reply room)
      (λ on.
      let line = bytes_in (line_due text reply) in
      let rest = filling_up_to count text (past_line_due text reply) (room - length line) in
      let left : room - length (line ++ rest.0) ≡ room - length line - length rest.0 = simp length-append (omega arith) in
      let filled = filled_with count (past_line_due text reply) (room - length line) (ap (may_go_on rest.1) (sym left) ∙ (rw on at full)) in
      rw on (
        line ∷ filled.0,
        ap (λ bytes. line ++ bytes) filled.1,
        goes_on reply (past_line_due text reply) rest.1 room line filled.0 (is_on reply room on).0 (is_on reply room on).1 (next_due reply) filled.2,
      ))
      (λ off. rw off ([], refl, stops reply room (λ on space. never_both (going_on reply room on space) off)))

  -- a buffer
  pub filled_lines :
      {reply : Reply} {buffer held : List ℕ} {filled : Filled} → Fills text reply buffer filled held
      → (lines : List (List ℕ)) × (joined lines ≡ take filled.length held) × FilledWith text Steps reply (length buffer) lines filled.reply
  unfolding filling
  filled_lines {reply} {buffer} fills =
      let full = rw (fills.comes, fills.counted) at fills.full in
      rw (piece_is text fills, fills.comes) (filled_with (suc (suc (length text))) reply (length buffer) full)
