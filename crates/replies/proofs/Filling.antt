-- Laws of a buffer that is filled with the lines of a reply. Assumes nothing.
use Prim.Native.Nat.{ℕ, zero, suc, ◌+◌, ◌-◌, ◌≤◌, ◌<◌}
use mathlib.Core.Path.{◌≡◌, refl, sym, ap, ◌∙◌}
use mathlib.Core.Bool.{true, false, not}
use mathlib.Core.List.{List, [], ◌++◌, append_assoc, append-nil}
use lib.ListN.{length, take, drop, length-append, length-drop, drop_of_length-le}
use lib.Seq.{take_all, take-append_seam, drop-append_seam, drop-drop}
use lib.Dec.{leb, ltb}
use native.Mathlib.Omega.{arith}
use borrow.Rule.Slice.PartMut.{put_mid, mid_of}
use borrow.Author.Tests.{leb-true, leb-false, ltb-true, lt-ltb, le-ltb, le-leb}
use Rattle.std.specs.Prelude.{Option, None, Some}
use Rattle.ground.specs.Refusal.{Read, wrong, right}
use Rattle.ground.specs.Buffer.{onto, fitted, length_of, buffer_after}
use Rattle.ground.proofs.Tests.{by_test, never_both, second_of, not_met}
use Rattle.ground.proofs.Buffer.{rest_of_onto, length_of_onto}
use Rattle.writer.specs.Line.{line_room}
use Rattle.orders.proofs.Places.{moves_on}
use Rattle.texts.specs.Lines.{line_at}
use Rattle.lines.specs.Reading.{order_of}
use Rattle.book.specs.Taking.{answer_of}
use Rattle.book.specs.declared.Answer.TheVariants.{Refused}
use Rattle.book.proofs.Promises.{answer_told}
use Rattle.orders.specs.Answers.{decision, Stepped}
use Rattle.orders.specs.declared.Step.{Step}
use Rattle.replies.specs.Replies.{sum_line, reply_written}
use Rattle.replies.specs.Filling.{bytes_in, finished, line_due, past_by, past_line_due, may_go_on, ahead, filling_up_to, filling, Fills}
use Rattle.replies.specs.Steps.{count_in, LineBehind, left_of}
use Rattle.replies.specs.declared.Reply.{Reply}
use Rattle.replies.specs.declared.Filled.{Filled}

-- a line that has room is written whole, and one that cannot be written is left out
whole : (line : Read (List ℕ)) (buffer : List ℕ) → length (bytes_in line) ≤ length buffer → fitted buffer line ≡ line
unfolding fitted
whole (wrong number) buffer room = refl
whole (right bytes) buffer room = rw (le-leb (length bytes) (length buffer) room)

counts : (line : Read (List ℕ)) → count_in (length_of line) ≡ length (bytes_in line)
counts (wrong number) = refl
counts (right bytes) = refl

stands : (line : Read (List ℕ)) (buffer : List ℕ) → buffer_after buffer line ≡ onto (bytes_in line) buffer
unfolding onto
stands (wrong number) buffer = refl
stands (right bytes) buffer = refl

-- what the writing of a line comes to where there is room for it
pub counted_whole :
    (line : Read (List ℕ)) (buffer : List ℕ) → length (bytes_in line) ≤ length buffer → count_in (length_of (fitted buffer line)) ≡ length (bytes_in line)
counted_whole line buffer room = ap (λ one. count_in (length_of one)) (whole line buffer room) ∙ counts line

pub held_whole :
    (line : Read (List ℕ)) (buffer : List ℕ) → length (bytes_in line) ≤ length buffer → buffer_after buffer (fitted buffer line) ≡ onto (bytes_in line) buffer
held_whole line buffer room = ap (buffer_after buffer) (whole line buffer room) ∙ stands line buffer

-- the part of a buffer from a place to its end, and the buffer once that part came back
pub rest_of : (at : ℕ) (buffer : List ℕ) → mid_of at (length buffer - at) buffer ≡ drop at buffer
rest_of at buffer = take_all (length buffer - at) (drop at buffer) (omega (arith, length-drop at buffer))

pub rest_back :
    (at : ℕ) (buffer last : List ℕ) → at ≤ length buffer → put_mid at (length buffer - at) buffer last ≡ take at buffer ++ last
rest_back at buffer last inside =
    rw (drop_of_length-le (drop at buffer) {i = length buffer - at} (omega (arith, length-drop at buffer)), append-nil)

-- so a part from a place to the end that came back with a line at its front
pub part_back :
    (at : ℕ) (buffer line : List ℕ) {last : List ℕ} → at ≤ length buffer → last ≡ onto line (mid_of at (length buffer - at) buffer)
    → put_mid at (length buffer - at) buffer last ≡ take at buffer ++ onto line (drop at buffer)
part_back at buffer line {last} inside back =
    rest_back at buffer last inside ∙ ap (λ part. take at buffer ++ part) (back ∙ ap (onto line) (rest_of at buffer))

-- of a writing behind what a buffer is filled with
pub ruleset written_behind = (counted_whole, held_whole, rest_of, rest_back)

-- by the refusal of a reply
pub by_option : {A C : Type 0} (option : Option A) → (option ≡ None → C) → ((value : A) → option ≡ Some value → C) → C
by_option None none some = none refl
by_option (Some value) none some = some value refl

-- what is due of a list that does not begin, at a line of the text, and past its end; and the reply past it
module _ (text : List ℕ) (reply : Reply) where
  pub due_refused : (number : ℕ) → reply.refusal ≡ Some number → line_due text reply ≡ reply_written reply.progress.line (Refused number)
  unfolding line_due
  due_refused number refused = rw refused

  pub past_refused : (number : ℕ) → reply.refusal ≡ Some number → past_line_due text reply ≡ finished reply
  unfolding past_line_due
  past_refused number refused = ap (past_by text reply) refused

  pub due_answered :
      (step : Step) → reply.refusal ≡ None → reply.progress.at < length text → Stepped text reply.progress step
      → line_due text reply ≡ reply_written reply.progress.line step.answer
  unfolding line_due
  due_answered step begun inside stepped =
      rw (begun, lt-ltb reply.progress.at (length text) inside)
      (ap (reply_written reply.progress.line)
      (sym (answer_told step.answer (answer_of (decision reply.progress.book (order_of (line_at text reply.progress.at)))) stepped.said)))

  pub past_answered :
      (step : Step) → reply.refusal ≡ None → reply.progress.at < length text → Stepped text reply.progress step
      → past_line_due text reply ≡ record { refusal = reply.refusal; progress = step.progress; over = false }
  unfolding past_line_due
  past_answered step begun inside stepped =
      ap (past_by text reply) begun ∙ rw (lt-ltb reply.progress.at (length text) inside, stepped.next)

  pub due_summed :
      reply.refusal ≡ None → length text ≤ reply.progress.at
      → line_due text reply ≡ right (sum_line reply.progress.book.taken reply.progress.book.kept)
  unfolding line_due
  due_summed begun past = rw (begun, le-ltb reply.progress.at (length text) past)

  pub past_summed : reply.refusal ≡ None → length text ≤ reply.progress.at → past_line_due text reply ≡ finished reply
  unfolding past_line_due
  past_summed begun past = ap (past_by text reply) begun ∙ rw (le-ltb reply.progress.at (length text) past)

-- of the next line of a reply
pub ruleset next_lines = (due_refused, past_refused, due_answered, past_answered, due_summed, past_summed)

-- a line less is left past each line
pub falls : (text : List ℕ) (reply : Reply) → reply.over ≡ false → left_of text (past_line_due text reply) < left_of text reply
unfolding left_of past_line_due
falls text reply on =
    by_option reply.refusal
    (λ begun.
    by_test (ltb reply.progress.at (length text))
    (λ here.
    let inside : reply.progress.at < length text = ltb-true reply.progress.at (length text) here in
    rw (begun, here, on) (omega (arith, moves_on text reply.progress inside)))
    (λ past. rw (begun, past, on) (omega arith)))
    (λ number refused. rw (refused, on) (omega arith))

-- nothing is left to count of a reply that is over
none_left : (text : List ℕ) (reply : Reply) → left_of text reply ≤ 0 → reply.over ≡ true
unfolding left_of
none_left text reply none = by_test reply.over (λ over. over) (λ on. absurd (let left : suc (length text - reply.progress.at) ≤ 0 = rw on at none in omega arith))

-- a reply that goes on is not over, and there is room
pub is_on : (reply : Reply) (room : ℕ) → may_go_on reply room ≡ true → (reply.over ≡ false) × (line_room ≤ room)
is_on reply room on = (
  by_test reply.over (λ over. absurd (never_both on (rw over))) (λ failed. failed),
  leb-true line_room room (second_of (not reply.over) (leb line_room room) on),
)

-- where it stops nothing more is filled, however many lines may be
stops : (count : ℕ) (text : List ℕ) (reply : Reply) (room : ℕ) → may_go_on reply room ≡ false → filling_up_to count text reply room ≡ ([], reply)
unfolding filling_up_to
stops zero text reply room off = refl
stops (suc count) text reply room off = rw off

-- else a line is before what follows it
goes :
    (count : ℕ) (text : List ℕ) (reply : Reply) (room : ℕ) → may_go_on reply room ≡ true
    → filling_up_to (suc count) text reply room
    ≡ ahead (bytes_in (line_due text reply)) (filling_up_to count text (past_line_due text reply) (room - length (bytes_in (line_due text reply))))
unfolding filling_up_to
goes count text reply room on = rw on

-- and from as many lines on as are left at most, one more makes no difference
one_more :
    (count : ℕ) (text : List ℕ) (reply : Reply) (room : ℕ) → left_of text reply ≤ count
    → filling_up_to (suc count) text reply room ≡ filling_up_to count text reply room
one_more zero text reply room few = stops 1 text reply room (rw (none_left text reply few)) ∙ sym (stops 0 text reply room (rw (none_left text reply few)))
one_more (suc count) text reply room few =
    by_test (may_go_on reply room)
    (λ on.
    goes (suc count) text reply room on
    ∙ ap (ahead (bytes_in (line_due text reply)))
    (one_more count text (past_line_due text reply) (room - length (bytes_in (line_due text reply))) (omega (arith, falls text reply (is_on reply room on).0)))
    ∙ sym (goes count text reply room on))
    (λ off. stops (suc (suc count)) text reply room off ∙ sym (stops (suc count) text reply room off))

left_most : (text : List ℕ) (reply : Reply) → left_of text reply ≤ suc (length text)
unfolding left_of
left_most text reply = by_test reply.over (λ over. rw over (omega arith)) (λ on. rw on (omega arith))

-- so what is filled is nothing where it stops, else a line and what follows it
pub filling_done : (text : List ℕ) (reply : Reply) (room : ℕ) → may_go_on reply room ≡ false → filling text reply room ≡ ([], reply)
unfolding filling
filling_done text reply room = stops (suc (suc (length text))) text reply room

pub filling_on :
    (text : List ℕ) (reply : Reply) (room : ℕ) → may_go_on reply room ≡ true
    → filling text reply room
    ≡ ahead (bytes_in (line_due text reply)) (filling text (past_line_due text reply) (room - length (bytes_in (line_due text reply))))
unfolding filling
filling_on text reply room on =
    goes (suc (length text)) text reply room on
    ∙ ap (ahead (bytes_in (line_due text reply)))
    (sym
    (one_more (suc (length text)) text (past_line_due text reply) (room - length (bytes_in (line_due text reply)))
    (omega (arith, falls text reply (is_on reply room on).0, left_most text reply))))

-- How far the filling of a buffer has come: lines stand at its front, and those that follow are what is left to be filled.
pub record Filling (text buffer : List ℕ) (begun : Reply) (held : List ℕ) (filled : Filled) : Type 0 where
  pub front : List ℕ
  pub counted : filled.length ≡ length front
  pub inside : filled.length ≤ length buffer
  pub holds : held ≡ onto front buffer
  pub comes : filling text begun (length buffer) ≡ ahead front (filling text filled.reply (length buffer - filled.length))

-- at first nothing stands there
pub nothing_filled : (text buffer : List ℕ) (reply : Reply) → Filling text buffer reply buffer (record { length = 0; reply = reply })
unfolding onto
nothing_filled text buffer reply = let all : length buffer ≡ length buffer - 0 = omega arith in record { front = []; counted = refl; inside = omega arith; holds = refl; comes = ap (filling text reply) all }

-- the buffer keeps its length
pub held_length :
    (text buffer : List ℕ) {begun : Reply} {held : List ℕ} {filled : Filled} → Filling text buffer begun held filled → length held ≡ length buffer
held_length text buffer so_far = ap length so_far.holds ∙ length_of_onto so_far.front buffer (omega arith)

-- a line behind a text at the front of a buffer
onto_behind :
    (front line buffer : List ℕ) → take (length front) (onto front buffer) ++ onto line (drop (length front) (onto front buffer)) ≡ onto (front ++ line) buffer
unfolding onto
onto_behind front line buffer = rw (take-append_seam, drop-append_seam, drop-drop, append_assoc, length-append)

before_before : (front line : List ℕ) (rest : List ℕ × Reply) → ahead front (ahead line rest) ≡ ahead (front ++ line) rest
before_before front line rest = ap (λ text. (text, rest.1)) (sym (append_assoc front line rest.0))

-- a line more stands behind
pub line_more :
    (text buffer : List ℕ) {begun : Reply} {held after : List ℕ} {filled next : Filled} → Filling text buffer begun held filled
    → may_go_on filled.reply (length held - filled.length) ≡ true → LineBehind text filled held next after → Filling text buffer begun after next
line_more text buffer {begun} {held} {after} {filled} {next} so_far on put =
    let line = bytes_in (line_due text filled.reply) in
    let going : may_go_on filled.reply (length buffer - filled.length) ≡ true = rw (held_length text buffer so_far) at on in
    let room : line_room ≤ length buffer - filled.length = (is_on filled.reply (length buffer - filled.length) going).1 in
    let rest : length buffer - next.length ≡ length buffer - filled.length - length line = omega (arith, put.counted) in
    record {
      front = so_far.front ++ line;
      counted = simp length-append (omega (arith, put.counted));
      inside = omega (arith, put.counted, put.fits);
      holds = put.holds ∙ rw (so_far.counted, so_far.holds) (onto_behind so_far.front line buffer);
      comes =
          so_far.comes ∙ ap (ahead so_far.front) (filling_on text filled.reply (length buffer - filled.length) going)
          ∙ before_before so_far.front line (filling text (past_line_due text filled.reply) (length buffer - filled.length - length line)) ∙ rw (put.comes, rest);
    }

-- and where it stops the buffer is filled
pub filled_up :
    (text buffer : List ℕ) {begun : Reply} {held : List ℕ} {filled : Filled} → Filling text buffer begun held filled
    → may_go_on filled.reply (length held - filled.length) ≡ false → Fills text begun buffer filled held
filled_up text buffer {begun} {held} {filled} so_far off =
    let stopped : may_go_on filled.reply (length buffer - filled.length) ≡ false = rw (held_length text buffer so_far) at off in
    let all : filling text begun (length buffer) ≡ (so_far.front, filled.reply) =
    so_far.comes ∙ ap (ahead so_far.front) (filling_done text filled.reply (length buffer - filled.length) stopped)
    ∙ ap (λ text. (text, filled.reply)) (append-nil so_far.front) in
    record {
      counted = so_far.counted ∙ ap (λ outcome. length outcome.0) (sym all);
      inside = so_far.inside;
      full = stopped;
      comes = ap (λ outcome. outcome.1) (sym all);
      holds = so_far.holds ∙ ap (λ outcome. onto outcome.0 buffer) (sym all);
    }

-- no filling leaves more lines than there were, and one with room leaves fewer
no_more : (count : ℕ) (text : List ℕ) (reply : Reply) (room : ℕ) → left_of text (filling_up_to count text reply room).1 ≤ left_of text reply
unfolding filling_up_to
no_more zero text reply room = omega arith
no_more (suc count) text reply room =
    by_test (may_go_on reply room)
    (λ on.
    rw on
    (omega (
      arith,
      no_more count text (past_line_due text reply) (room - length (bytes_in (line_due text reply))),
      falls text reply (is_on reply room on).0,
    )))
    (λ off. rw off (omega arith))

pub going_on : (reply : Reply) (room : ℕ) → reply.over ≡ false → line_room ≤ room → may_go_on reply room ≡ true
going_on reply room on space = rw (on, le-leb line_room room space)

pub fewer_left :
    (text : List ℕ) (reply : Reply) (buffer : List ℕ) {filled : Filled} {held : List ℕ} → Fills text reply buffer filled held → reply.over ≡ false
    → line_room ≤ length buffer → left_of text filled.reply < left_of text reply
unfolding filling
fewer_left text reply buffer fills on space =
    let room = length buffer in
    rw (fills.comes, goes (suc (length text)) text reply room (going_on reply room on space))
    (omega (
      arith,
      no_more (suc (length text)) text (past_line_due text reply) (room - length (bytes_in (line_due text reply))),
      falls text reply on,
    ))

-- a reply that is over has fewer left than one that is not
pub none_of_some : (text : List ℕ) (reply next : Reply) → reply.over ≡ false → next.over ≡ true → left_of text next < left_of text reply
unfolding left_of
none_of_some text reply next on over = rw (on, over) (omega arith)

-- every byte behind the piece stays
pub fill_stays :
    (text : List ℕ) {reply : Reply} {buffer held : List ℕ} {filled : Filled} → Fills text reply buffer filled held
    → (filled.length ≤ length buffer) × (drop filled.length held ≡ drop filled.length buffer) × (length held ≡ length buffer)
fill_stays text {reply} {buffer} fills =
    let piece = (filling text reply (length buffer)).0 in (
      fills.inside,
      rw (fills.counted, fills.holds) (rest_of_onto piece buffer),
      ap length fills.holds ∙ length_of_onto piece buffer (omega (arith, fills.inside, fills.counted)),
    )

-- where it does not go on nothing is filled
pub fill_nothing :
    (text : List ℕ) {reply : Reply} {buffer held : List ℕ} {filled : Filled} → Fills text reply buffer filled held → may_go_on reply (length buffer) ≡ false
    → (filled.length ≡ 0) × (filled.reply ≡ reply) × (held ≡ buffer)
unfolding onto
fill_nothing text {reply} {buffer} fills off =
    let none = filling_done text reply (length buffer) off in (
      fills.counted ∙ ap (λ outcome. length outcome.0) none,
      fills.comes ∙ ap (λ outcome. outcome.1) none,
      fills.holds ∙ ap (λ outcome. onto outcome.0 buffer) none,
    )

pub no_room : (reply : Reply) (room : ℕ) → room < line_room → may_go_on reply room ≡ false
no_room reply room short = not_met (λ on. omega (arith, (is_on reply room on).1))

-- and it stops only for want of room where a line is left
pub fill_full :
    (text : List ℕ) {reply : Reply} {buffer held : List ℕ} {filled : Filled} → Fills text reply buffer filled held → filled.reply.over ≡ false
    → length buffer < filled.length + line_room
fill_full text {reply} {buffer} {held} {filled} fills on =
    by_test (leb line_room (length buffer - filled.length))
    (λ space.
    let room = leb-true line_room (length buffer - filled.length) space in
    absurd (never_both (going_on filled.reply (length buffer - filled.length) on room) fills.full))
    (λ short. omega (arith, leb-false line_room (length buffer - filled.length) short, fills.inside))

-- of a buffer that is filled line by line
pub ruleset filled_on = (nothing_filled, falls, is_on, line_more)
