-- A buffer filled with the lines of a reply, as many whole ones as it has room for, and how far the reply has come then. Assumes nothing.
use Rattle.std.specs.Prelude.{ℕ, zero, suc, ◌-◌, ◌≤◌, ◌≡◌, Bool, true, false, not, cond, ◌&&◌, Option, None, Some, List, [], ◌++◌, length, leb, ltb}
use Rattle.ground.specs.Refusal.{Or, Read, wrong, right}
use Rattle.ground.specs.Buffer.{onto}
use Rattle.texts.specs.Lines.{line_at}
use Rattle.lines.specs.Reading.{order_of}
use Rattle.writer.specs.Line.{line_room}
use Rattle.book.specs.Taking.{answer_of}
use Rattle.book.specs.declared.Answer.TheVariants.{Refused}
use Rattle.orders.specs.Answers.{opening, decision, begun_by, progress_past}
use Rattle.orders.specs.declared.Progress.{Progress}
use Rattle.replies.specs.Replies.{reply_written, sum_line}
use Rattle.replies.specs.declared.Reply.{Reply}
use Rattle.replies.specs.declared.Filled.{Filled}

-- the bytes of a line to be written; none of one that cannot be
abbrev pub bytes_in : Read (List ℕ) → List ℕ
bytes_in (wrong number) = []
bytes_in (right line) = line

-- the reply to a list that was begun, and so to a text, of which no line is written yet
abbrev pub reply_from : Or (ℕ × Progress) Progress → Reply
reply_from (wrong refused) = record { refusal = Some refused.0; progress = refused.1; over = false }
reply_from (right progress) = record { refusal = None; progress = progress; over = false }

abbrev pub reply_begun : List ℕ → Reply
reply_begun text = reply_from (begun_by text (opening text))

-- a reply of which no line is left
abbrev pub finished : Reply → Reply
finished reply = record { refusal = reply.refusal; progress = reply.progress; over = true }

-- one that is past the line at its place
abbrev pub stepped : List ℕ → Reply → Reply
stepped text reply = record { refusal = reply.refusal; progress = progress_past text reply.progress; over = false }

-- the reply to the line at a place
abbrev pub step_due : List ℕ → Progress → Read (List ℕ)
step_due text progress = reply_written progress.line (answer_of (decision progress.book (order_of (line_at text progress.at))))

-- the next line of a reply: that of its refusal, else one for the line at its place, else the sum
abbrev pub line_by : List ℕ → Progress → Option ℕ → Read (List ℕ)
line_by text progress None =
    cond (ltb progress.at (length text)) (step_due text progress) (right (sum_line progress.book.taken progress.book.kept))
line_by text progress (Some number) = reply_written progress.line (Refused number)

unfoldable pub line_due : List ℕ → Reply → Read (List ℕ)
line_due text reply = line_by text reply.progress reply.refusal

-- the reply past it: "A bad first line prints `1→bad→N` and nothing more", and the sum is the last line
abbrev pub past_by : List ℕ → Reply → Option ℕ → Reply
past_by text reply None = cond (ltb reply.progress.at (length text)) (stepped text reply) (finished reply)
past_by text reply (Some number) = finished reply

unfoldable pub past_line_due : List ℕ → Reply → Reply
past_line_due text reply = past_by text reply reply.refusal

-- a line is left, and there is room for any line
abbrev pub may_go_on : Reply → ℕ → Bool
may_go_on reply room = not reply.over && leb line_room room

-- a line before what follows it
abbrev pub ahead : List ℕ → List ℕ × Reply → List ℕ × Reply
ahead line rest = (line ++ rest.0, rest.1)

-- the lines that so much room is filled with, at most so many of them, and the reply past them
unfoldable pub filling_up_to : ℕ → List ℕ → Reply → ℕ → List ℕ × Reply
filling_up_to zero text reply room = ([], reply)
filling_up_to (suc count) text reply room =
    cond (may_go_on reply room)
    (ahead (bytes_in (line_due text reply)) (filling_up_to count text (past_line_due text reply) (room - length (bytes_in (line_due text reply)))))
    ([], reply)

-- all of them: no text has as many lines as this
unfoldable pub filling : List ℕ → Reply → ℕ → List ℕ × Reply
filling text reply room = filling_up_to (suc (suc (length text))) text reply room

-- what filling a buffer comes to
pub record Fills (text : List ℕ) (reply : Reply) (buffer : List ℕ) (filled : Filled) (held : List ℕ) : Type 0 where
  pub counted : filled.length ≡ length (filling text reply (length buffer)).0
  pub inside : filled.length ≤ length buffer
  pub full : may_go_on filled.reply (length buffer - filled.length) ≡ false
  pub comes : filled.reply ≡ (filling text reply (length buffer)).1
  pub holds : held ≡ onto (filling text reply (length buffer)).0 buffer
