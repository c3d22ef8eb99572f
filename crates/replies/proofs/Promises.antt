-- What this room promises, of the answers themselves and of the definitions that its contracts cite.
-- Each is a line over a law of this folder or of the writer. Assumes nothing.
use Prim.Native.Nat.{ℕ, suc, ◌+◌, ◌≤◌, ◌<◌}
use mathlib.Core.Path.{◌≡◌, refl, sym, ap, ◌∙◌}
use mathlib.Core.Bool.{true, false}
use mathlib.Core.List.{List, [], ◌∷◌, ◌++◌, append-nil}
use mathlib.Core.Logic.{◌↔◌}
use lib.ListN.{length, take, drop, get_or, length-append}
use native.Mathlib.Omega.{arith}
use borrow.Author.Tests.{leb-true, le-leb}
use contract.Lifetimes.{Lfts}
use denote.Bor.{Bor}
use denote.MutBor.{MutBor}
use Rattle.std.specs.Prelude.{Result, Ok, Err, None, Some}
use Rattle.ground.specs.Refusal.{Or, Read, wrong, right, refusal_number}
use Rattle.ground.specs.Outcome.{Single}
use Rattle.ground.proofs.Outcome.{single_value}
use Rattle.texts.specs.Lines.{lines_of, line_at}
use Rattle.texts.specs.Meaning.{joined, AreLines}
use Rattle.texts.proofs.Lines.{past_is}
use Rattle.texts.proofs.Promises.{lines_only}
use Rattle.lines.specs.Meaning.{HeadingFault}
use Rattle.lines.specs.declared.Order.{Order}
use Rattle.writer.specs.Meaning.{Writes}
use Rattle.writer.specs.declared.Written.{Written}
use Rattle.writer.proofs.Answers as answers
use Rattle.book.specs.declared.Book.{Book}
use Rattle.book.specs.Taking.{answer_of}
use Rattle.book.specs.declared.Answer.{Answer}
use Rattle.book.specs.declared.Answer.TheVariants.{Yes, No, Refused}
use Rattle.orders.specs.Answers.{book_for, opening, order_lines, answers_from, book_after, decision, yeses, refused_line, as_begun, begun_by}
use Rattle.lines.specs.declared.Heading.{Heading}
use Rattle.orders.specs.Meaning.{CleanList}
use Rattle.orders.proofs.Promises.{clean_exactly, refused_empty}
use Rattle.orders.proofs.Beginning.{refused_by_nine}
use Rattle.orders.proofs.begin.Reads as begin_list
use Rattle.orders.proofs.next.Reads as next
use Rattle.orders.specs.declared.NotBegun.{NotBegun}
use Rattle.orders.specs.declared.Progress.{Progress}
use Rattle.orders.specs.declared.Step.{Step}
use Rattle.replies.specs.Replies.{reply_line, sum_line, reply_written, start_in_range, numbered, replies_by, reply_of}
use Rattle.replies.specs.Filling.{reply_from, reply_begun, Fills}
use Rattle.replies.specs.Meaning.{ReplyTo, SumOf, StartsPastLast, WrittenOut, FilledWith}
use Rattle.replies.specs.declared.Reply.{Reply}
use Rattle.replies.specs.declared.Filled.{Filled}
use Rattle.replies.proofs.Replying as replying
use Rattle.replies.proofs.Fields as fields
use Rattle.replies.proofs.Filling as filling
use Rattle.replies.proofs.Whole as whole
use Rattle.replies.proofs.Room as room
use Rattle.replies.proofs.Sums as sums
use Rattle.replies.proofs.ReplyText as texts
use Rattle.replies.proofs.Pieces as out
use Rattle.replies.proofs.Due as due
use Rattle.replies.proofs.write_answer.Reads as write_answer
use Rattle.replies.proofs.write_sum.Reads as write_sum
use Rattle.replies.proofs.begin.Reads as begin
use Rattle.replies.proofs.fill.Reads as fill

-- the fields of a reply line are the line number, the word and the numbers, each spelled
pub reply_line_says : (line : ℕ) (answer : Answer) → (StartsPastLast answer → ⊥) → ReplyTo line answer (reply_line line answer)
reply_line_says line answer never = fields.reply_fields line answer (replying.in_range_lem answer never)

-- and so are those of the sum
pub sum_line_says : (taken kept : ℕ) → SumOf taken kept (sum_line taken kept)
sum_line_says = fields.sum_fields

-- a text is the reply to one line, with one answer, so that lines of different numbers or answers differ; and one sum
pub reply_line_once :
    (text : List ℕ) (line other_line : ℕ) (answer other : Answer) → ReplyTo line answer text → ReplyTo other_line other text → (line ≡ other_line) × (answer ≡ other)
reply_line_once = fields.reply_once

pub sum_line_once :
    (text : List ℕ) (taken kept other_taken other_kept : ℕ) → SumOf taken kept text → SumOf other_taken other_kept text
    → (taken ≡ other_taken) × (kept ≡ other_kept)
sum_line_once = fields.sum_once

-- every start that a book gives to an order line is an hour
pub starts_are_hours :
    (book : Book) (order : Read Order) (chamber start : ℕ) → answer_of (decision book order) ≡ Yes chamber start → start ≤ 999_999
starts_are_hours book order chamber start same = leb-true start 999_999 (rw same at (out.start_in_range_lem book order))

-- the test of an answer that can be written
pub start_tested : (chamber start : ℕ) → (start_in_range (Yes chamber start) ≡ true) ↔ (start ≤ 999_999)
start_tested chamber start = (leb-true start 999_999, le-leb start 999_999)

pub no_start_tested : (number : ℕ) → (start_in_range No ≡ true) × (start_in_range (Refused number) ≡ true)
no_start_tested number = (refl, refl)

-- every text has its reply: one that is longer than 65,536 bytes the line 0, bad, 9 and nothing more
pub too_long_reply : (text : List ℕ) → 65_536 < length text → ReplyTo 0 (Refused 9) (reply_of text)
too_long_reply text long = whole.refused_reply text 9 ((refused_by_nine text).1 long)

-- one whose first line is at fault the line 1, bad and the number of that fault
pub first_line_reply :
    (text : List ℕ) (number : ℕ) → length text ≤ 65_536 → HeadingFault (line_at text 0) number → ReplyTo 1 (Refused number) (reply_of text)
first_line_reply text number within fault = whole.faulty_reply text number within fault

-- so the empty text has the line 1, bad, 1
pub empty_reply : ReplyTo 1 (Refused 1) (reply_of [])
empty_reply = whole.refused_reply [] 1 refused_empty

-- any other the line 2 + k for the k-th line behind the first, k from 0, with its answer, and behind them the sum of taken and kept of
-- the book past them all
pub list_reply :
    (text : List ℕ) (book : Book) → opening text ≡ right book
    → (replies : List (List ℕ)) × (sum : List ℕ) × (lines_of (reply_of text) ≡ replies ++ sum ∷ []) × (length replies ≡ length (order_lines text))
    × ((place : ℕ) → place < length (order_lines text) → ReplyTo (2 + place) (get_or (answers_from book (order_lines text)) place No) (get_or replies place []))
    × SumOf (book_after book (order_lines text)).taken (book_after book (order_lines text)).kept sum
list_reply text book begun = whole.list_reply text book begun

-- each of its lines has room in 48 bytes
pub every_line_fits : (text : List ℕ) (book : Book) → opening text ≡ right book → (place : ℕ) → length (get_or (lines_of (reply_of text)) place []) ≤ 48
every_line_fits = room.every_line_fits

-- so the reply has as many lines as the text
pub as_many_lines :
    (text : List ℕ) (book : Book) → opening text ≡ right book → (lines : List (List ℕ)) → AreLines lines → joined lines ≡ text
    → length (lines_of (reply_of text)) ≡ length lines
as_many_lines text book begun lines are same = whole.as_many_lines text book begun ∙ ap length (ap lines_of (sym same) ∙ lines_only lines are)

-- the lines of the whole reply are these replies
pub reply_lines : (text : List ℕ) → lines_of (reply_of text) ≡ replies_by text (opening text)
reply_lines = texts.reply_lines

-- a list that begins has a reply for each line after the first, and the sum
pub replies_counted : (text : List ℕ) (book : Book) → opening text ≡ right book → length (lines_of (reply_of text)) ≡ suc (length (order_lines text))
replies_counted = whole.replies_counted

-- the reply to a clean list: a line for each order, and the sum with the number of orders and the number of yeses
pub clean_reply :
    (text : List ℕ) (heading : Heading) (orders : List Order) → CleanList text heading orders
    → let answers = answers_from (book_for heading) (order_lines text) in
    lines_of (reply_of text) ≡ numbered 2 answers ++ sum_line (length (order_lines text)) (yeses answers) ∷ []
clean_reply text heading orders clean =
    reply_lines text ∙ ap (replies_by text) ((clean_exactly text heading).1 (orders, clean)).0 ∙ sums.clean_replies text heading orders clean

-- 1b, 1c: a reply is refused by 4 exactly when it is a yes with a start above 999,999, whatever the room, then by 7 exactly when its line
-- is longer than the buffer, and every byte stays; in every other case its line stands at the front, every other byte stays, and its length
-- is answered
pub answer_writes :
    (κs : Lfts 1) (line : ℕ) (given : Answer) (buffer : _) (answer : Written) (after : _) → write_answer.Learnt κs (line, (given, (buffer, tt))) answer after
    → Writes (StartsPastLast given → ⊥) (reply_line line given) buffer.now answer after.1.1.0.now
answer_writes κs line given buffer answer after learnt =
    answers.writes (start_in_range given) (StartsPastLast given → ⊥) (replying.not_past given, replying.in_range_lem given) (reply_line line given) buffer.now
    (reply_written line given) (replying.tested line given) answer after.1.1.0.now learnt.0 learnt.1.0

-- the same of the sum, which is never refused by 4
pub sum_writes :
    (κs : Lfts 1) (taken kept : ℕ) (buffer : _) (answer : Written) (after : _) → write_sum.Learnt κs (taken, (kept, (buffer, tt))) answer after
    → Writes (Unit {0}) (sum_line taken kept) buffer.now answer after.1.1.0.now
sum_writes κs taken kept buffer answer after learnt =
    answers.writes true (Unit {0}) answers.always (sum_line taken kept) buffer.now (right (sum_line taken kept)) refl answer after.1.1.0.now learnt.0
    learnt.1.0

-- and each has room in 48 bytes, so that it is never refused by 7 there
pub answer_fits :
    (κs : Lfts 1) (line : ℕ) (given : Answer) (buffer : _) (answer : Written) (after : _) → write_answer.Learnt κs (line, (given, (buffer, tt))) answer after
    → (StartsPastLast given → ⊥) → length (reply_line line given) ≤ 48
answer_fits κs line given buffer answer after learnt never = rw (replying.tested line given, replying.in_range_lem given never) at learnt.1.1

pub sum_fits :
    (κs : Lfts 1) (taken kept : ℕ) (buffer : _) (answer : Written) (after : _) → write_sum.Learnt κs (taken, (kept, (buffer, tt))) answer after
    → length (sum_line taken kept) ≤ 48
sum_fits κs taken kept buffer answer after learnt = learnt.1.1

-- The reply to a text, begun by `begin` and written out by `fill` with whatever buffers of 48 bytes or more.
module _ (text : Bor (List ℕ)) where
  -- what `fill` admits, wherever the buffer that it is lent lies
  abbrev Admits : Reply → List ℕ → Filled → List ℕ → Type 0
  Admits reply buffer filled held =
      (κs : Lfts 2) × (lent : MutBor (List ℕ)) × (after : _) × fill.Learnt κs (text, (reply, (lent, tt))) filled after × (lent.now ≡ buffer)
      × (after.1.1.0.now ≡ held)

  said : (reply : Reply) (buffer : List ℕ) (filled : Filled) (held : List ℕ) → Admits reply buffer filled held → Fills text.now reply buffer filled held
  said reply buffer filled held admits = rw (← admits.4, ← admits.5) admits.3

  module _ (κs : Lfts 1) (reply end : Reply) (after : _) (begun : begin.Learnt κs (text, tt) reply after) (pieces : List (List ℕ))
      (out_to : WrittenOut Admits reply pieces end) where
    all_out : joined pieces ++ out.out_of text.now end ≡ reply_of text.now
    all_out =
        out.pieces_out text.now Admits said (rw begun (out.begun_numbered text.now)) out_to ∙ ap (out.out_of text.now) begun ∙ out.all_left text.now

    -- once it is over, the pieces joined are exactly the reply
    pub written_whole : end.over ≡ true → joined pieces ≡ reply_of text.now
    written_whole over = sym (append-nil (joined pieces)) ∙ ap (λ rest. joined pieces ++ rest) (sym (out.out_over text.now end over)) ∙ all_out

    -- before that they are its front
    pub written_front : (rest : List ℕ) × (joined pieces ++ rest ≡ reply_of text.now)
    written_front = (out.out_of text.now end, all_out)

    -- and there are never more pieces than the reply has bytes, so that it ends
    pub pieces_end : length pieces ≤ length (reply_of text.now)
    pieces_end =
        omega (
          arith,
          out.pieces_few text.now Admits said (rw begun (out.begun_numbered text.now)) out_to,
          simp length-append at (ap length all_out),
        )

-- `begin`: nothing is over yet; the refusal and the line that it stands on, or none and the place behind the first line, line 2 and the
-- book that is opened
module _ (κs : Lfts 1) (text : Bor (List ℕ)) (reply : Reply) (after : _) (begun : begin.Learnt κs (text, tt) reply after) where
  pub begin_not_over : reply.over ≡ false
  begin_not_over = ap (λ (it : Reply). it.over) begun ∙ fresh (begun_by text.now (opening text.now))
    where
      fresh : (list : Or (ℕ × Progress) Progress) → (reply_from list).over ≡ false
      fresh (wrong refused) = refl
      fresh (right progress) = refl

  -- the progress is that of `orders::begin`, and so are the refusal and the progress that comes with it
  pub begin_as_list :
      (κ : Lfts 1) (list : Result Progress NotBegun) (exit : _) → begin_list.Learnt κ (text, tt) list exit
      → ((progress : Progress) → list ≡ Ok progress → reply ≡ record { refusal = None; progress = progress; over = false })
      × ((refused : NotBegun) → list ≡ Err refused
      → reply
      ≡ record {
        refusal = Some (refusal_number refused.refusal);
        progress = refused.progress;
        over = false;
      })
  begin_as_list κ list exit learnt =
      let same : reply ≡ reply_from (as_begun list) = begun ∙ ap reply_from (sym learnt) in
      (λ progress is. same ∙ ap (λ one. reply_from (as_begun one)) is, λ refused is. same ∙ ap (λ one. reply_from (as_begun one)) is)

  refused_so : (number : ℕ) → opening text.now ≡ wrong number → (reply.refusal ≡ Some number) × (reply.progress.line ≡ refused_line number)
  refused_so number refused = rw (begun, refused) (refl, refl)

  pub begin_too_long : 65_536 < length text.now → (reply.refusal ≡ Some 9) × (reply.progress.line ≡ 0)
  begin_too_long long = refused_so 9 ((refused_by_nine text.now).1 long)

  pub begin_at_fault :
      (number : ℕ) → length text.now ≤ 65_536 → HeadingFault (line_at text.now 0) number → (reply.refusal ≡ Some number) × (reply.progress.line ≡ 1)
  begin_at_fault number within fault =
      let refused = whole.fault_refuses text.now number within fault in
      let facts = refused_so number refused.0 in (facts.0, facts.1 ∙ refused.1)

  pub begin_with_book :
      (book : Book) → opening text.now ≡ right book
      → (reply.refusal ≡ None) × (reply.progress.at ≡ length (line_at text.now 0)) × (reply.progress.line ≡ 2) × (reply.progress.book ≡ book)
  begin_with_book book opened = rw (begun, opened) (refl, omega (arith, past_is text.now 0), refl, refl)

-- `fill`, from whatever state with whatever buffer: what is filled lies in the buffer, and every other byte stays
module _ (κs : Lfts 2) (text : Bor (List ℕ)) (reply : Reply) (buffer : MutBor (List ℕ)) (filled : Filled) (after : _)
    (learnt : fill.Learnt κs (text, (reply, (buffer, tt))) filled after) where
  pub fill_stays :
      (filled.length ≤ length buffer.now) × (drop filled.length after.1.1.0.now ≡ drop filled.length buffer.now)
      × (length after.1.1.0.now ≡ length buffer.now)
  fill_stays = filling.fill_stays text.now learnt

  -- it is whole lines, behind which others may follow
  pub fill_whole_lines :
      (lines : List (List ℕ)) × (joined lines ≡ take filled.length after.1.1.0.now)
      × ((others : List (List ℕ)) → AreLines others → AreLines (lines ++ others))
  fill_whole_lines = out.piece_lines text.now learnt

  -- what `orders::next` admits of this text
  abbrev Steps : Progress → Step → Type 0
  Steps progress step = (κ : Lfts 1) × (exit : _) × next.Learnt κ (text, (progress, tt)) step exit

  -- and which: of a list that is refused its refusal, of each line that is left what `orders::next` answers, and then the sum, each behind
  -- the one before while there is room, and the reply past them, field by field
  pub fill_lines :
      (lines : List (List ℕ)) × (joined lines ≡ take filled.length after.1.1.0.now)
      × FilledWith text.now Steps reply (length buffer.now) lines filled.reply
  fill_lines =
      due.filled_lines text.now Steps (λ progress. ((κs.0, tt), (text, (progress, tt)), record { read = refl; said = refl; next = refl })) learnt

  -- a reply that is over, or a buffer of fewer than 48 bytes, stays as it is
  pub fill_over : reply.over ≡ true → (filled.length ≡ 0) × (filled.reply ≡ reply) × (after.1.1.0.now ≡ buffer.now)
  fill_over over = filling.fill_nothing text.now learnt (rw over)

  pub fill_short : length buffer.now < 48 → (filled.length ≡ 0) × (filled.reply ≡ reply) × (after.1.1.0.now ≡ buffer.now)
  fill_short short = filling.fill_nothing text.now learnt (filling.no_room reply (length buffer.now) short)

  -- and it stops only where the reply is over, or there is no room for 48 bytes more
  pub fill_full : filled.reply.over ≡ false → length buffer.now < filled.length + 48
  fill_full on = filling.fill_full text.now learnt on

-- 1d: each public function's contract admits a single outcome
pub write_answer_single :
    (κs : Lfts 1) (line : ℕ) (given : Answer) (buffer : _) (one other : Written) (held stays : _)
    → write_answer.Learnt κs (line, (given, (buffer, tt))) one held → write_answer.Learnt κs (line, (given, (buffer, tt))) other stays
    → (one ≡ other) × (held.1.1.0.now ≡ stays.1.1.0.now)
write_answer_single κs line given buffer one other held stays p q = answers.single one other p.0 q.0 (p.1.0 ∙ sym q.1.0)

pub write_sum_single :
    (κs : Lfts 1) (taken kept : ℕ) (buffer : _) (one other : Written) (held stays : _)
    → write_sum.Learnt κs (taken, (kept, (buffer, tt))) one held → write_sum.Learnt κs (taken, (kept, (buffer, tt))) other stays
    → (one ≡ other) × (held.1.1.0.now ≡ stays.1.1.0.now)
write_sum_single κs taken kept buffer one other held stays p q = answers.single one other p.0 q.0 (p.1.0 ∙ sym q.1.0)

pub begin_single : (κs : Lfts 1) (text : _) (after : _) → Single (λ reply. begin.Learnt κs (text, tt) reply after)
begin_single κs text after = single_value (reply_begun text.now)

pub fill_single :
    (κs : Lfts 2) (text : _) (reply : Reply) (buffer : _) (one other : Filled) (held stays : _)
    → fill.Learnt κs (text, (reply, (buffer, tt))) one held → fill.Learnt κs (text, (reply, (buffer, tt))) other stays
    → (one ≡ other) × (held.1.1.0.now ≡ stays.1.1.0.now)
fill_single κs text reply buffer one other held stays p q =
    let lengths : one.length ≡ other.length = p.counted ∙ sym q.counted in
    let replies : one.reply ≡ other.reply = p.comes ∙ sym q.comes in
    (λ i. record { length = lengths i; reply = replies i }, p.holds ∙ sym q.holds)

-- 1a: no public function asks anything of what it is passed
pub nothing_asked :
    ((κs : Lfts 1) (passed : _) → begin.Asked κs passed)
    × ((κs : Lfts 2) (passed : _) → fill.Asked κs passed)
    × ((κs : Lfts 1) (passed : _) → write_answer.Asked κs passed)
    × ((κs : Lfts 1) (passed : _) → write_sum.Asked κs passed)
nothing_asked = (λ κs passed. tt, λ κs passed. tt, λ κs passed. tt, λ κs passed. tt)
