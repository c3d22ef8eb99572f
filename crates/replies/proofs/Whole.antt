-- Every text has its reply: one line for a list that does not begin, else one for each order line and the sum. Assumes nothing.
use Prim.Native.Nat.{ℕ, zero, suc, ◌+◌, ◌≤◌, ◌<◌}
use mathlib.Core.Path.{◌≡◌, refl, sym, ap, ◌∙◌}
use mathlib.Core.List.{List, [], ◌∷◌, ◌++◌, append-nil}
use lib.ListN.{length, get_or, length-drop}
use native.Mathlib.Omega.{arith}
use Rattle.ground.specs.Refusal.{wrong, right}
use Rattle.ground.specs.Limits.{longest_text}
use Rattle.ground.proofs.Checks.{never_right}
use Rattle.texts.specs.Lines.{lines_of, line_at}
use Rattle.texts.specs.Meaning.{joined}
use Rattle.texts.proofs.Promises.{walk_on}
use Rattle.lines.specs.Reading.{order_of}
use Rattle.lines.specs.Meaning.{HeadingFault}
use Rattle.lines.proofs.Promises.{heading_fault}
use Rattle.book.specs.Taking.{answer_of}
use Rattle.book.specs.declared.Book.{Book}
use Rattle.book.specs.declared.Answer.TheVariants.{No, Refused}
use Rattle.orders.specs.Answers.{opening, order_lines, answers_from, book_after, book_past, decision, refused_line}
use Rattle.orders.proofs.Beginning.{heading_wrong, first_line_refused}
use Rattle.orders.proofs.Counting.{answers_length}
use Rattle.orders.proofs.Promises.{refused_empty}
use Rattle.replies.specs.Replies.{sum_line, numbered, replies_from, replies_by, reply_of}
use Rattle.replies.specs.Meaning.{ReplyTo, SumOf}
use Rattle.replies.proofs.Fields.{reply_fields, sum_fields}
use Rattle.replies.proofs.Pieces.{start_in_range_lem}
use Rattle.replies.proofs.ReplyText.{reply_lines}
use Rattle.replies.proofs.Sums.{numbered_length, replies_length}

-- a list that does not begin has one line, that of its refusal
pub refused_reply : (text : List ℕ) (number : ℕ) → opening text ≡ wrong number → ReplyTo (refused_line number) (Refused number) (reply_of text)
unfolding reply_of joined
refused_reply text number refused = rw (refused, append-nil) (reply_fields (refused_line number) (Refused number) refl)

-- a fault of the first line is such a refusal, at line 1
pub fault_refuses :
    (text : List ℕ) (number : ℕ) → length text ≤ longest_text → HeadingFault (line_at text 0) number → (opening text ≡ wrong number) × (refused_line number ≡ 1)
fault_refuses text number within fault =
    let refused = (heading_fault (line_at text 0) number).1 fault in
    (heading_wrong text within number refused, first_line_refused (line_at text 0) number refused)

pub faulty_reply : (text : List ℕ) (number : ℕ) → length text ≤ longest_text → HeadingFault (line_at text 0) number → ReplyTo 1 (Refused number) (reply_of text)
faulty_reply text number within fault =
    let refused = fault_refuses text number within fault in rw refused.1 at (refused_reply text number refused.0)

-- the replies to order lines, one behind the other
numbered_says :
    (line : ℕ) (book : Book) (lines : List (List ℕ)) (place : ℕ) → place < length lines
    → ReplyTo (line + place) (get_or (answers_from book lines) place No) (get_or (numbered line (answers_from book lines)) place [])
unfolding numbered answers_from
numbered_says line book [] place inside = absurd (omega arith)
numbered_says line book (text ∷ lines) zero inside =
    let top : line + zero ≡ line = omega arith in rw top (reply_fields line (answer_of (decision book (order_of text))) (start_in_range_lem book (order_of text)))
numbered_says line book (text ∷ lines) (suc place) inside =
    let next : line + suc place ≡ suc line + place = omega arith in rw next (numbered_says (suc line) (book_past book (order_of text)) lines place (omega arith))

-- a list that begins has a reply for each order line, and the sum
pub list_reply :
    (text : List ℕ) (book : Book) → opening text ≡ right book
    → (replies : List (List ℕ)) × (sum : List ℕ) × (lines_of (reply_of text) ≡ replies ++ sum ∷ []) × (length replies ≡ length (order_lines text))
    × ((place : ℕ) → place < length (order_lines text) → ReplyTo (2 + place) (get_or (answers_from book (order_lines text)) place No) (get_or replies place []))
    × SumOf (book_after book (order_lines text)).taken (book_after book (order_lines text)).kept sum
unfolding replies_from
list_reply text book begun = (
  numbered 2 (answers_from book (order_lines text)),
  sum_line (book_after book (order_lines text)).taken (book_after book (order_lines text)).kept,
  reply_lines text ∙ ap (replies_by text) begun,
  numbered_length 2 (answers_from book (order_lines text)) ∙ answers_length book (order_lines text),
  numbered_says 2 book (order_lines text),
  sum_fields (book_after book (order_lines text)).taken (book_after book (order_lines text)).kept,
)

pub replies_counted : (text : List ℕ) (book : Book) → opening text ≡ right book → length (lines_of (reply_of text)) ≡ suc (length (order_lines text))
replies_counted text book begun = ap length (reply_lines text ∙ ap (replies_by text) begun) ∙ replies_length 2 book (order_lines text)

-- a list that begins has a first line
first_line : (text : List ℕ) (book : Book) → opening text ≡ right book → 1 ≤ length (lines_of text)
first_line [] book begun = absurd (never_right (sym refused_empty ∙ begun))
first_line (byte ∷ text) book begun = let line = walk_on (byte ∷ text) 0 (omega arith) in omega (arith, ap length line)

-- so its reply has as many lines
pub as_many_lines : (text : List ℕ) (book : Book) → opening text ≡ right book → length (lines_of (reply_of text)) ≡ length (lines_of text)
unfolding order_lines
as_many_lines text book begun = omega (arith, replies_counted text book begun, length-drop 1 (lines_of text), first_line text book begun)
