-- Every line of the reply to a list that begins has room in 48 bytes. Assumes nothing.
use Prim.Native.Nat.{ℕ, zero, suc, ◌+◌, ◌≤◌}
use mathlib.Core.Path.{◌≡◌, refl}
use mathlib.Core.Bool.{true}
use mathlib.Core.Logic.{⊎_elim}
use mathlib.Core.List.{List, [], ◌∷◌, ◌++◌}
use lib.ListN.{length, get_or, length-append, length-drop}
use native.Mathlib.Omega.{arith}
use borrow.Author.Tests.{leb-true}
use Rattle.ground.specs.Refusal.{Read, wrong, right}
use Rattle.ground.specs.Limits.{last_hour}
use Rattle.ground.specs.Text.{bytes}
use Rattle.texts.specs.Lines.{lines_of}
use Rattle.texts.proofs.WholeText.{lines_within}
use Rattle.fields.specs.Meaning.{tabbed}
use Rattle.lines.specs.Reading.{order_of}
use Rattle.lines.specs.declared.Order.{Order}
use Rattle.lines.proofs.Promises.{order_fault, line_fault_from}
use Rattle.writer.proofs.Line.{number_short, hour_short, hour_within_lem}
use Rattle.std.specs.Prelude.{Option, Some, None}
use Rattle.choice.specs.declared.Offer.{Offer}
use Rattle.book.specs.Taking.{decided, answer_of}
use Rattle.book.specs.declared.Book.{Book}
use Rattle.book.specs.declared.Answer.{Answer}
use Rattle.book.specs.declared.Answer.TheVariants.{Yes, No, Refused}
use Rattle.book.proofs.Promises.{yes_exactly, refused_by_no_other}
use Rattle.orders.specs.Answers.{opening, order_lines, answers_from, book_after, book_past, decision, yeses}
use Rattle.orders.proofs.Beginning.{opened_within, opened_fresh_book}
use Rattle.orders.proofs.Counting.{all_taken, all_kept, answers_length}
use Rattle.replies.specs.Replies.{reply_line, sum_line, start_in_range, numbered, replies_from, reply_of}
use Rattle.replies.proofs.Pieces.{start_in_range_lem}
use Rattle.replies.proofs.ReplyText.{reply_lines}

-- the numbers of an answer are small
abbrev Small : Answer → Type 0
Small (Yes chamber start) = chamber ≤ 8
Small No = Unit {0}
Small (Refused number) = number ≤ 9

chosen_small : (book : Book) (ready deadline : ℕ) (choice : Read (Option Offer)) → decided book ready deadline ≡ choice → Small (answer_of choice)
chosen_small book ready deadline (wrong number) same =
    ⊎_elim (λ e. omega arith) (λ others. ⊎_elim (λ e. omega arith) (λ more. ⊎_elim (λ e. omega arith) (λ e. omega arith) more) others)
    (refused_by_no_other book ready deadline number same)
chosen_small book ready deadline (right None) same = tt
chosen_small book ready deadline (right (Some offer)) same =
    let facts = (yes_exactly book ready deadline offer.chamber offer.start).0 same in
    omega (arith, facts.0.sound.chambers_range.1, facts.1.fitting.numbered.1)

answer_small : (book : Book) (text : List ℕ) (read : Read Order) → order_of text ≡ read → Small (answer_of (decision book read))
answer_small book text (wrong number) same = omega (arith, (line_fault_from ((order_fault text number).0 same)).1)
answer_small book text (right order) same = chosen_small book order.ready order.due (decided book order.ready order.due) refl

-- so a reply with a line number of 32 bits has room, and so has a sum of two such numbers
small_fits :
    (line : ℕ) (answer : Answer) → line ≤ 4_294_967_295 → Small answer → start_in_range answer ≡ true → length (reply_line line answer) ≤ 48
unfolding reply_line tabbed bytes
small_fits line (Yes chamber start) most small within =
    let hour = rw (hour_within_lem start (leb-true start last_hour within)) at (hour_short start) in
    simp length-append (omega (arith, number_short line most, number_short chamber (omega arith), hour))
small_fits line No most small within = simp length-append (omega (arith, number_short line most))
small_fits line (Refused number) most small within = simp length-append (omega (arith, number_short line most, number_short number (omega arith)))

sum_short : (taken kept : ℕ) → taken ≤ 4_294_967_295 → kept ≤ 4_294_967_295 → length (sum_line taken kept) ≤ 48
unfolding sum_line tabbed bytes
sum_short taken kept few less = simp length-append (omega (arith, number_short taken few, number_short kept less))

numbered_short :
    (line : ℕ) (book : Book) (lines : List (List ℕ)) (sum : List ℕ) → line + length lines ≤ 4_294_967_295 → length sum ≤ 48 → (place : ℕ)
    → length (get_or (numbered line (answers_from book lines) ++ sum ∷ []) place []) ≤ 48
unfolding numbered answers_from
numbered_short line book [] sum few fits zero = fits
numbered_short line book [] sum few fits (suc place) = omega arith
numbered_short line book (text ∷ lines) sum few fits zero =
    small_fits line (answer_of (decision book (order_of text))) (omega arith) (answer_small book text (order_of text) refl) (start_in_range_lem book (order_of text))
numbered_short line book (text ∷ lines) sum few fits (suc place) =
    numbered_short (suc line) (book_past book (order_of text)) lines sum (omega arith) fits place

-- no more are kept than there are lines
yeses_most : (answers : List Answer) → yeses answers ≤ length answers
unfolding yeses
yeses_most [] = omega arith
yeses_most (Yes chamber start ∷ answers) = omega (arith, yeses_most answers)
yeses_most (No ∷ answers) = omega (arith, yeses_most answers)
yeses_most (Refused number ∷ answers) = omega (arith, yeses_most answers)

pub every_line_fits : (text : List ℕ) (book : Book) → opening text ≡ right book → (place : ℕ) → length (get_or (lines_of (reply_of text)) place []) ≤ 48
unfolding replies_from order_lines
every_line_fits text book begun place =
    let lines = order_lines text in
    let few : length lines ≤ 65_536 = omega (arith, length-drop 1 (lines_of text), lines_within text, opened_within text book begun) in
    let fresh = opened_fresh_book text book begun in
    let taken : (book_after book lines).taken ≤ 4_294_967_295 = omega (arith, all_taken book lines, fresh.0) in
    let kept : (book_after book lines).kept ≤ 4_294_967_295 =
    omega (arith, all_kept book lines, fresh.1, yeses_most (answers_from book lines), answers_length book lines) in
    rw (reply_lines text, begun)
    (numbered_short 2 book lines (sum_line (book_after book lines).taken (book_after book lines).kept) (omega arith) (sum_short _ _ taken kept) place)
