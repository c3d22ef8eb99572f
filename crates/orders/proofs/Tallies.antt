-- What answers to lines count is what the book past them has counted. Assumes nothing.
use Prim.Native.Nat.{ℕ, suc, ◌+◌}
use mathlib.Core.Path.{◌≡◌, refl, sym, ◌∙◌}
use mathlib.Core.Logic.{◌↔◌}
use mathlib.Core.List.{List, [], ◌∷◌}
use lib.ListN.{length}
use native.Mathlib.Omega.{arith}
use Rattle.ground.specs.Refusal.{Read, wrong, right}
use Rattle.ground.proofs.Checks.{same_right}
use Rattle.lines.specs.Reading.{order_of}
use Rattle.lines.specs.Meaning.{OrderReads}
use Rattle.lines.specs.declared.Order.{Order}
use Rattle.lines.proofs.Promises.{order_reads}
use Rattle.std.specs.Prelude.{Option, Some, None}
use Rattle.choice.specs.declared.Offer.{Offer}
use Rattle.book.specs.Taking.{decided, next_book, answer_of}
use Rattle.book.specs.declared.Book.{Book}
use Rattle.book.specs.declared.Answer.{Answer}
use Rattle.orders.specs.Answers.{answers_from, book_after, decision, book_past, refusals, yeses}
use Rattle.orders.specs.History.{Counts, of_none, with_yes, with_no, with_refused}

-- the yeses are those kept, and what is not refused is taken
pub counts_are :
    {before after kept taken : ℕ} {lines : List (List ℕ)} {answers : List Answer}
    → Counts before lines answers kept taken after → (yeses answers ≡ kept) × (refusals answers + taken ≡ length answers)
unfolding yeses refusals
counts_are of_none = (refl, refl)
counts_are (with_yes line order read others) = let later = counts_are others in (omega (arith, later.0), omega (arith, later.1))
counts_are (with_no line order read others) = let later = counts_are others in (omega (arith, later.0), omega (arith, later.1))
counts_are (with_refused line number others) = let later = counts_are others in (omega (arith, later.0), omega (arith, later.1))

-- what is counted from one book to another
record Counted (book : Book) (lines : List (List ℕ)) (answers : List Answer) (last : Book) : Type 0 where
  kept : ℕ
  taken : ℕ
  counts : Counts book.clock lines answers kept taken last.clock
  more_kept : last.kept ≡ book.kept + kept
  more_taken : last.taken ≡ book.taken + taken

-- by one line that reads
order_counted :
    (book last : Book) (line : List ℕ) (lines : List (List ℕ)) (order : Order) (answers : List Answer) → order_of line ≡ right order
    → (choice : Read (Option Offer)) → Counted (next_book book order.ready choice) lines answers last
    → Counted book (line ∷ lines) (answer_of choice ∷ answers) last
order_counted book last line lines order answers read (wrong number) later =
    record {
      kept = later.kept;
      taken = later.taken;
      counts = with_refused line number later.counts;
      more_kept = later.more_kept;
      more_taken = later.more_taken;
    }
order_counted book last line lines order answers read (right None) later =
    record {
      kept = later.kept;
      taken = suc later.taken;
      counts = with_no line order ((order_reads line order).0 read) later.counts;
      more_kept = later.more_kept;
      more_taken = omega (arith, later.more_taken);
    }
order_counted book last line lines order answers read (right (Some offer)) later =
    record {
      kept = suc later.kept;
      taken = suc later.taken;
      counts = with_yes line order ((order_reads line order).0 read) later.counts;
      more_kept = omega (arith, later.more_kept);
      more_taken = omega (arith, later.more_taken);
    }

-- by one line
line_counted :
    (book last : Book) (line : List ℕ) (lines : List (List ℕ)) (answers : List Answer) (read : Read Order) → order_of line ≡ read
    → Counted (book_past book read) lines answers last → Counted book (line ∷ lines) (answer_of (decision book read) ∷ answers) last
line_counted book last line lines answers (wrong number) refused later =
    record {
      kept = later.kept;
      taken = later.taken;
      counts = with_refused line number later.counts;
      more_kept = later.more_kept;
      more_taken = later.more_taken;
    }
line_counted book last line lines answers (right order) read later =
    order_counted book last line lines order answers read (decided book order.ready order.due) later

-- by all of them
lines_counted : (book : Book) (lines : List (List ℕ)) → Counted book lines (answers_from book lines) (book_after book lines)
unfolding answers_from book_after
lines_counted book [] = record { kept = 0; taken = 0; counts = of_none; more_kept = omega arith; more_taken = omega arith }
lines_counted book (line ∷ lines) =
    line_counted book (book_after (book_past book (order_of line)) lines) line lines (answers_from (book_past book (order_of line)) lines) (order_of line) refl
    (lines_counted (book_past book (order_of line)) lines)

-- a line reads as one order
reads_once : (line : List ℕ) (one other : Order) → OrderReads line one → OrderReads line other → one ≡ other
reads_once line one other p q = same_right (sym ((order_reads line one).1 p) ∙ (order_reads line other).1 q)

-- and answers count one thing
counts_once :
    {before after other_After kept other_kept taken other_taken : ℕ} {lines : List (List ℕ)} {answers : List Answer}
    → Counts before lines answers kept taken after → Counts before lines answers other_kept other_taken other_After
    → after ≡ other_After
counts_once of_none of_none = refl
counts_once (with_yes line order read others) (with_yes again other_order other_read other_others) =
    counts_once others (rw (reads_once line other_order order other_read read) at other_others)
counts_once (with_no line order read others) (with_no again other_order other_read other_others) =
    counts_once others (rw (reads_once line other_order order other_read read) at other_others)
counts_once (with_refused line number others) (with_refused again same other_others) = counts_once others other_others

-- the book past lines has counted what their answers count
pub counted :
    (book : Book) (lines : List (List ℕ)) (kept taken clock : ℕ)
    → Counts book.clock lines (answers_from book lines) kept taken clock
    ↔ (((book_after book lines).kept ≡ book.kept + kept) × ((book_after book lines).taken ≡ book.taken + taken) × ((book_after book lines).clock ≡ clock))
counted book lines kept taken clock =
    let all = lines_counted book lines in
    let its = counts_are all.counts in (
      λ given. let as_given = counts_are given in (
        omega (arith, all.more_kept, its.0, as_given.0),
        omega (arith, all.more_taken, its.1, as_given.1),
        counts_once all.counts given,
      ),
      λ same.
          let kept_so : all.kept ≡ kept = omega (arith, all.more_kept, same.0) in
          let taken_so : all.taken ≡ taken = omega (arith, all.more_taken, same.1) in
          rw (kept_so, taken_so, same.2) at all.counts,
    )
