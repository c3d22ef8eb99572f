-- The bytes of a reply fall into its lines. Assumes nothing.
use Prim.Native.Nat.{ℕ, suc}
use mathlib.Core.Path.{◌≡◌, refl}
use mathlib.Core.Bool.{true, not, ◌&&◌}
use mathlib.Core.List.{List, [], ◌∷◌, ◌++◌}
use lib.Dec.{eqb}
use borrow.Author.Tests.{eqb-false, not-true}
use Rattle.ground.specs.Refusal.{Read, wrong, right}
use Rattle.ground.specs.Text.{bytes}
use Rattle.ground.proofs.Tests.{both, first_of, second_of}
use Rattle.texts.specs.Lines.{line_end, lines_of}
use Rattle.fields.specs.Fields.{tab}
use Rattle.texts.specs.Meaning.{Unbroken, AreLines, none, more}
use Rattle.fields.specs.Meaning.{is_clean, all_clean, tabbed}
use Rattle.planlines.proofs.RoundTrip.{clean_number, clean_hour}
use Rattle.texts.proofs.WholeText.{unbroken_append}
use Rattle.texts.proofs.Promises.{lines_only}
use Rattle.book.specs.declared.Book.{Book}
use Rattle.book.specs.declared.Answer.{Answer}
use Rattle.book.specs.declared.Answer.TheVariants.{Yes, No, Refused}
use Rattle.orders.specs.Answers.{opening, order_lines, answers_from, refused_line}
use Rattle.writer.specs.Line.{line_with}
use Rattle.replies.specs.Replies.{answer_fields, reply_line, sum_line, numbered, replies_from, replies_by, reply_of}

-- a clean text has no line end in it, and neither have clean fields with tabs between
clean_unbroken : (text : List ℕ) → is_clean text ≡ true → Unbroken text
unfolding is_clean Unbroken
clean_unbroken [] clean = tt
clean_unbroken (byte ∷ text) clean =
    let here = first_of (not (eqb byte tab) && not (eqb byte line_end)) (is_clean text) clean in (
      eqb-false byte line_end (not-true (eqb byte line_end) (second_of (not (eqb byte tab)) (not (eqb byte line_end)) here)),
      clean_unbroken text (second_of (not (eqb byte tab) && not (eqb byte line_end)) (is_clean text) clean),
    )

tabbed_unbroken : (fields : List (List ℕ)) → all_clean fields ≡ true → Unbroken (tabbed fields)
unfolding tabbed all_clean Unbroken
tabbed_unbroken [] clean = tt
tabbed_unbroken (field ∷ []) clean = clean_unbroken field (first_of (is_clean field) true clean)
tabbed_unbroken (field ∷ next ∷ fields) clean =
    unbroken_append field (tab ∷ tabbed (next ∷ fields)) (clean_unbroken field (first_of (is_clean field) (all_clean (next ∷ fields)) clean))
    (eqb-false tab line_end refl, tabbed_unbroken (next ∷ fields) (second_of (is_clean field) (all_clean (next ∷ fields)) clean))

-- so each reply is a line
line_with_lem : (fields : List (List ℕ)) {lines : List (List ℕ)} → all_clean fields ≡ true → AreLines lines → AreLines (line_with fields ∷ lines)
line_with_lem fields clean are = more (tabbed fields) _ (tabbed_unbroken fields clean) are

pub answer_clean : (answer : Answer) → all_clean (answer_fields answer) ≡ true
unfolding all_clean is_clean bytes
answer_clean (Yes chamber start) = both (clean_number chamber) (both (clean_hour start) refl)
answer_clean No = refl
answer_clean (Refused number) = both (clean_number number) refl

pub reply_is : (line : ℕ) (answer : Answer) {lines : List (List ℕ)} → AreLines lines → AreLines (reply_line line answer ∷ lines)
unfolding reply_line all_clean
reply_is line answer are = line_with_lem _ (both (clean_number line) (answer_clean answer)) are

pub sum_is : (taken kept : ℕ) {lines : List (List ℕ)} → AreLines lines → AreLines (sum_line taken kept ∷ lines)
unfolding sum_line all_clean is_clean bytes
sum_is taken kept are = line_with_lem _ (both (clean_number taken) (both (clean_number kept) refl)) are

numbered_are : (line : ℕ) (answers : List Answer) {lines : List (List ℕ)} → AreLines lines → AreLines (numbered line answers ++ lines)
unfolding numbered
numbered_are line [] are = are
numbered_are line (answer ∷ answers) are = reply_is line answer (numbered_are (suc line) answers are)

replies_are : (text : List ℕ) (begun : Read Book) → AreLines (replies_by text begun)
unfolding replies_from
replies_are text (wrong number) = reply_is (refused_line number) (Refused number) none
replies_are text (right book) = numbered_are 2 (answers_from book (order_lines text)) (sum_is _ _ none)

-- the lines of a reply are the replies
pub reply_lines : (text : List ℕ) → lines_of (reply_of text) ≡ replies_by text (opening text)
unfolding reply_of
reply_lines text = lines_only (replies_by text (opening text)) (replies_are text (opening text))
