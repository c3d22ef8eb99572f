-- How a list begins: its length, its first line and its book. Assumes nothing.
use Prim.Native.Nat.{ℕ, ◌≤◌, ◌<◌}
use mathlib.Core.Path.{◌≡◌, sym, ap, ◌∙◌}
use mathlib.Core.Logic.{◌↔◌}
use mathlib.Core.List.{List}
use lib.ListN.{length}
use lib.Dec.{leb}
use native.Mathlib.Omega.{arith}
use borrow.Author.Tests.{leb-true, leb-false, le-leb, lt-leb, ne_eqb}
use Rattle.ground.specs.Refusal.{Read, wrong, right, ◌>>=◌}
use Rattle.ground.specs.Limits.{longest_text}
use Rattle.ground.proofs.Checks.{never_right, same_right, same_wrong, passed_by}
use Rattle.ground.proofs.Tests.{by_test}
use Rattle.texts.specs.Lines.{line_at}
use Rattle.lines.specs.Reading.{heading_of}
use Rattle.lines.specs.declared.Heading.{Heading}
use Rattle.lines.specs.Meaning.{HeadingFault}
use Rattle.lines.proofs.Promises.{heading_fault, heading_ranges, line_fault_from}
use Rattle.book.specs.Soundness.{opened}
use Rattle.book.specs.declared.Book.{Book}
use Rattle.book.proofs.Promises.{opened_fresh}
use Rattle.orders.specs.Answers.{book_for, opening, refused_line, begun_with, begun_by, stopped_at}
use Rattle.orders.specs.declared.Progress.{Progress}

-- the numbers of a first line open a fresh book
pub heading_opens : (line : List ℕ) (heading : Heading) → heading_of line ≡ right heading → (opened heading.chambers heading.run).book ≡ book_for heading
heading_opens line heading reads = (opened_fresh heading.chambers heading.run (heading_ranges line heading reads)).1

-- a first line is refused by 1 to 4, so its refusal stands at line 1
pub first_line_refused : (line : List ℕ) (number : ℕ) → heading_of line ≡ wrong number → refused_line number ≡ 1
first_line_refused line number refused =
    let most : number ≤ 4 = (line_fault_from ((heading_fault line number).0 refused)).1 in
    rw (ne_eqb number 9 (λ same. omega arith))

-- a first line's book, or its refusal
abbrev book_of : Read Heading → Read Book
book_of read = read >>= λ heading. right (book_for heading)

-- the refusal is the first line's own
fault_of_lem : (read : Read Heading) (number : ℕ) → book_of read ≡ wrong number → read ≡ wrong number
fault_of_lem (wrong other) number refused = ap wrong (same_wrong refused)
fault_of_lem (right heading) number refused = absurd (never_right (sym refused))

-- which is never 9
nine_never : (line : List ℕ) → book_of (heading_of line) ≡ wrong 9 → ⊥
nine_never line refused = omega (arith, (line_fault_from ((heading_fault line 9).0 (fault_of_lem (heading_of line) 9 refused))).1)

module _ (text : List ℕ) where
  -- a text that is not too long begins with its first line
  within_opens : length text ≤ longest_text → opening text ≡ book_of (heading_of (line_at text 0))
  unfolding opening
  within_opens within = rw (le-leb (length text) longest_text within)

  -- a text that is too long is refused by 9
  pub too_long : longest_text < length text → opening text ≡ wrong 9
  unfolding opening
  too_long over = rw (lt-leb (length text) longest_text over)

  -- else the first line decides
  pub heading_right : length text ≤ longest_text → (heading : Heading) → heading_of (line_at text 0) ≡ right heading → opening text ≡ right (book_for heading)
  unfolding opening
  heading_right within heading reads = rw (le-leb (length text) longest_text within, reads)

  pub heading_wrong : length text ≤ longest_text → (number : ℕ) → heading_of (line_at text 0) ≡ wrong number → opening text ≡ wrong number
  unfolding opening
  heading_wrong within number refused = rw (le-leb (length text) longest_text within, refused)

  -- and a text that begins is not too long
  pub opened_within : (book : Book) → opening text ≡ right book → length text ≤ longest_text
  unfolding opening
  opened_within book begun =
      leb-true (length text) longest_text
      (passed_by (leb (length text) longest_text) 9 (heading_of (line_at text 0) >>= λ heading. right (book_for heading)) (right book)
      never_right begun).0

  -- the book that a list begins with has counted nothing
  pub opened_fresh_book : (book : Book) → opening text ≡ right book → (book.taken ≡ 0) × (book.kept ≡ 0)
  unfolding opening
  opened_fresh_book book begun =
      fresh (heading_of (line_at text 0))
      (passed_by (leb (length text) longest_text) 9 (heading_of (line_at text 0) >>= λ heading. right (book_for heading)) (right book)
      never_right begun).1
    where
      fresh :
          (read : Read Heading) → ◌≡◌ {A = Read Book} (read >>= λ heading. right (book_for heading)) (right book)
          → (book.taken ≡ 0) × (book.kept ≡ 0)
      fresh (wrong number) same = absurd (never_right same)
      fresh (right heading) same = (sym (ap (λ made. made.taken) (same_right same)), sym (ap (λ made. made.kept) (same_right same)))

  -- 9 exactly when the text is too long
  pub refused_by_nine : (opening text ≡ wrong 9) ↔ (longest_text < length text)
  refused_by_nine = (
    λ refused.
        by_test (leb (length text) longest_text)
        (λ inside. absurd (nine_never (line_at text 0) (sym (within_opens (leb-true (length text) longest_text inside)) ∙ refused)))
        (λ outside. leb-false (length text) longest_text outside),
    too_long,
  )

  -- else what is wrong with the first line
  pub refused_by_its_first_line :
      (number : ℕ) → (number ≡ 9 → ⊥) → (opening text ≡ wrong number) ↔ ((length text ≤ longest_text) × HeadingFault (line_at text 0) number)
  refused_by_its_first_line number other = (
    λ refused.
        by_test (leb (length text) longest_text)
        (λ inside.
        let within = leb-true (length text) longest_text inside in
        (within, (heading_fault (line_at text 0) number).0 (fault_of_lem (heading_of (line_at text 0)) number (sym (within_opens within) ∙ refused))))
        (λ outside. absurd (other (same_wrong (sym refused ∙ too_long (leb-false (length text) longest_text outside))))),
    λ facts. heading_wrong facts.0 number ((heading_fault (line_at text 0) number).1 facts.1),
  )

  -- a list that does not begin is refused by its number at the line refused
  pub begun_wrong :
      (number : ℕ) (progress : Progress) → begun_by text (opening text) ≡ wrong (number, progress)
      → (opening text ≡ wrong number) × (progress ≡ stopped_at (refused_line number))
  begun_wrong number progress refused = go (opening text) refused
    where
      go :
          (read : Read Book) → begun_by text read ≡ wrong (number, progress)
          → (read ≡ wrong number) × (progress ≡ stopped_at (refused_line number))
      go (wrong other) refused =
          let same = same_wrong refused in
          let numbers : other ≡ number = ap (λ pair. pair.0) same in
          (ap wrong numbers, sym (ap (λ pair. pair.1) same) ∙ ap (λ one. stopped_at (refused_line one)) numbers)
      go (right book) refused = absurd (never_right (sym refused))

  -- and one that begins is where its book begins
  pub begun_right :
      (progress : Progress) → begun_by text (opening text) ≡ right progress
      → (opening text ≡ right progress.book) × (progress ≡ begun_with text progress.book)
  begun_right progress begun = go (opening text) begun
    where
      go : (read : Read Book) → begun_by text read ≡ right progress → (read ≡ right progress.book) × (progress ≡ begun_with text progress.book)
      go (wrong number) begun = absurd (never_right begun)
      go (right book) begun =
          let same : begun_with text book ≡ progress = same_right begun in
          let books : book ≡ progress.book = ap (λ (one : Progress). one.book) same in
          (ap right books, sym same ∙ ap (begun_with text) books)
