-- How a list begins, said of its first line: `opening`, and whatever the contract of `begin` admits. Assumes nothing.
use Rattle.ground.specs.declared.Refusal.{Refusal}
use Prim.Native.Nat.{ℕ, ◌≤◌, ◌<◌}
use mathlib.Core.Path.{◌≡◌, refl, sym, ap, ◌∙◌}
use mathlib.Core.Logic.{◌⊎◌, inl, inr, ⊎_elim, ◌↔◌}
use mathlib.Core.List.{List}
use lib.ListN.{length}
use lib.Dec.{eqb}
use native.Mathlib.Omega.{arith}
use borrow.Author.Tests.{eqb-true, eq-eqb}
use contract.Lifetimes.{Lfts}
use denote.Ref.{Bor}
use Rattle.std.specs.Prelude.{Result, Ok, Err}
use Rattle.ground.specs.Refusal.{Read, wrong, right, refusal_number}
use Rattle.ground.specs.Outcome.{Injective}
use Rattle.ground.specs.declared.Refusal.TheVariants.{TooLong}
use Rattle.ground.proofs.Checks.{never_right, same_right, same_wrong}
use Rattle.ground.proofs.Refusals.{refusals_told}
use Rattle.ground.proofs.Tests.{by_test, never_both}
use Rattle.texts.specs.Lines.{line_at, past_line}
use Rattle.texts.proofs.Lines.{past_is}
use Rattle.lines.specs.Reading.{heading_of}
use Rattle.lines.specs.Meaning.{HeadingReads, HeadingFault}
use Rattle.lines.specs.declared.Heading.{Heading}
use Rattle.lines.proofs.Promises.{heading_reads, heading_ranges, heading_fault}
use Rattle.book.specs.Meaning.{Sound}
use Rattle.book.specs.declared.Book.{Book}
use Rattle.book.proofs.Soundness.{fresh_sound}
use Rattle.orders.specs.Answers.{book_for, opening, as_begun, not_begun, begun_by}
use Rattle.orders.specs.Meaning.{FirstOf}
use Rattle.orders.specs.History.{new_book}
use Rattle.orders.specs.declared.NotBegun.{NotBegun}
use Rattle.orders.specs.declared.Progress.{Progress}
use Rattle.orders.proofs.Beginning.{too_long, heading_right, heading_wrong, opened_within, first_line_refused, refused_by_nine, refused_by_its_first_line}
use Rattle.orders.proofs.FirstLines.{first_only}
use Rattle.orders.proofs.begin.Reads as begin

-- different beginnings never read the same
pub begun_told : Injective as_begun
begun_told (Ok one) (Ok other) same = ap Ok (same_right same)
begun_told (Ok one) (Err other) same = absurd (never_right (sym same))
begun_told (Err one) (Ok other) same = absurd (never_right same)
begun_told (Err one) (Err other) same =
    let both = same_wrong same in
    let refusals : one.refusal ≡ other.refusal = refusals_told one.refusal other.refusal (ap (λ pair. pair.0) both) in
    let progresses : one.progress ≡ other.progress = ap (λ pair. pair.1) both in
    λ i. Err (record { refusal = refusals i; progress = progresses i })

-- what reads as a refusal by a number is one, with the progress that is read
refused_as :
    (begun : Result Progress NotBegun) (number : ℕ) (progress : Progress) → as_begun begun ≡ wrong (number, progress)
    → (refusal : Refusal) × (refusal_number refusal ≡ number) × (begun ≡ Err (record { refusal = refusal; progress = progress }))
refused_as (Ok one) number progress same = absurd (never_right (sym same))
refused_as (Err refused) number progress same =
    let both = same_wrong same in (
      refused.refusal,
      ap (λ pair. pair.0) both,
      ap (λ (one : Progress). Err (record { refusal = refused.refusal; progress = one })) (ap (λ pair. pair.1) both),
    )

-- the numbers of a first line are those of a sound book
pub heading_sound : (line : List ℕ) (heading : Heading) → HeadingReads line heading → Sound (new_book heading.chambers heading.run)
heading_sound line heading reads = fresh_sound heading.chambers heading.run (heading_ranges line heading ((heading_reads line heading).1 reads))

module _ (text first : List ℕ) (further : List (List ℕ)) (cut : FirstOf text first further) where
  -- its first line is the line at its top
  at_top : first ≡ line_at text 0
  at_top = (first_only text 0 cut).0

  -- a list opens a book exactly when it is not too long and its first line reads, and the book is a fresh one
  pub opens_exactly :
      (book : Book)
      → (opening text ≡ right book)
      ↔ ((length text ≤ 65_536) × ((heading : Heading) × HeadingReads first heading × (book ≡ new_book heading.chambers heading.run)))
  opens_exactly book = (
    λ begun. let within = opened_within text book begun in (within, headed within begun (heading_of (line_at text 0)) refl),
    λ p. heading_right text p.0 p.1.0 (rw at_top at ((heading_reads first p.1.0).1 p.1.1)) ∙ ap right (sym p.1.2),
  )
    where
      headed :
          length text ≤ 65_536 → opening text ≡ right book → (read : Read Heading) → heading_of (line_at text 0) ≡ read
          → (heading : Heading) × HeadingReads first heading × (book ≡ new_book heading.chambers heading.run)
      headed within begun (wrong number) reads = absurd (never_right (sym (heading_wrong text within number reads) ∙ begun))
      headed within begun (right heading) reads =
          (heading, (heading_reads first heading).0 (ap heading_of at_top ∙ reads), same_right (sym begun ∙ heading_right text within heading reads))

  -- and is refused exactly by 9 for its length, and else by the fault of its first line
  pub rejects_exactly :
      (number : ℕ)
      → (opening text ≡ wrong number) ↔ (((number ≡ 9) × (65_536 < length text)) ⊎ ((length text ≤ 65_536) × HeadingFault first number))
  rejects_exactly number = (
    λ refused.
        by_test (eqb number 9)
        (λ same.
        let nine : number ≡ 9 = eqb-true number 9 same in
        inl (nine, (refused_by_nine text).0 (refused ∙ ap wrong nine)))
        (λ other.
        let p = (refused_by_its_first_line text number (λ same. never_both (eq-eqb number 9 same) other)).0 refused in
        inr (p.0, rw at_top p.1)),
    ⊎_elim (λ p. too_long text p.1 ∙ ap wrong (sym p.0))
        (λ p. heading_wrong text p.0 number ((heading_fault (line_at text 0) number).1 (rw at_top at p.1))),
  )

module _ (κs : Lfts 1) (text : Bor (List ℕ)) (begun : Result Progress NotBegun) (after : _) (learnt : begin.Learnt κs (text, tt) begun after) where
  -- a list that is too long
  pub begun_too_long :
      65_536 < length text.now → begun ≡ Err (record { refusal = TooLong; progress = record { at = 0; line = 0; book = new_book 0 0 } })
  begun_too_long over =
      begun_told begun (Err (record { refusal = TooLong; progress = record { at = 0; line = 0; book = new_book 0 0 } }))
      (learnt ∙ ap (begun_by text.now) (too_long text.now over))

  module _ (first : List ℕ) (further : List (List ℕ)) (cut : FirstOf text.now first further) (within : length text.now ≤ 65_536) where
    -- one whose first line is at fault
    pub begun_at_fault :
        (number : ℕ) → HeadingFault first number
        → (refusal : Refusal) × (refusal_number refusal ≡ number)
        × (begun ≡ Err (record { refusal = refusal; progress = record { at = 0; line = 1; book = new_book 0 0 } }))
    begun_at_fault number fault =
        let refused : heading_of (line_at text.now 0) ≡ wrong number =
        (heading_fault (line_at text.now 0) number).1 (rw (first_only text.now 0 cut).0 at fault) in
        refused_as begun number (record { at = 0; line = 1; book = new_book 0 0 })
        (learnt ∙ ap (begun_by text.now) (heading_wrong text.now within number refused)
        ∙ ap (λ line. not_begun line number) (first_line_refused (line_at text.now 0) number refused))

    -- and one that begins
    pub begun_reading :
        (heading : Heading) → HeadingReads first heading
        → begun ≡ Ok (record { at = length first; line = 2; book = new_book heading.chambers heading.run })
    begun_reading heading reads =
        let line = (first_only text.now 0 cut).0 in
        let place : past_line text.now 0 ≡ length first = rw line (omega (arith, past_is text.now 0)) in
        begun_told begun (Ok (record { at = length first; line = 2; book = new_book heading.chambers heading.run }))
        (learnt ∙ ap (begun_by text.now) (heading_right text.now within heading (rw line at ((heading_reads first heading).1 reads)))
        ∙ ap right (λ i. record { at = place i; line = 2; book = book_for heading }))
