-- What opening a book comes to. Assumes nothing.
use Prim.Native.Nat.{ℕ}
use mathlib.Core.Path.{◌≡◌}
use mathlib.Core.Bool.{◌&&◌}
use mathlib.Core.Logic.{◌⊎◌, inl, inr, ⊎_elim}
use Rattle.std.specs.Prelude.{Some, None}
use Rattle.ground.specs.declared.Refusal.TheVariants.{OutOfRange}
use Rattle.ground.specs.Range.{within}
use Rattle.ground.specs.Limits.{most_chambers, longest_run}
use Rattle.ground.proofs.Tests.{by_test, never_both, both, first_of, second_of}
use Rattle.ground.proofs.Range.{within_from, within_low, within_high}
use Rattle.book.specs.Soundness.{fresh_book, opened}
use Rattle.book.specs.Meaning.{Openable}

module _ (chambers run : ℕ) where
  -- both numbers are in range, and a fresh book is opened; or they are not, and 4 comes with a book of zeros
  pub opened_either :
      (Openable chambers run × (opened chambers run ≡ record { refusal = None; book = fresh_book chambers run }))
      ⊎ ((Openable chambers run → ⊥) × (opened chambers run ≡ record { refusal = Some OutOfRange; book = fresh_book 0 0 }))
  unfolding opened
  opened_either =
      let housed = within 1 most_chambers chambers in
      let timed = within 1 longest_run run in
      by_test (housed && timed)
      (λ inside.
      let house = first_of housed timed inside in
      let time = second_of housed timed inside in
      inl (
        (within_low 1 most_chambers chambers house, within_high 1 most_chambers chambers house, within_low 1 longest_run run time, within_high 1 longest_run run time),
        rw inside,
      ))
      (λ outside.
      inr (
        λ inside. never_both (both (within_from 1 most_chambers chambers inside.0 inside.1) (within_from 1 longest_run run inside.2 inside.3)) outside,
        rw outside,
      ))

  pub opened_within : Openable chambers run → opened chambers run ≡ record { refusal = None; book = fresh_book chambers run }
  opened_within inside = ⊎_elim (λ p. p.1) (λ p. absurd (p.0 inside)) opened_either

  pub opened_outside : (Openable chambers run → ⊥) → opened chambers run ≡ record { refusal = Some OutOfRange; book = fresh_book 0 0 }
  opened_outside out = ⊎_elim (λ p. absurd (out p.0)) (λ p. p.1) opened_either
