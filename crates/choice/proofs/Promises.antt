-- What this room promises, of whatever its contract admits. Assumes nothing.
use Prim.Native.Nat.{ℕ}
use mathlib.Core.Path.{◌≡◌, sym, ◌∙◌}
use mathlib.Core.Logic.{◌↔◌}
use lib.ListN.{take}
use contract.Lifetimes.{Lfts}
use Rattle.std.specs.Prelude.{Option, Some, None}
use Rattle.ground.specs.Outcome.{Single}
use Rattle.ground.proofs.Outcome.{single_value}
use Rattle.choice.specs.BestFit.{chamber_at, best_fit}
use Rattle.choice.specs.Meaning.{BestFitting, NoneFits}
use Rattle.choice.specs.declared.Offer.{Offer}
use Rattle.choice.proofs.Fitting.{right_exactly}
use Rattle.choice.proofs.best_fit.Reads as best_fit

-- Any hours, any run, any number of chambers with any free hours.
module _ (κs : Lfts 1) (ready due run : ℕ) (hours : _) (count : ℕ) where
  -- 2a: a chamber and a start are answered exactly when that chamber fits best, with that start
  pub chamber_exactly :
      (choice : Option Offer) (after : _) → best_fit.Learnt κs (ready, (due, (run, (hours, (count, tt))))) choice after → (chamber start : ℕ)
      → (choice ≡ chamber_at chamber start) ↔ BestFitting ready due run hours.now count chamber start
  chamber_exactly choice after learnt chamber start =
      let means = right_exactly ready due run hours.now count (chamber_at chamber start) in
      (λ e. means.0 (sym learnt ∙ e), λ best. learnt ∙ means.1 best)

  -- and its two numbers have the names of what they are: the chamber, and the start
  pub chamber_named :
      (choice : Option Offer) (after : _) → best_fit.Learnt κs (ready, (due, (run, (hours, (count, tt))))) choice after → (offer : Offer)
      → (choice ≡ Some offer) ↔ BestFitting ready due run hours.now count offer.chamber offer.start
  chamber_named choice after learnt offer = chamber_exactly choice after learnt offer.chamber offer.start

  -- 2b: nothing is answered exactly when none fits
  pub nothing_exactly :
      (choice : Option Offer) (after : _) → best_fit.Learnt κs (ready, (due, (run, (hours, (count, tt))))) choice after
      → (choice ≡ None) ↔ NoneFits ready due run hours.now count
  nothing_exactly choice after learnt =
      let means = right_exactly ready due run hours.now count None in
      (λ e. means.0 (sym learnt ∙ e), λ none. learnt ∙ means.1 none)

  -- 1d: the contract admits a single outcome
  pub best_fit_single : (after : _) → Single (λ choice. best_fit.Learnt κs (ready, (due, (run, (hours, (count, tt))))) choice after)
  best_fit_single after = single_value (best_fit ready due run 1 (take count hours.now))

-- 1a: the function asks nothing of what it is passed
pub nothing_asked : (κs : Lfts 1) (passed : _) → best_fit.Asked κs passed
nothing_asked κs passed = tt
