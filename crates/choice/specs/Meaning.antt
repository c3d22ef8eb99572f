-- What it means that a chamber is the one that the rule describes, for any number of chambers with any free hours: steps 1 to 4 of the
-- paper. The first chamber is number 1, and its free hour stands first. The computing definition is proved to be this. Assumes nothing.
use Rattle.std.specs.Prelude.{ℕ, ◌+◌, ◌-◌, max, ◌≤◌, ◌≡◌, Option, Some, None, List, length, get_or}
use Rattle.choice.specs.declared.Offer.{Offer}

-- step 1: "For each chamber take the later of its free hour and r"
abbrev pub hour_for : List ℕ → ℕ → ℕ → ℕ
hour_for hours ready chamber = max (get_or hours (chamber - 1) 0) ready

-- step 2: "The chamber fits if that hour plus the run is at most d"; the chambers are those up to a count that have a free hour
pub record Fits (ready due run : ℕ) (hours : List ℕ) (count chamber : ℕ) : Type 0 where
  pub numbered : (1 ≤ chamber) × (chamber ≤ count)
  pub listed : chamber ≤ length hours
  pub in_time : hour_for hours ready chamber + run ≤ due

-- step 3: "Among chambers that fit, take the one whose hour from step 1 is largest; if several are equal, the lowest number. Its start is
-- that hour"
pub record BestFitting (ready due run : ℕ) (hours : List ℕ) (count chamber start : ℕ) : Type 0 where
  pub fitting : Fits ready due run hours count chamber
  pub started : start ≡ hour_for hours ready chamber
  pub largest : (other : ℕ) → Fits ready due run hours count other → hour_for hours ready other ≤ start
  pub lowest : (other : ℕ) → Fits ready due run hours count other → hour_for hours ready other ≡ start → chamber ≤ other

-- step 4: "If none fits the answer is no"
abbrev pub NoneFits : ℕ → ℕ → ℕ → List ℕ → ℕ → Type 0
NoneFits ready due run hours count = (chamber : ℕ) → Fits ready due run hours count chamber → ⊥

-- a choice is right: the chamber that fits best with its start, or nothing where none fits
abbrev pub RightChoice : ℕ → ℕ → ℕ → List ℕ → ℕ → Option Offer → Type 0
RightChoice ready due run hours count None = NoneFits ready due run hours count
RightChoice ready due run hours count (Some offer) = BestFitting ready due run hours count offer.chamber offer.start
