-- The BestFit rule with the paper's tie rule: "Among chambers that fit, take the one whose hour from step 1 is largest; if several are
-- equal, the lowest number." Assumes nothing.
use Rattle.std.specs.Prelude.{ℕ, suc, ◌+◌, max, Bool, cond, Option, Some, None, List, [], ◌∷◌, leb, ltb}
use Rattle.choice.specs.declared.Offer.{Offer}

-- step 1: "the later of its free hour and r"
abbrev pub lifted : ℕ → ℕ → ℕ
lifted ready free = max free ready

-- step 2: "The chamber fits if that hour plus the run is at most d"
abbrev pub fits : ℕ → ℕ → ℕ → Bool
fits run due hour = leb (hour + run) due

-- a chamber is chosen, with the start there
abbrev pub chamber_at : ℕ → ℕ → Option Offer
chamber_at chamber start = Some (record { chamber = chamber; start = start })

-- what one chamber offers
unfoldable pub offer : ℕ → ℕ → ℕ → ℕ → ℕ → Option Offer
offer ready due run chamber free = cond (fits run due (lifted ready free)) (chamber_at chamber (lifted ready free)) None

-- step 3: the later start, and the first where they are equal
abbrev pub fuller : Offer → Offer → Offer
fuller one other = cond (ltb one.start other.start) other one

-- the same where a chamber may offer nothing
abbrev pub better : Option Offer → Option Offer → Option Offer
better None other = other
better (Some one) None = Some one
better (Some one) (Some other) = Some (fuller one other)

-- the choice among chambers, counted from a number on
unfoldable pub best_fit : ℕ → ℕ → ℕ → ℕ → List ℕ → Option Offer
best_fit ready due run chamber [] = None
best_fit ready due run chamber (free ∷ others) = better (offer ready due run chamber free) (best_fit ready due run (suc chamber) others)
