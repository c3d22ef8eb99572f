-- How many of several orders the rule keeps, computed; it is proved to be what `Keeps` says. Assumes nothing.
use Rattle.std.specs.Prelude.{ℕ, ◌+◌, ◌-◌, Option, Some, None, List, [], ◌∷◌, set}
use Rattle.choice.specs.BestFit.{best_fit}
use Rattle.book.specs.History.{OrderHours}
use Rattle.choice.specs.declared.Offer.{Offer}
use Rattle.bound.specs.Plans.{Lengths}

-- the rule's answer to an order, where the chambers have these free hours
abbrev pub choice_of : ℕ → List ℕ → OrderHours → Option Offer
choice_of run free order = best_fit order.ready order.due run 1 free

-- the free hours after an answer: a yes takes its chamber for as long as a load holds it
abbrev pub free_after : ℕ → List ℕ → Option Offer → List ℕ
free_after hold free None = free
free_after hold free (Some offer) = set free (offer.chamber - 1) (offer.start + hold)

-- a yes counts one, a no nothing
abbrev pub kept_by : Option Offer → ℕ
kept_by None = 0
kept_by (Some offer) = 1

-- how many of several orders are kept, one after another from given free hours on
unfoldable pub kept_of : Lengths → List ℕ → List OrderHours → ℕ
kept_of lengths free [] = 0
kept_of lengths free (order ∷ orders) =
    kept_by (choice_of lengths.run free order)
    + kept_of lengths (free_after lengths.hold free (choice_of lengths.run free order)) orders
