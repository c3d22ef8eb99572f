-- The number of orders that is computed is the number that the rule keeps. Assumes nothing.
use Prim.Native.Nat.{ℕ, suc, ◌+◌}
use mathlib.Core.Path.{◌≡◌, refl}
use mathlib.Core.List.{List, [], ◌∷◌}
use mathlib.Core.Logic.{◌↔◌}
use lib.ListN.{length}
use lib.Seq.{take-length}
use native.Mathlib.Omega.{arith}
use Rattle.choice.specs.BestFit.{chamber_at}
use Rattle.choice.specs.Meaning.{RightChoice}
use Rattle.std.specs.Prelude.{Option, Some, None}
use Rattle.choice.specs.declared.Offer.{Offer}
use Rattle.choice.proofs.Fitting.{right_exactly}
use Rattle.book.specs.History.{OrderHours}
use Rattle.bound.specs.Plans.{Lengths, Keeps, none_left, with_yes, with_no}
use Rattle.bound.specs.Keeping.{choice_of, free_after, kept_by, kept_of}

-- an answer is the rule's exactly where it is the computed one
right_of :
    (run : ℕ) (free : List ℕ) (order : OrderHours) (choice : Option Offer)
    → (choice_of run free order ≡ choice) ↔ RightChoice order.ready order.due run free (length free) choice
right_of run free order choice = rw (take-length free) at (right_exactly order.ready order.due run free (length free) choice)

module _ (lengths : Lengths) where
  -- what the rule keeps is the computed number
  are_kept : {free : List ℕ} {orders : List OrderHours} {count : ℕ} → Keeps lengths free orders count → count ≡ kept_of lengths free orders
  unfolding kept_of
  are_kept none_left = refl
  are_kept (with_yes {free} order chamber start best later) =
      rw ((right_of lengths.run free order (chamber_at chamber start)).1 best) (omega (arith, are_kept later))
  are_kept (with_no {free} order none later) = rw ((right_of lengths.run free order None).1 none) (omega (arith, are_kept later))

  -- an order is kept or not as its answer says
  one_more :
      (free : List ℕ) (order : OrderHours) (orders : List OrderHours) (count : ℕ) (choice : Option Offer)
      → RightChoice order.ready order.due lengths.run free (length free) choice
      → Keeps lengths (free_after lengths.hold free choice) orders count → Keeps lengths free (order ∷ orders) (kept_by choice + count)
  one_more free order orders count None none later = let same : 0 + count ≡ count = omega arith in rw same (with_no order none later)
  one_more free order orders count (Some offer) best later =
      let more : 1 + count ≡ suc count = omega arith in rw more (with_yes order offer.chamber offer.start best later)

  -- and the computed number is kept
  keeps_computed : (free : List ℕ) (orders : List OrderHours) → Keeps lengths free orders (kept_of lengths free orders)
  unfolding kept_of
  keeps_computed free [] = none_left
  keeps_computed free (order ∷ orders) =
      let choice : Option Offer = choice_of lengths.run free order in
      one_more free order orders _ choice ((right_of lengths.run free order choice).0 refl) (keeps_computed (free_after lengths.hold free choice) orders)

  -- so the rule keeps one number of orders, and that is the computed one
  pub kept_exactly :
      (free : List ℕ) (orders : List OrderHours) (count : ℕ) → Keeps lengths free orders count ↔ (count ≡ kept_of lengths free orders)
  kept_exactly free orders count = (are_kept, λ same. rw same (keeps_computed free orders))
