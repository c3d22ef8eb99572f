-- What is known of a book and an order once no check refused it. Assumes nothing.
use Prim.Native.Nat.{ℕ, ◌≤◌, ◌<◌}
use mathlib.Core.Path.{◌≡◌}
use mathlib.Core.Bool.{true}
use lib.ListN.{length, take, length-take}
use native.Mathlib.Omega.{arith}
use Rattle.std.specs.Prelude.{Option, Some, None}
use Rattle.choice.specs.BestFit.{best_fit}
use Rattle.choice.specs.declared.Offer.{Offer}
use Rattle.choice.proofs.Fitting.{Chosen, chosen}
use Rattle.book.specs.Soundness.{is_sound}
use Rattle.book.specs.Settling.{Settles}
use Rattle.book.specs.Meaning.{Sound}
use Rattle.book.specs.declared.Book.{Book}
use Rattle.book.proofs.Soundness.{sound_facts}

-- of a sound book with room for an order whatever is chosen can be settled
pub settles :
    (book : Book) (ready due : ℕ) (choice : Option Offer) → choice ≡ best_fit ready due book.run 1 (take book.chambers book.free)
    → is_sound book ≡ true → due ≤ 999_999 → book.taken < 512 → Settles book choice
settles book ready due choice chose sound in_range room =
    settled choice (rw chose (chosen ready due book.run (take book.chambers book.free)))
  where
    facts : Sound book
    facts = sound_facts book sound

    settled : (choice : Option Offer) → Chosen due book.run (take book.chambers book.free) choice → Settles book choice
    settled None known = room
    settled (Some offer) known =
        let few : length (take book.chambers book.free) ≤ book.chambers = simp length-take (omega arith) in
        (room, facts.kept_most, known.least, omega (arith, known.most, facts.chambers_range.1), omega (arith, known.in_time))
