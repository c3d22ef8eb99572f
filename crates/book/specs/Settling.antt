-- What is so where an order is not refused, so that no sum wraps and every place lies in the array, and what every book has by its type.
-- No promise speaks of it. Assumes nothing.
use Rattle.std.specs.Prelude.{◌+◌, ◌≤◌, ◌<◌, ◌≡◌, Option, Some, None, length}
use Rattle.ground.specs.Limits.{last_hour, most_chambers, most_orders}
use Rattle.book.specs.declared.Book.{Book}
use Rattle.choice.specs.declared.Offer.{Offer}

-- there is room for one more order, and a chosen chamber is one of those that there can be, with a load that ends by the last hour
abbrev pub Settles : Book → Option Offer → Type 0
Settles book None = book.taken < most_orders
Settles book (Some offer) =
    (book.taken < most_orders) × (book.kept ≤ book.taken) × (1 ≤ offer.chamber) × (offer.chamber ≤ most_chambers) × (offer.start + book.run ≤ last_hour)

-- "the free hours of eight chambers"
abbrev pub Sized : Book → Type 0
Sized book = length book.free ≡ 8
