-- When a book is sound, and how it is opened. Assumes nothing.
use Rattle.std.specs.Prelude.{ℕ, Bool, true, cond, ◌&&◌, Option, Some, None, List, [], ◌∷◌, drop, replicate, leb}
use Rattle.std.specs.List.{list_all}
use Rattle.ground.specs.Range.{within}
use Rattle.ground.specs.Refusal.{refusal_number}
use Rattle.ground.specs.declared.Refusal.{Refusal}
use Rattle.ground.specs.declared.Refusal.TheVariants.{OutOfRange}
use Rattle.ground.specs.Limits.{last_hour, most_chambers, longest_run, most_orders}
use Rattle.book.specs.declared.Book.{Book}
use Rattle.book.specs.declared.Opened.{Opened}

-- the last hour that a chamber can be free from
abbrev pub last_free_hour : ℕ
last_free_hour = last_hour

-- no hour of a list is above a limit
unfoldable pub all_up_to : ℕ → List ℕ → Bool
all_up_to limit hours = list_all (λ hour. leb hour limit) hours

-- all of several tests hold
unfoldable pub all_met : List Bool → Bool
all_met [] = true
all_met (test ∷ tests) = test && all_met tests

-- "A book is sound when chambers are 1 to 8, run 1 to 9,999, clock and free hours at most 999,999, kept at most taken, taken at most 512,
-- and chambers above the count have free hour 0."
unfoldable pub soundness : Book → List Bool
soundness book =
    within 1 most_chambers book.chambers
    ∷ within 1 longest_run book.run
    ∷ leb book.clock last_hour
    ∷ all_up_to last_free_hour book.free
    ∷ leb book.kept book.taken
    ∷ leb book.taken most_orders
    ∷ all_up_to 0 (drop book.chambers book.free)
    ∷ []

unfoldable pub is_sound : Book → Bool
is_sound book = all_met (soundness book)

-- "A fresh book has every chamber free from hour 0, the clock at 0 and both counts 0"
abbrev pub fresh_book : ℕ → ℕ → Book
fresh_book chambers run = record { chambers = chambers; run = run; clock = 0; taken = 0; kept = 0; free = replicate most_chambers 0 }

-- "Each refusal returns its number": the number of why something is refused, 0 where it is not
abbrev pub number_told : Option Refusal → ℕ
number_told None = 0
number_told (Some refusal) = refusal_number refusal

-- opening a book: 4 where chambers or run is out of its range, with "a book with every field 0"
unfoldable pub opened : ℕ → ℕ → Opened
opened chambers run =
    cond (within 1 most_chambers chambers && within 1 longest_run run) (record { refusal = None; book = fresh_book chambers run })
    (record { refusal = Some OutOfRange; book = fresh_book 0 0 })
