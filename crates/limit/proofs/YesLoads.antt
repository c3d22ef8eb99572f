-- The loads of the yeses: each keeps to its order and to the free hour of its chamber, and each two are apart. Assumes nothing.
use Prim.Native.Nat.{ℕ, suc, ◌+◌, ◌-◌, ◌≤◌, ◌<◌}
use mathlib.Core.Path.{◌≡◌, refl, sym, ap}
use mathlib.Core.List.{List, [], ◌∷◌, ◌++◌}
use lib.ListN.{length, get_or}
use lib.Seq.{get_or-set_same, get_or-set_other}
use lib.Dec.{eqb}
use native.Mathlib.Omega.{arith}
use borrow.Author.Tests.{eqb-true, eqb-false}
use Rattle.ground.specs.Refusal.{Read, wrong, right}
use Rattle.ground.specs.Limits.{last_hour}
use Rattle.ground.proofs.Tests.{by_test}
use Rattle.lines.specs.declared.Order.{Order}
use Rattle.lines.specs.declared.Load.{Load}
use Rattle.choice.specs.BestFit.{chamber_at}
use Rattle.book.specs.Taking.{hold, decided, next_book}
use Rattle.book.specs.Settling.{Sized}
use Rattle.book.specs.declared.Book.{Book}
use Rattle.std.specs.Prelude.{Option, Some, None}
use Rattle.choice.specs.declared.Offer.{Offer}
use Rattle.book.specs.declared.Answer.{Answer}
use Rattle.book.specs.declared.Answer.TheVariants.{Yes, No, Refused}
use Rattle.book.proofs.Steps.{yes_exactly}
use Rattle.orders.specs.Meaning.{Each, EachTwo}
use Rattle.plans.specs.Meaning.{Apart}

-- the load of a yes, with the number of its order's line; a no and a refusal have none
abbrev pub yes_load : ℕ → Answer → List Load
yes_load line (Yes chamber start) = record { order = line; chamber = chamber; start = start } ∷ []
yes_load line No = []
yes_load line (Refused number) = []

-- the loads of the yeses among answers, their lines counted from a number on
unfoldable pub yes_loads : ℕ → List Answer → List Load
yes_loads line [] = []
yes_loads line (answer ∷ answers) = yes_load line answer ++ yes_loads (suc line) answers

-- a load that is given to one of these orders, the first of which stands on this line, from this book on: in time, and not before its
-- chamber is free
pub record Given (line : ℕ) (book : Book) (orders : List Order) (load : Load) : Type 0 where
  pub front : List Order
  pub order : Order
  pub rest : List Order
  pub among : orders ≡ front ++ order ∷ rest
  pub listed : load.order ≡ line + length front
  pub not_early : order.ready ≤ load.start
  pub not_late : load.start + book.run ≤ order.due
  pub start_hour : load.start ≤ last_hour
  pub numbered : (1 ≤ load.chamber) × (load.chamber ≤ book.chambers)
  pub freed : get_or book.free (load.chamber - 1) 0 ≤ load.start

-- such loads, no more than orders, of which each two are apart
pub record GivenLoads (line : ℕ) (book : Book) (orders : List Order) (loads : List Load) : Type 0 where
  pub few : length loads ≤ length orders
  pub each : Each (Given line book orders) loads
  pub apart : EachTwo (Apart (hold book)) loads

-- An order that is given to a book, and the orders behind it.
module _ (line : ℕ) (book : Book) (sized : Sized book) (order : Order) (orders : List Order) where
  -- it is decided so
  abbrev pub Decided : Read (Option Offer) → Type 0
  Decided choice = decided book order.ready order.due ≡ choice

  -- and then the next book is this
  abbrev pub next : Read (Option Offer) → Book
  next choice = next_book book order.ready choice

  -- a yes is to a chamber that has a free hour
  housed : (chamber start : ℕ) → Decided (right (chamber_at chamber start)) → chamber - 1 < length book.free
  housed chamber start decision =
      let known = (yes_exactly book order.ready order.due chamber start).0 decision in
      omega (arith, known.1.fitting.numbered, known.0.sound.chambers_range)

  -- no free hour falls
  hours_rise : (choice : Read (Option Offer)) → Decided choice → (place : ℕ) → get_or book.free place 0 ≤ get_or (next choice).free place 0
  hours_rise (wrong number) decision place = omega arith
  hours_rise (right None) decision place = omega arith
  hours_rise (right (Some offer)) decision place =
      let its_own = offer.chamber - 1 in
      by_test (eqb place its_own)
      (λ same.
      rw (eqb-true place its_own same, get_or-set_same book.free its_own (offer.start + hold book) 0 (housed offer.chamber offer.start decision))
      (omega (arith, ((yes_exactly book order.ready order.due offer.chamber offer.start).0 decision).1.started)))
      (λ other. rw (get_or-set_other book.free its_own place (offer.start + hold book) 0 (eqb-false place its_own other)) (omega arith))

  -- the number of chambers and the run stay
  numbers_stay : (choice : Read (Option Offer)) → ((next choice).chambers ≡ book.chambers) × ((next choice).run ≡ book.run)
  numbers_stay (wrong number) = (refl, refl)
  numbers_stay (right None) = (refl, refl)
  numbers_stay (right (Some offer)) = (refl, refl)

  -- so a load that is given from the next book on is given from this one on
  pub given_later : (choice : Read (Option Offer)) → Decided choice → (load : Load) → Given (suc line) (next choice) orders load → Given line book (order ∷ orders) load
  given_later choice decision load given =
      let stay = numbers_stay choice in
      record {
        front = order ∷ given.front;
        order = given.order;
        rest = given.rest;
        among = ap (λ behind. order ∷ behind) given.among;
        listed = omega (arith, given.listed);
        not_early = given.not_early;
        not_late = omega (arith, given.not_late, stay.1);
        start_hour = given.start_hour;
        numbered = omega (arith, given.numbered, stay.0);
        freed = omega (arith, given.freed, hours_rise choice decision (load.chamber - 1));
      }

  -- and so is the load of its own yes
  pub given_now :
      (chamber start : ℕ) → Decided (right (chamber_at chamber start))
      → Given line book (order ∷ orders) (record { order = line; chamber = chamber; start = start })
  given_now chamber start decision =
      let known = (yes_exactly book order.ready order.due chamber start).0 decision in
      let best = known.1 in
      record {
        front = [];
        order = order;
        rest = orders;
        among = refl;
        listed = omega arith;
        not_early = omega (arith, best.started);
        not_late = omega (arith, best.started, best.fitting.in_time);
        start_hour = omega (arith, best.started, best.fitting.in_time, known.0.due_most);
        numbered = best.fitting.numbered;
        freed = omega (arith, best.started);
      }

  -- a later load is apart from that of its yes: its order stands further down, and
  -- their chamber is free only when the yes no longer holds it
  pub apart_later :
      (chamber start : ℕ) → Decided (right (chamber_at chamber start)) → (load : Load) → Given (suc line) (next (right (chamber_at chamber start))) orders load
      → Apart (hold book) (record { order = line; chamber = chamber; start = start }) load
  apart_later chamber start decision load given =
      record {
        orders_differ = λ same. omega (arith, given.listed);
        never_overlap = λ overlap.
            let freed =
            rw (sym overlap.together, get_or-set_same book.free (chamber - 1) (start + hold book) 0 (housed chamber start decision)) at given.freed in
            omega (arith, freed, overlap.other_first);
      }
