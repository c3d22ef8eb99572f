-- The judgement of both texts: how the list begins, its orders, then the plan. Assumes nothing.
use Prim.Native.Nat.{ℕ, zero, suc, ◌+◌, ◌≤◌}
use mathlib.Core.Path.{◌≡◌, refl, ap, ◌∙◌}
use mathlib.Core.Bool.{true, false, not}
use mathlib.Core.List.{List, [], ◌∷◌, ◌++◌}
use lib.ListN.{length, get_or, take, length-map, get_or-map}
use native.Mathlib.Omega.{arith}
use Rattle.std.specs.Prelude.{Ok}
use Rattle.ground.specs.Refusal.{Read, wrong, right, check, ◌>>=◌, ◌>>◌}
use Rattle.ground.specs.Limits.{most_chambers}
use Rattle.texts.specs.Lines.{line_at, past_line, lines_of}
use Rattle.lines.specs.Reading.{load_of}
use Rattle.lines.specs.declared.Order.{Order}
use Rattle.lines.specs.declared.Load.{Load}
use Rattle.lines.proofs.Promises.{heading_ranges}
use Rattle.book.specs.Taking.{hold}
use Rattle.book.specs.declared.Book.{Book}
use Rattle.loads.specs.Checks.{place_named, order_named, order_from, load_asked}
use Rattle.orders.specs.Answers.{opening, begun_with, begun_by}
use Rattle.orders.specs.declared.Progress.{Progress}
use Rattle.orders.proofs.Beginning.{begun_wrong, begun_right, opened_fresh_book}
use Rattle.orders.proofs.Clean.{begun_headed}
use Rattle.orders.proofs.Places.{begun_left}
use Rattle.plans.specs.Judging.{fitting, through, overlaps_any, load_checked, note_load, list_judged, plan_judged, loads_counted, both_judged, judged}
use Rattle.plans.specs.Meaning.{fault_of}
use Rattle.plans.specs.Steps.{orders_left, HoursAre, OrdersAre, orders_from}
use Rattle.plans.specs.declared.Fault.{Fault}

-- A list that has begun so.
module _ (list : List ℕ) (progress : Progress) (begun : opening list ≡ right progress.book) (there : progress ≡ begun_with list progress.book) where
  -- its orders are left
  pub orders_begun : orders_left list progress [] ≡ list_judged list progress.book
  unfolding list_judged
  orders_begun = ap (λ here. orders_left list here []) there ∙ rw (begun_left list)

  -- the first stands on line 2, and the book has taken none
  pub begins : (progress.book.taken ≡ 0) × (progress.line ≤ progress.at + 2)
  begins =
      let line : progress.line ≡ 2 = ap (λ (here : Progress). here.line) there in
      ((opened_fresh_book list progress.book begun).0, omega (arith, line))

  -- it has no more chambers than there can be
  pub chambers_most : progress.book.chambers ≤ most_chambers
  chambers_most =
      let headed = begun_headed list progress.book begun in
      let most = (heading_ranges (line_at list 0) headed.0 headed.1).1 in
      omega (arith, most, ap (λ (book : Book). book.chambers) headed.2)

-- Orders of which the hours are kept.
-- there are as many
pub orders_counted : (readies dues : List ℕ) → length dues ≡ length readies → length (orders_from readies dues) ≡ length readies
unfolding orders_from
orders_counted [] dues same = refl
orders_counted (ready ∷ readies) [] same = absurd (omega arith)
orders_counted (ready ∷ readies) (due ∷ dues) same = omega (arith, orders_counted readies dues (omega arith))

-- each has its own
pub orders_hours :
    (readies dues : List ℕ) (place : ℕ) → length dues ≡ length readies
    → get_or (orders_from readies dues) place (order_from 0 0) ≡ order_from (get_or readies place 0) (get_or dues place 0)
unfolding orders_from
orders_hours [] [] place same = refl
orders_hours [] (due ∷ dues) place same = absurd (omega arith)
orders_hours (ready ∷ readies) [] place same = absurd (omega arith)
orders_hours (ready ∷ readies) (due ∷ dues) zero same = refl
orders_hours (ready ∷ readies) (due ∷ dues) (suc place) same = orders_hours readies dues place (omega arith)

-- the plan is judged by their hours alone
module _ (orders : List Order) (readies dues : List ℕ) (hours : HoursAre orders readies dues) where
  -- there are as many hours of both kinds
  pub as_many_hours : (length readies ≡ length orders) × (length dues ≡ length orders)
  as_many_hours =
      (ap length hours.ready_hours ∙ length-map orders (λ (order : Order). order.ready), ap length hours.due_hours ∙ length-map orders (λ (order : Order). order.due))

  -- an order has the hours that are kept for it
  same_hours : (load : Load) → order_named (orders_from readies dues) load ≡ order_from (order_named orders load).ready (order_named orders load).due
  same_hours load =
      orders_hours readies dues (place_named load) (omega (arith, as_many_hours.0, as_many_hours.1))
      ∙ rw (hours.ready_hours, hours.due_hours, get_or-map (λ (order : Order). order.ready) orders (place_named load) (order_from 0 0), get_or-map (λ (order : Order). order.due) orders (place_named load) (order_from 0 0))

  -- so a load is asked the same
  same_asked : (run : ℕ) (loads : List Load) (load : Load) → load_checked run (orders_from readies dues) loads load ≡ load_checked run orders loads load
  unfolding load_asked
  same_asked run loads load =
      let count : length (orders_from readies dues) ≡ length orders =
      orders_counted readies dues (omega (arith, as_many_hours.0, as_many_hours.1)) ∙ as_many_hours.0 in
      rw (count, same_hours load)

  -- a line comes to the same
  same_note : (book : Book) (loads : List Load) (line : List ℕ) → note_load book (orders_from readies dues) loads line ≡ note_load book orders loads line
  unfolding note_load
  same_note book loads line =
      ap {A = Load → Read (Unit {0})}
      (λ asked.
      load_of book.chambers line >>= λ load. asked load >> (check (not (overlaps_any (hold book) load loads)) 15 >> right (loads ++ load ∷ [])))
      (λ i load. same_asked book.run loads load i)

  -- and the plan
  pub same_loads : (plan : List ℕ) (book : Book) → loads_counted plan book (orders_from readies dues) ≡ loads_counted plan book orders
  unfolding loads_counted plan_judged
  same_loads plan book =
      ap {A = List Load → List ℕ → Read (List Load)} (λ note. through note true 1 0 [] (lines_of plan) >>= λ all. right (length all))
      (λ i loads line. same_note book loads line i)

module _ (list plan : List ℕ) where
  -- a fault of the list is the answer
  pub list_faulty : (book : Book) (fault : Fault) → list_judged list book ≡ wrong fault → wrong fault ≡ both_judged list plan book
  unfolding both_judged
  list_faulty book fault faulty = rw faulty

  -- without one the plan's judgement is, by the hours of the orders
  pub list_faultless :
      (book : Book) (count : ℕ) (readies dues : List ℕ) → OrdersAre (list_judged list book) (Ok count) readies dues
      → loads_counted plan book (orders_from (take count readies) (take count dues)) ≡ both_judged list plan book
  unfolding both_judged
  list_faultless book count readies dues are =
      same_loads are.0.orders (take count readies) (take count dues) are.2 plan book ∙ rw are.1

  -- How the list begins, where neither text is too long.
  module _ (list_fits : fitting false list ≡ right tt) (plan_fits : fitting true plan ≡ right tt) where
    -- a fault of the first line
    pub first_line_faulty :
        (number : ℕ) (progress : Progress) → begun_by list (opening list) ≡ wrong (number, progress) → (end : ℕ) → end ≡ past_line list 0
        → judged list plan ≡ wrong (fault_of number false 1 0 end)
    unfolding judged
    first_line_faulty number progress begun end past =
        let refused = (begun_wrong list number progress begun).0 in
        rw (past, list_fits, plan_fits, refused)

    -- else the orders and the plan
    judged_begun : (book : Book) → opening list ≡ right book → judged list plan ≡ both_judged list plan book
    unfolding judged
    judged_begun book opens = rw (list_fits, plan_fits, opens)

    pub list_begun :
        (progress : Progress) → begun_by list (opening list) ≡ right progress
        → (opening list ≡ right progress.book) × (progress ≡ begun_with list progress.book)
        × (judged list plan ≡ both_judged list plan progress.book)
    list_begun progress begun =
        let opens = begun_right list progress begun in
        (opens.0, opens.1, judged_begun progress.book opens.0)
