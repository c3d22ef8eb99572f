-- The limit, on the bytes of a list and a plan. Assumes nothing.
use Prim.Native.Nat.{ℕ, zero, suc, ◌+◌, ◌-◌, ◌*◌, ◌^◌, ◌≤◌}
use mathlib.Core.Path.{◌≡◌, refl, sym, ap, ◌∙◌}
use mathlib.Core.List.{List, ◌∷◌, map}
use lib.ListN.{length, take, replicate, length-map}
use native.Mathlib.Omega.{arith}
use Rattle.ground.specs.Refusal.{right}
use Rattle.ground.specs.Limits.{most_chambers}
use Rattle.ground.proofs.Checks.{same_right}
use Rattle.texts.specs.Lines.{lines_of, line_at}
use Rattle.lines.proofs.Promises.{heading_ranges}
use Rattle.book.specs.declared.Book.{Book}
use Rattle.lines.specs.declared.Heading.{Heading}
use Rattle.lines.specs.declared.Order.{Order}
use Rattle.orders.specs.Answers.{order_lines, answers_from, yeses, book_for}
use Rattle.orders.specs.Meaning.{CleanList}
use Rattle.orders.proofs.Readings.{as_many_read, orders_exactly}
use Rattle.orders.proofs.FirstLines.{lines_exactly}
use Rattle.orders.proofs.Clean.{clean_list}
use Rattle.orders.proofs.Promises.{clean_exactly}
use Rattle.plans.specs.Judging.{judged}
use Rattle.plans.specs.Meaning.{Obeys}
use Rattle.plans.proofs.Promises.{right_exactly}
use Rattle.bound.specs.Keeping.{kept_of}
use Rattle.bound.proofs.Promises.{kept_exactly, limit}
use Rattle.limit.proofs.Numbers.{as_order, as_plan_load, lengths_of}
use Rattle.limit.proofs.Kept.{yeses_are_kept}
use Rattle.limit.proofs.Turn.{in_turn}
use Rattle.limit.proofs.Loads.{good_plan}

-- the front of a list of one value is such a list
take_replicate : {A : Type 0} (count all : ℕ) (value : A) → count ≤ all → take count (replicate all value) ≡ replicate count value
take_replicate zero all value few = refl
take_replicate (suc count) zero value few = absurd (omega arith)
take_replicate (suc count) (suc all) value few = ap (λ rest. value ∷ rest) (take_replicate count all value (omega arith))

module _ (list plan : List ℕ) (obeys : Obeys list plan) where
  -- the book that the list begins with
  abbrev list_book : Book
  list_book = book_for obeys.heading

  -- a plan has a load for each of its lines
  loads_counted_lem : length (lines_of plan) ≡ length (map as_plan_load obeys.loads)
  loads_counted_lem = simp length-map (rw (sym (lines_exactly.0 obeys.cut)) (as_many_read obeys.good.read))

  -- the desk's yeses are what the rule keeps from chambers that are free from hour 0
  yeses_counted : yeses (answers_from list_book (order_lines list)) ≡ kept_of (lengths_of list_book) (replicate list_book.chambers 0) (map as_order obeys.orders)
  yeses_counted =
      let clean = (clean_list list obeys.heading obeys.orders).0 obeys.clean in
      let few = (heading_ranges (line_at list 0) obeys.heading clean.1).1 in
      yeses_are_kept list_book (order_lines list) obeys.orders ((orders_exactly (order_lines list) obeys.orders).1 clean.2.read) ((clean_exactly list obeys.heading).1 (obeys.orders, obeys.clean)).1
      ∙ ap (λ free. kept_of (lengths_of list_book) free (map as_order obeys.orders)) (take_replicate list_book.chambers most_chambers 0 few)

  -- the limit, for the book of the plan's own list
  obeying_limit :
      ((list_book.chambers + 1) ^ list_book.chambers - list_book.chambers ^ list_book.chambers) * length (lines_of plan)
      ≤ (list_book.chambers + 1) ^ list_book.chambers * yeses (answers_from list_book (order_lines list))
  obeying_limit =
      rw loads_counted_lem
      (limit list_book.chambers (yeses (answers_from list_book (order_lines list))) (lengths_of list_book) (map as_order obeys.orders)
      (map as_plan_load obeys.loads) (in_turn obeys.orders obeys.clean.ordered.in_turn)
      (good_plan obeys.heading obeys.orders obeys.lines obeys.loads obeys.good)
      ((kept_exactly (lengths_of list_book) (replicate list_book.chambers 0) (map as_order obeys.orders) _).1 yeses_counted))

-- the limit, for every clean list and every plan that the checker judges right
pub limit_on_bytes :
    (list plan : List ℕ) (heading : Heading) (orders : List Order) (m A Z : ℕ) → CleanList list heading orders → heading.chambers ≡ m
    → yeses (answers_from (book_for heading) (order_lines list)) ≡ A → judged list plan ≡ right Z → ((m + 1) ^ m - m ^ m) * Z ≤ (m + 1) ^ m * A
limit_on_bytes list plan heading orders m A Z clean chambers yeses judgement =
    let obeys = (right_exactly list plan Z).0 judgement in
    let its = (clean_list list heading orders).0 clean in
    let same : heading ≡ obeys.0.heading =
    same_right (sym its.1 ∙ ((clean_list list obeys.0.heading obeys.0.orders).0 obeys.0.clean).1) in
    rw (obeys.1, ← chambers, ← yeses, same) (obeying_limit list plan obeys.0)
