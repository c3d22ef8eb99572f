-- The desk's yeses are the orders that the rule keeps. Assumes nothing.
use Prim.Native.Nat.{ℕ, ◌+◌, ◌-◌, ◌<◌}
use mathlib.Core.Path.{◌≡◌, refl, sym, ap, ◌∙◌}
use mathlib.Core.List.{List, [], ◌∷◌, map, nil≢cons, cons≢nil, head-eq_of_cons-eq, tail-eq_of_cons-eq}
use lib.ListN.{length-take}
use lib.Seq.{take-set-lt}
use native.Mathlib.Omega.{arith}
use Rattle.ground.specs.Refusal.{Read, wrong, right}
use Rattle.lines.specs.Reading.{order_of}
use Rattle.lines.specs.declared.Order.{Order}
use Rattle.book.specs.Taking.{hold, decided, next_book, answer_of}
use Rattle.book.specs.declared.Book.{Book}
use Rattle.std.specs.Prelude.{Option, Some, None}
use Rattle.choice.specs.declared.Offer.{Offer}
use Rattle.choice.proofs.Fitting.{Chosen, chosen}
use Rattle.book.proofs.Refusals.{by_choice}
use Rattle.orders.specs.Answers.{answers_from, refusals_in, refusals, yeses_in, yeses}
use Rattle.bound.specs.Keeping.{choice_of, free_after, kept_by, kept_of}
use Rattle.limit.proofs.Numbers.{as_order, lengths_of, free_of}

-- an order that is not refused is answered by the rule's choice
answered_by_rule :
    (book : Book) (order : Order) → refusals_in (answer_of (decided book order.ready order.due)) ≡ 0
    → decided book order.ready order.due ≡ right (choice_of book.run (free_of book) (as_order order))
answered_by_rule book order none = by (decided book order.ready order.due) refl none
  where
    by :
        (decision : Read (Option Offer)) → decided book order.ready order.due ≡ decision → refusals_in (answer_of decision) ≡ 0
        → decided book order.ready order.due ≡ right (choice_of book.run (free_of book) (as_order order))
    by (wrong number) e none = absurd (omega arith)
    by (right choice) e none = e ∙ ap right (sym ((by_choice book order.ready order.due choice).0 e).1)

-- the desk counts a choice as the rule does, and so with the lines behind it, where it does so for these from the next book on
counts_alike :
    (book : Book) (order : Order) (choice : Option Offer) (lines : List (List ℕ)) (orders : List Order) → Chosen order.due book.run (free_of book) choice
    → yeses (answers_from (next_book book order.ready (right choice)) lines)
    ≡ kept_of (lengths_of (next_book book order.ready (right choice))) (free_of (next_book book order.ready (right choice))) (map as_order orders)
    → yeses_in (answer_of (right choice)) + yeses (answers_from (next_book book order.ready (right choice)) lines)
    ≡ kept_by choice + kept_of (lengths_of book) (free_after (hold book) (free_of book) choice) (map as_order orders)
counts_alike book order None lines orders inside later = omega arith
counts_alike book order (Some offer) lines orders inside later =
    let below : offer.chamber - 1 < book.chambers = omega (arith, inside.least, simp length-take at inside.most) in
    omega (arith, rw (take-set-lt book.chambers book.free (offer.chamber - 1) (offer.start + hold book) below) at later)

-- of lines that read as orders, none of them refused, the desk answers as many with yes as the rule keeps
pub yeses_are_kept :
    (book : Book) (lines : List (List ℕ)) (orders : List Order) → map order_of lines ≡ map right orders → refusals (answers_from book lines) ≡ 0
    → yeses (answers_from book lines) ≡ kept_of (lengths_of book) (free_of book) (map as_order orders)
unfolding yeses refusals answers_from kept_of
yeses_are_kept book [] [] read none = refl
yeses_are_kept book [] (order ∷ orders) read none = absurd (nil≢cons read)
yeses_are_kept book (line ∷ lines) [] read none = absurd (cons≢nil read)
yeses_are_kept book (line ∷ lines) (order ∷ orders) read none =
    let here : order_of line ≡ right order = head-eq_of_cons-eq read in
    let unrefused = rw here at none in
    let choice = choice_of book.run (free_of book) (as_order order) in
    let answered = answered_by_rule book order (omega (arith, unrefused)) in
    let later = yeses_are_kept (next_book book order.ready (right choice)) lines orders (tail-eq_of_cons-eq read) (omega (arith, rw answered at unrefused)) in
    rw (here, answered) (counts_alike book order choice lines orders (chosen order.ready order.due book.run (free_of book)) later)
