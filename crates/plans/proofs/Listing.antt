-- The orders of a list: its lines are all noted exactly when they are clean, and else it stops at the first that the desk refuses. Assumes
-- nothing.
use Prim.Native.Nat.{ℕ, ◌+◌}
use mathlib.Core.Path.{◌≡◌, refl, sym, ap, ◌∙◌}
use mathlib.Core.Bool.{false}
use mathlib.Core.Logic.{◌↔◌}
use mathlib.Core.List.{List, [], ◌∷◌, ◌++◌, map, append-nil, append_assoc}
use lib.ListN.{length}
use native.Mathlib.Omega.{arith}
use Rattle.ground.specs.Refusal.{Read, wrong, right, ◌>>◌}
use Rattle.ground.proofs.Checks.{never_right, same_right, same_wrong}
use Rattle.texts.specs.Lines.{line_at, past_line}
use Rattle.texts.specs.Meaning.{joined}
use Rattle.lines.specs.Reading.{heading_of, order_of}
use Rattle.lines.specs.Meaning.{OrderReads}
use Rattle.lines.specs.declared.Heading.{Heading}
use Rattle.lines.specs.declared.Order.{Order}
use Rattle.lines.proofs.Promises.{order_reads}
use Rattle.std.specs.Prelude.{Option}
use Rattle.choice.specs.declared.Offer.{Offer}
use Rattle.book.specs.Taking.{answer_of}
use Rattle.orders.specs.Answers.{book_for, order_lines, answers_from, book_after, decision, book_past, refusals_in, refusals, order_in}
use Rattle.orders.specs.Meaning.{EachReads, none_left, one_more, CleanOrders, OrderWrong}
use Rattle.orders.proofs.Clean.{unrefused, decided_unrefused, unrefused_clean, clean_unrefused, behind_clean}
use Rattle.plans.specs.Judging.{ListKnown, note_order, list_judged}
use Rattle.plans.specs.Meaning.{fault_of}
use Rattle.plans.specs.declared.Fault.{Fault}
use Rattle.plans.proofs.Through.{Reaches, through_right, through_wrong}

-- one thing after another comes to a value where both do
then_right : {A B : Type 0} (first : Read A) (next last : B) → (first >> right next) ≡ right last → (value : A) × (first ≡ right value) × (next ≡ last)
then_right (wrong number) next last e = absurd (never_right e)
then_right (right value) next last e = (value, refl, same_right e)

-- and is refused where the first is
then_wrong : {A B : Type 0} (first : Read A) (next : B) (number : ℕ) → (first >> right next) ≡ wrong number → first ≡ wrong number
then_wrong (wrong other) next number e = ap wrong (same_wrong e)
then_wrong (right value) next number e = absurd (never_right (sym e))

-- A line of a list.
module _ (known : ListKnown) (line : List ℕ) where
  -- what is known with it
  abbrev pub known_with : ListKnown
  known_with = record { book = book_past known.book (order_of line); orders = known.orders ++ order_in (order_of line) ∷ [] }

  -- it is noted where the desk decides of it
  pub line_noted : (choice : Option Offer) → decision known.book (order_of line) ≡ right choice → note_order known line ≡ right known_with
  unfolding note_order
  line_noted choice e = rw e

  -- and only there
  noted_line : (last : ListKnown) → note_order known line ≡ right last → (choice : Option Offer) × (decision known.book (order_of line) ≡ right choice) × (known_with ≡ last)
  unfolding note_order
  noted_line last e = then_right (decision known.book (order_of line)) known_with last e

  -- it is refused exactly where the desk refuses it
  pub line_refused : (number : ℕ) → (note_order known line ≡ wrong number) ↔ (decision known.book (order_of line) ≡ wrong number)
  unfolding note_order
  line_refused number = (then_wrong (decision known.book (order_of line)) known_with number, λ e. rw e)

-- what is known past lines
abbrev known_after : ListKnown → List (List ℕ) → ListKnown
known_after known lines = record { book = book_after known.book lines; orders = known.orders ++ map (λ line. order_in (order_of line)) lines }

-- past one more
known_more : (known : ListKnown) (line : List ℕ) (lines : List (List ℕ)) → known_after (known_with known line) lines ≡ known_after known (line ∷ lines)
unfolding book_after
known_more known line lines =
    let orders = append_assoc known.orders (order_in (order_of line) ∷ []) (map (λ line. order_in (order_of line)) lines) in
    λ i. record { book = book_after (book_past known.book (order_of line)) lines; orders = orders i }

-- past none
known_none : (known : ListKnown) → known ≡ known_after known []
unfolding book_after
known_none known = let orders = sym (append-nil known.orders) in λ i. record { book = known.book; orders = orders i }

-- lines that are all noted are not refused
reached_unrefused :
    (known : ListKnown) (lines : List (List ℕ)) (last : ListKnown) → Reaches note_order known lines last
    → (refusals (answers_from known.book lines) ≡ 0) × (last ≡ known_after known lines)
unfolding refusals answers_from
reached_unrefused known [] last reached = (refl, sym reached ∙ known_none known)
reached_unrefused known (line ∷ lines) last reached =
    let here = noted_line known line reached.0 reached.1 in
    let counts : refusals_in (answer_of (decision known.book (order_of line))) ≡ 0 = rw here.1 (decided_unrefused here.0) in
    let later = reached_unrefused (known_with known line) lines last (rw here.2 reached.2) in
    (omega (arith, counts, later.0), later.1 ∙ known_more known line lines)

-- and lines of which none is refused are all noted
unrefused_reached :
    (known : ListKnown) (lines : List (List ℕ)) → refusals (answers_from known.book lines) ≡ 0 → Reaches note_order known lines (known_after known lines)
unfolding refusals answers_from
unrefused_reached known [] none = known_none known
unrefused_reached known (line ∷ lines) none =
    let p = unrefused (decision known.book (order_of line)) (omega (arith, none)) in
    let others : refusals (answers_from (book_past known.book (order_of line)) lines) ≡ 0 = omega (arith, none) in
    (known_with known line, line_noted known line p.0 p.1, rw (← known_more known line lines) (unrefused_reached (known_with known line) lines others))

-- the orders of lines that all read
orders_read : {lines : List (List ℕ)} {orders : List Order} → EachReads OrderReads lines orders → map (λ line. order_in (order_of line)) lines ≡ orders
orders_read none_left = refl
orders_read (one_more {line = line} {one = order} read others) =
    let here : order_of line ≡ right order = (order_reads line order).1 read in
    let later = orders_read others in rw (here, later)

module _ (list : List ℕ) (heading : Heading) (headed : heading_of (line_at list 0) ≡ right heading) where
  -- nothing is known at the top but the book
  abbrev top : ListKnown
  top = record { book = book_for heading; orders = [] }

  -- lines that are all noted from the top are clean
  noted_clean :
      (lines : List (List ℕ)) (last : ListKnown) → Reaches note_order top lines last
      → (orders : List Order) × CleanOrders lines orders × (last.book ≡ book_after (book_for heading) lines) × (last.orders ≡ orders)
  noted_clean lines last reached =
      let p = reached_unrefused top lines last reached in
      let q = unrefused_clean (line_at list 0) heading headed lines p.0 in
      (q.0, q.1, ap (λ (known : ListKnown). known.book) p.1, ap (λ (known : ListKnown). known.orders) p.1 ∙ orders_read q.1.read)

  -- and clean lines are all noted
  clean_noted :
      (lines : List (List ℕ)) (orders : List Order) → CleanOrders lines orders
      → (last : ListKnown) × Reaches note_order top lines last × (last.book ≡ book_after (book_for heading) lines) × (last.orders ≡ orders)
  clean_noted lines orders clean =
      let none = (clean_unrefused (line_at list 0) heading headed lines orders clean).0 in
      (known_after top lines, unrefused_reached top lines none, refl, orders_read clean.read)

  -- a list that comes to what is known of it is clean
  pub list_right :
      (known : ListKnown) → list_judged list (book_for heading) ≡ right known → CleanOrders (order_lines list) known.orders
  unfolding list_judged
  list_right known e =
      let p = noted_clean (order_lines list) known ((through_right note_order false 2 (past_line list 0) top (order_lines list) known).0 e) in
      rw p.3 p.1

  -- and a clean list comes to what is known of it
  pub list_clean :
      (orders : List Order) → CleanOrders (order_lines list) orders
      → (known : ListKnown) × (list_judged list (book_for heading) ≡ right known) × (known.orders ≡ orders)
  unfolding list_judged
  list_clean orders clean =
      let p = clean_noted (order_lines list) orders clean in
      (p.0, (through_right note_order false 2 (past_line list 0) top (order_lines list) p.0).1 p.1, p.3)

  -- the first order line of a list that the desk would refuse
  pub record ListFault (fault : Fault) : Type 0 where
    pub front : List (List ℕ)
    pub line : List ℕ
    pub rest : List (List ℕ)
    pub among : order_lines list ≡ front ++ line ∷ rest
    pub orders : List Order
    pub clean : CleanOrders front orders
    pub number : ℕ
    pub at_fault : OrderWrong orders line number
    pub told :
        fault ≡ fault_of number false (2 + length front) (past_line list 0 + length (joined front)) (past_line list 0 + length (joined front) + length line)

  -- it comes to a fault exactly when that is the fault of its first line that has one
  pub list_wrong : (fault : Fault) → (list_judged list (book_for heading) ≡ wrong fault) ↔ ListFault fault
  unfolding list_judged
  list_wrong fault = (
    λ e.
        let stops = (through_wrong note_order false 2 (past_line list 0) top (order_lines list) fault).0 e in
        let p = noted_clean stops.front stops.before stops.reached in
        record {
          front = stops.front;
          line = stops.text;
          rest = stops.rest;
          among = stops.among;
          orders = p.0;
          clean = p.1;
          number = stops.number;
          at_fault =
              (behind_clean (line_at list 0) heading headed stops.front p.0 p.1 stops.text stops.number).0
              (rw p.2 at ((line_refused stops.before stops.text stops.number).0 stops.refused));
          told = stops.told;
        },
    λ wrongly.
        let p = clean_noted wrongly.front wrongly.orders wrongly.clean in
        (through_wrong note_order false 2 (past_line list 0) top (order_lines list) fault).1
        (record {
          front = wrongly.front;
          text = wrongly.line;
          rest = wrongly.rest;
          among = wrongly.among;
          before = p.0;
          reached = p.1;
          number = wrongly.number;
          refused =
              (line_refused p.0 wrongly.line wrongly.number).1
              (rw p.2
              ((behind_clean (line_at list 0) heading headed wrongly.front wrongly.orders wrongly.clean wrongly.line wrongly.number).1
              wrongly.at_fault));
          told = wrongly.told;
        }),
  )
