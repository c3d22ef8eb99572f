-- A list is clean exactly when the desk refuses none of its lines, and an order line behind clean ones is refused exactly by its first
-- fault. Assumes nothing.
use Prim.Native.Nat.{ℕ, ◌+◌, ◌≤◌, ◌<◌}
use mathlib.Core.Path.{◌≡◌, refl, sym, ap, ◌∙◌}
use mathlib.Core.Logic.{◌↔◌, ⊎_elim}
use mathlib.Core.List.{List, [], ◌∷◌, ◌++◌, map, append-nil, append_assoc, nil≢cons, cons≢nil, head-eq_of_cons-eq, tail-eq_of_cons-eq}
use lib.ListN.{length, take, length-append}
use lib.Dec.{leb}
use native.Mathlib.Omega.{arith}
use borrow.Author.Tests.{leb-true, leb-false}
use Rattle.ground.specs.Refusal.{Read, wrong, right}
use Rattle.ground.specs.Limits.{last_hour, longest_text}
use Rattle.ground.proofs.Checks.{never_right, same_right, same_wrong}
use Rattle.ground.proofs.Tests.{by_test}
use Rattle.texts.specs.Lines.{line_at}
use Rattle.lines.specs.Reading.{heading_of, order_of}
use Rattle.lines.specs.declared.Heading.{Heading}
use Rattle.lines.specs.declared.Order.{Order}
use Rattle.lines.proofs.Promises.{heading_reads, heading_ranges, order_reads, order_ranges, order_fault}
use Rattle.choice.specs.BestFit.{best_fit}
use Rattle.std.specs.Prelude.{Option, None}
use Rattle.std.specs.declared.option.Option.TheVariants as choices
use Rattle.choice.specs.declared.Offer.{Offer}
use Rattle.book.specs.Taking.{decided, next_book, answer_of}
use Rattle.book.specs.Meaning.{Sound, Admitted}
use Rattle.book.specs.declared.Book.{Book}
use Rattle.book.proofs.Soundness.{fresh_sound}
use Rattle.book.proofs.Refusals.{by_choice}
use Rattle.book.proofs.Promises.{stays_sound, refused_by_eight, refused_by_four, refused_by_six, refused_by_five, refused_by_no_other}
use Rattle.orders.specs.Answers.{book_for, opening, order_lines, answers_from, book_after, decision, book_past, refusals_in, refusals}
use Rattle.orders.specs.Meaning.{Each, EachTwo, Some, CleanOrders, CleanList, OrderWrong, misread, full, out_of_turn}
use Rattle.orders.proofs.Each.{each_none, each_before, each_first, each_rest, each_behind, each_last, each_front, two_none, two_before, two_first, two_rest}
use Rattle.orders.proofs.Readings.{orders_exactly}
use Rattle.orders.proofs.FirstLines.{first_exactly}
use Rattle.orders.proofs.Beginning.{heading_right, heading_wrong, opened_within}

-- a book past these orders: it is sound and has counted them, and its clock is the ready hour of the last
pub record Tracks (orders : List Order) (book : Book) : Type 0 where
  pub sound : Sound book
  pub taken : book.taken ≡ length orders
  pub reached : Each (λ order. order.ready ≤ book.clock) orders
  pub clock : (hour : ℕ) → hour < book.clock → Some (λ order. hour < order.ready) orders

-- the book that a first line opens is past none
pub tracks_none : (line : List ℕ) (heading : Heading) → heading_of line ≡ right heading → Tracks [] (book_for heading)
tracks_none line heading headed =
    record {
      sound = fresh_sound heading.chambers heading.run (heading_ranges line heading headed);
      taken = refl;
      reached = each_none;
      clock = λ hour before. absurd (omega arith);
    }

-- an order that the book decides of is counted, and the clock becomes its ready hour
pub next_counts :
    (book : Book) (ready : ℕ) (choice : Option Offer)
    → ((next_book book ready (right choice)).taken ≡ book.taken + 1) × ((next_book book ready (right choice)).clock ≡ ready)
next_counts book ready None = (refl, refl)
next_counts book ready (choices.Some offer) = (refl, refl)

-- hours that were read are in range
read_most : (line : List ℕ) (order : Order) → order_of line ≡ right order → (order.ready ≤ last_hour) × (order.due ≤ last_hour)
read_most line order read = let facts = order_ranges line order read in (facts.2, facts.3)

-- what is decided of a line that reads is what the book decides
decision_reads :
    (book : Book) (line : List ℕ) (order : Order) → order_of line ≡ right order → decision book (order_of line) ≡ decided book order.ready order.due
decision_reads book line order read = rw read

-- where the desk does not refuse a line, it reads as an order of which the book decides
pub decision_right :
    (book : Book) (line : List ℕ) (choice : Option Offer) → decision book (order_of line) ≡ right choice
    → (order : Order) × (order_of line ≡ right order) × (decided book order.ready order.due ≡ right choice)
decision_right book line choice e = go (order_of line) refl e
  where
    go :
        (read : Read Order) → order_of line ≡ read → decision book read ≡ right choice
        → (order : Order) × (order_of line ≡ right order) × (decided book order.ready order.due ≡ right choice)
    go (wrong number) read e = absurd (never_right e)
    go (right order) read e = (order, read, e)

-- A line behind those of these orders.
module _ (book : Book) (seen : List Order) (tracks : Tracks seen book) where
  -- the book admits an order whose hours are in range exactly when it has room for it and no earlier order is ready later
  admitted_exactly :
      (order : Order) → order.ready ≤ last_hour → order.due ≤ last_hour
      → Admitted book order.ready order.due ↔ ((length seen < 512) × Each (λ before. before.ready ≤ order.ready) seen)
  admitted_exactly order ready_most due_most = (
    λ admitted. (
      omega (arith, tracks.taken, admitted.room),
      record { holds = λ front before rest e. omega (arith, tracks.reached.holds front before rest e, admitted.in_turn) },
    ),
    λ p.
        record {
          sound = tracks.sound;
          ready_most = ready_most;
          due_most = due_most;
          room = omega (arith, tracks.taken, p.0);
          in_turn =
              by_test (leb book.clock order.ready) (leb-true book.clock order.ready)
              (λ below.
              let some = tracks.clock order.ready (leb-false book.clock order.ready below) in
              absurd (omega (arith, some.holds, p.1.holds some.front some.one some.rest some.among)));
        },
  )

  -- the book past one order more
  tracks_more :
      (line : List ℕ) (order : Order) (choice : Option Offer) → order_of line ≡ right order → decided book order.ready order.due ≡ right choice
      → Each (λ before. before.ready ≤ order.ready) seen → Tracks (seen ++ order ∷ []) (book_past book (order_of line))
  tracks_more line order choice read decides in_turn =
      let counts = next_counts book order.ready choice in
      rw (read, decides)
      (record {
        sound = rw decides at (stays_sound book order.ready order.due tracks.sound);
        taken = counts.0 ∙ rw (length-append seen (order ∷ [])) (ap (λ count. count + 1) tracks.taken);
        reached = rw counts.1 (each_behind seen in_turn (omega arith));
        clock =
            λ hour before.
            record { front = seen; one = order; rest = []; among = refl; holds = rw counts.1 at before };
      })

  -- the order of a line that is not refused
  pub record Taken (line : List ℕ) : Type 0 where
    pub order : Order
    pub read : order_of line ≡ right order
    pub room : length seen < 512
    pub in_turn : Each (λ before. before.ready ≤ order.ready) seen
    pub next : Tracks (seen ++ order ∷ []) (book_past book (order_of line))

  -- a line that is not refused reads as an order in its turn
  pub taken_from : (line : List ℕ) (choice : Option Offer) → decision book (order_of line) ≡ right choice → Taken line
  taken_from line choice e =
      let p = decision_right book line choice e in
      let order = p.0 in
      let most = read_most line order p.1 in
      let facts = (admitted_exactly order most.0 most.1).0 ((by_choice book order.ready order.due choice).0 p.2).0 in
      record { order = order; read = p.1; room = facts.0; in_turn = facts.1; next = tracks_more line order choice p.1 p.2 facts.1 }

  -- and such a line is not refused
  pub taken_to :
      (line : List ℕ) (order : Order) → order_of line ≡ right order → length seen < 512 → Each (λ before. before.ready ≤ order.ready) seen
      → (choice : Option Offer) × (decision book (order_of line) ≡ right choice) × Tracks (seen ++ order ∷ []) (book_past book (order_of line))
  taken_to line order read room in_turn =
      let most = read_most line order read in
      let choice = best_fit order.ready order.due book.run 1 (take book.chambers book.free) in
      let decides : decided book order.ready order.due ≡ right choice =
      (by_choice book order.ready order.due choice).1 ((admitted_exactly order most.0 most.1).1 (room, in_turn), refl) in
      (choice, decision_reads book line order read ∙ decides, tracks_more line order choice read decides in_turn)

  -- the book refuses an order that was read by 6 or by 5 alone
  refusal_of :
      (line : List ℕ) (order : Order) (number : ℕ) → order_of line ≡ right order → decided book order.ready order.due ≡ wrong number
      → OrderWrong seen line number
  refusal_of line order number read refused =
      let most = read_most line order read in
      ⊎_elim (λ eight. absurd ((refused_by_eight book order.ready order.due).0 (rw eight at refused) tracks.sound))
      (⊎_elim (λ four. absurd (((refused_by_four book order.ready order.due).0 (rw four at refused)).1 most))
      (⊎_elim
      (λ six.
      let facts = (refused_by_six book order.ready order.due).0 (rw six at refused) in
      rw six (full order ((order_reads line order).0 read) (omega (arith, facts.3, tracks.taken))))
      (λ five.
      let facts = (refused_by_five book order.ready order.due).0 (rw five at refused) in
      rw five (out_of_turn order ((order_reads line order).0 read) (omega (arith, facts.3, tracks.taken)) (tracks.clock order.ready facts.4)))))
      (refused_by_no_other book order.ready order.due number refused)

  -- by its first fault a line is refused
  wrong_to : (line : List ℕ) {number : ℕ} → OrderWrong seen line number → decision book (order_of line) ≡ wrong number
  wrong_to line {number} (misread fault) = let read : order_of line ≡ wrong number = (order_fault line number).1 fault in rw read
  wrong_to line (full order reads count) =
      let read = (order_reads line order).1 reads in
      let most = read_most line order read in
      decision_reads book line order read
      ∙ (refused_by_six book order.ready order.due).1 (tracks.sound, most.0, most.1, omega (arith, tracks.taken, count))
  wrong_to line (out_of_turn order reads room some) =
      let read = (order_reads line order).1 reads in
      let most = read_most line order read in
      let before : order.ready < book.clock =
      omega (arith, some.holds, tracks.reached.holds some.front some.one some.rest some.among) in
      decision_reads book line order read
      ∙ (refused_by_five book order.ready order.due).1 (tracks.sound, most.0, most.1, omega (arith, tracks.taken, room), before)

  -- a line is refused exactly by its first fault
  pub order_wrong : (line : List ℕ) (number : ℕ) → (decision book (order_of line) ≡ wrong number) ↔ OrderWrong seen line number
  order_wrong line number = (λ e. go (order_of line) refl e, wrong_to line)
    where
      go : (read : Read Order) → order_of line ≡ read → decision book read ≡ wrong number → OrderWrong seen line number
      go (wrong other) read e = misread ((order_fault line number).0 (read ∙ ap wrong (same_wrong e)))
      go (right order) read e = refusal_of line order number read e

-- lines of which none is refused behind those of other orders
record CleanBehind (seen : List Order) (lines : List (List ℕ)) (orders : List Order) : Type 0 where
  read : map order_of lines ≡ map right orders
  few : length seen + length orders ≤ 512
  behind : Each (λ later. Each (λ before. before.ready ≤ later.ready) seen) orders
  in_turn : EachTwo (λ earlier later. earlier.ready ≤ later.ready) orders

-- none is behind any
clean_none : (book : Book) (seen : List Order) → Tracks seen book → CleanBehind seen [] []
clean_none book seen tracks =
    record { read = refl; few = omega (arith, tracks.taken, tracks.sound.taken_most); behind = each_none; in_turn = two_none }

-- one, and the others behind it
clean_more :
    (seen : List Order) (line : List ℕ) (lines : List (List ℕ)) (order : Order) (orders : List Order) → order_of line ≡ right order
    → Each (λ before. before.ready ≤ order.ready) seen → CleanBehind (seen ++ order ∷ []) lines orders → CleanBehind seen (line ∷ lines) (order ∷ orders)
clean_more seen line lines order orders read in_turn later =
    record {
      read = λ i. read i ∷ later.read i;
      few = omega (arith, length-append seen (order ∷ []), later.few);
      behind = each_before in_turn (record { holds = λ front one rest e. each_front order seen (later.behind.holds front one rest e) });
      in_turn = two_before (record { holds = λ front one rest e. each_last order seen (later.behind.holds front one rest e) }) later.in_turn;
    }

-- the others behind one
clean_rest :
    (seen : List Order) (line : List ℕ) (lines : List (List ℕ)) (order : Order) (orders : List Order) → CleanBehind seen (line ∷ lines) (order ∷ orders)
    → CleanBehind (seen ++ order ∷ []) lines orders
clean_rest seen line lines order orders clean =
    record {
      read = tail-eq_of_cons-eq clean.read;
      few = omega (arith, length-append seen (order ∷ []), clean.few);
      behind =
          record {
            holds =
                λ front one rest e.
                each_behind seen ((each_rest clean.behind).holds front one rest e) ((two_first clean.in_turn).holds front one rest e);
          };
      in_turn = two_rest clean.in_turn;
    }

-- an answer that is no refusal is what the book decided
pub unrefused : (choice : Read (Option Offer)) → refusals_in (answer_of choice) ≡ 0 → (value : Option Offer) × (choice ≡ right value)
unrefused (wrong number) none = absurd (omega arith)
unrefused (right choice) none = (choice, refl)

-- and what it decided is no refusal
pub decided_unrefused : (choice : Option Offer) → refusals_in (answer_of (right choice)) ≡ 0
decided_unrefused None = refl
decided_unrefused (choices.Some offer) = refl

-- lines of which none is refused are clean
clean_from :
    (book : Book) (seen : List Order) → Tracks seen book → (lines : List (List ℕ)) → refusals (answers_from book lines) ≡ 0
    → (orders : List Order) × CleanBehind seen lines orders × Tracks (seen ++ orders) (book_after book lines)
unfolding refusals answers_from book_after
clean_from book seen tracks [] none = ([], clean_none book seen tracks, rw (append-nil seen) tracks)
clean_from book seen tracks (line ∷ lines) none =
    let p = unrefused (decision book (order_of line)) (omega (arith, none)) in
    let one = taken_from book seen tracks line p.0 p.1 in
    let order = one.order in
    let others : refusals (answers_from (book_past book (order_of line)) lines) ≡ 0 = omega (arith, none) in
    let later = clean_from (book_past book (order_of line)) (seen ++ order ∷ []) one.next lines others in (
      order ∷ later.0,
      clean_more seen line lines order later.0 one.read one.in_turn later.1,
      rw (append_assoc seen (order ∷ []) later.0) at later.2,
    )

-- and of clean lines none is refused
clean_to :
    (book : Book) (seen : List Order) → Tracks seen book → (lines : List (List ℕ)) (orders : List Order) → CleanBehind seen lines orders
    → (refusals (answers_from book lines) ≡ 0) × Tracks (seen ++ orders) (book_after book lines)
unfolding refusals answers_from book_after
clean_to book seen tracks [] [] clean = (refl, rw (append-nil seen) tracks)
clean_to book seen tracks [] (order ∷ orders) clean = absurd (nil≢cons clean.read)
clean_to book seen tracks (line ∷ lines) [] clean = absurd (cons≢nil clean.read)
clean_to book seen tracks (line ∷ lines) (order ∷ orders) clean =
    let one = taken_to book seen tracks line order (head-eq_of_cons-eq clean.read) (omega (arith, clean.few)) (each_first clean.behind) in
    let here : refusals_in (answer_of (decision book (order_of line))) ≡ 0 = rw one.1 (decided_unrefused one.0) in
    let later =
    clean_to (book_past book (order_of line)) (seen ++ order ∷ []) one.2 lines orders (clean_rest seen line lines order orders clean) in
    (omega (arith, here, later.0), rw (append_assoc seen (order ∷ []) orders) at later.1)

-- behind none they are clean by themselves
behind_none : (lines : List (List ℕ)) (orders : List Order) → CleanBehind [] lines orders ↔ CleanOrders lines orders
behind_none lines orders = (
  λ clean. record { read = (orders_exactly lines orders).0 clean.read; few = omega (arith, clean.few); in_turn = clean.in_turn },
  λ clean.
      record {
        read = (orders_exactly lines orders).1 clean.read;
        few = omega (arith, clean.few);
        behind = record { holds = λ front one rest e. each_none };
        in_turn = clean.in_turn;
      },
)

-- The lines of a list with a first line that reads.
module _ (line : List ℕ) (heading : Heading) (headed : heading_of line ≡ right heading) (lines : List (List ℕ)) where
  -- where none is refused they are clean, and the book past them has counted them
  pub unrefused_clean :
      refusals (answers_from (book_for heading) lines) ≡ 0
      → (orders : List Order) × CleanOrders lines orders × Tracks orders (book_after (book_for heading) lines)
  unrefused_clean none =
      let p = clean_from (book_for heading) [] (tracks_none line heading headed) lines none in (p.0, (behind_none lines p.0).0 p.1, p.2)

  -- and where they are clean none is refused
  pub clean_unrefused :
      (orders : List Order) → CleanOrders lines orders
      → (refusals (answers_from (book_for heading) lines) ≡ 0) × Tracks orders (book_after (book_for heading) lines)
  clean_unrefused orders clean =
      clean_to (book_for heading) [] (tracks_none line heading headed) lines orders ((behind_none lines orders).1 clean)

  -- behind clean lines a line is refused exactly by its first fault
  pub behind_clean :
      (orders : List Order) → CleanOrders lines orders → (next : List ℕ) (number : ℕ)
      → (decision (book_after (book_for heading) lines) (order_of next) ≡ wrong number) ↔ OrderWrong orders next number
  behind_clean orders clean = order_wrong (book_after (book_for heading) lines) orders (clean_unrefused orders clean).1

-- a list that begins has a first line that reads, and its book is the one which that opens
pub begun_headed :
    (list : List ℕ) (book : Book) → opening list ≡ right book
    → (heading : Heading) × (heading_of (line_at list 0) ≡ right heading) × (book ≡ book_for heading)
begun_headed list book begun = go (heading_of (line_at list 0)) refl
  where
    fits : length list ≤ longest_text
    fits = opened_within list book begun

    go :
        (read : Read Heading) → heading_of (line_at list 0) ≡ read
        → (heading : Heading) × (heading_of (line_at list 0) ≡ right heading) × (book ≡ book_for heading)
    go (wrong number) read = absurd (never_right (sym (heading_wrong list fits number read) ∙ begun))
    go (right heading) read = (heading, read, same_right (sym begun ∙ heading_right list fits heading read))

-- first lines that open the same book are the same
same_heading : (one other : Heading) → book_for one ≡ book_for other → one ≡ other
same_heading one other same =
    let chambers : one.chambers ≡ other.chambers = ap (λ (book : Book). book.chambers) same in
    let run : one.run ≡ other.run = ap (λ (book : Book). book.run) same in
    λ i. record { chambers = chambers i; run = run i }

-- a list is clean exactly when its length, the line at its top and its order lines are so
pub clean_list :
    (list : List ℕ) (heading : Heading) (orders : List Order)
    → CleanList list heading orders
    ↔ ((length list ≤ longest_text) × (heading_of (line_at list 0) ≡ right heading) × CleanOrders (order_lines list) orders)
clean_list list heading orders = (
  λ clean.
      let same = (first_exactly list clean.first clean.further).0 clean.parts in
      (clean.fits, rw same.0 at ((heading_reads clean.first heading).1 clean.headed), rw same.1 at clean.ordered),
  λ p.
      record {
        first = line_at list 0;
        further = order_lines list;
        fits = p.0;
        parts = (first_exactly list (line_at list 0) (order_lines list)).1 (refl, refl);
        headed = (heading_reads (line_at list 0) heading).0 p.1;
        ordered = p.2;
      },
)

-- a list is clean exactly when it begins and the desk refuses none of its lines
pub clean_exactly :
    (list : List ℕ) (heading : Heading)
    → ((opening list ≡ right (book_for heading)) × (refusals (answers_from (book_for heading) (order_lines list)) ≡ 0))
    ↔ ((orders : List Order) × CleanList list heading orders)
clean_exactly list heading = (
  λ p.
      let begun = begun_headed list (book_for heading) p.0 in
      let headed : heading_of (line_at list 0) ≡ right heading = begun.1 ∙ ap right (same_heading begun.0 heading (sym begun.2)) in
      let q = unrefused_clean (line_at list 0) heading headed (order_lines list) p.1 in
      (q.0, (clean_list list heading q.0).1 (opened_within list (book_for heading) p.0, headed, q.1)),
  λ p.
      let clean = (clean_list list heading p.0).0 p.1 in (
        heading_right list clean.0 heading clean.1,
        (clean_unrefused (line_at list 0) heading clean.1 (order_lines list) p.0 clean.2).0,
      ),
)
