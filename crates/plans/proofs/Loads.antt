-- What is noted of a plan line: a load that reads, keeps to its order and is apart from those before it, or the first fault of the line.
-- Assumes nothing.
use Prim.Native.Nat.{ℕ, suc, ◌+◌, ◌-◌, ◌≤◌, ◌<◌}
use mathlib.Core.Path.{◌≡◌, refl, sym, ap, ◌∙◌}
use mathlib.Core.Bool.{Bool, true, false, not}
use mathlib.Core.Logic.{◌↔◌, ⊎_elim}
use mathlib.Core.List.{List, [], ◌∷◌, ◌++◌}
use lib.ListN.{length, take, drop, length-append}
use lib.Seq.{split_at, get_or_at, length-take-le}
use lib.Dec.{leb, eqb}
use native.Mathlib.Omega.{arith}
use borrow.Author.Tests.{leb-true, leb-false, le-leb, lt-leb, eqb-true, eq-eqb, not-true, not-false}
use Rattle.ground.specs.Refusal.{Read, wrong, right, check, ◌>>=◌, ◌>>◌}
use Rattle.ground.specs.Range.{within}
use Rattle.ground.proofs.Checks.{never_right, same_right, same_wrong}
use Rattle.ground.proofs.Range.{within_from, within_low, within_high}
use Rattle.ground.proofs.Tests.{never_both, not_met}
use Rattle.lines.specs.Reading.{load_of}
use Rattle.lines.specs.Meaning.{LoadReads}
use Rattle.ground.specs.Limits.{first_order_line}
use Rattle.lines.specs.declared.Heading.{Heading}
use Rattle.lines.specs.declared.Order.{Order}
use Rattle.lines.specs.declared.Load.{Load}
use Rattle.lines.proofs.Promises.{load_reads, load_fault}
use Rattle.plans.specs.Judging.{stands_in, overlaps_any, note_load}
use Rattle.loads.specs.Checks.{place_named, order_named, load_asked, overlap}
use Rattle.orders.specs.Answers.{book_for}
use Rattle.orders.specs.Meaning.{Each, Some}
use Rattle.loads.proofs.Refusals as loads
use Rattle.orders.proofs.Each.{each_so}
use Rattle.plans.specs.Meaning.{Names, InTime, hold_of, Overlap, Apart, LoadWrong, misread, unlisted, again, early, late, overlapping}
use Rattle.plans.proofs.Any.{any_some, any_none, some_any, none_any}
use Rattle.plans.proofs.Through.{both_right, one_wrong}

-- whether a load before is of that order
same_order : (number : ℕ) (load : Load) → (eqb number load.order ≡ true) ↔ (load.order ≡ number)
same_order number load = (λ same. sym (eqb-true number load.order same), λ same. eq-eqb number load.order (sym same))

-- whether a load before overlaps it
overlap_exactly : (held : ℕ) (load before : Load) → (overlap held load before ≡ true) ↔ Overlap held before load
overlap_exactly held load before =
    let law = loads.overlap_exactly held load before in (
      λ met. let facts = law.0 met in record { together = sym facts.0; one_first = facts.2; other_first = facts.1 },
      λ facts. law.1 (sym facts.together, facts.other_first, facts.one_first),
    )

-- The order that a load names.
module _ (orders : List Order) (load : Load) where
  -- it has a place among the lines of the list
  names_within : (order : Order) → Names orders load order → within first_order_line (suc (length orders)) load.order ≡ true
  names_within order names =
      let long : length orders ≡ length names.front + suc (length names.rest) =
      ap length names.among ∙ length-append names.front (order ∷ names.rest) in
      within_from first_order_line (suc (length orders)) load.order (omega (arith, names.line)) (omega (arith, names.line, long))

  -- and stands there
  names_order : (order : Order) → Names orders load order → order_named orders load ≡ order
  names_order order names =
      let place : length names.front ≡ place_named load = omega (arith, names.line) in
      rw names.among (get_or_at names.front order names.rest _ (place_named load) place)

  -- a place among them is the place of an order
  within_names : within first_order_line (suc (length orders)) load.order ≡ true → (order : Order) × Names orders load order
  within_names inside =
      let low : first_order_line ≤ load.order = within_low first_order_line (suc (length orders)) load.order inside in
      let high : load.order ≤ suc (length orders) = within_high first_order_line (suc (length orders)) load.order inside in
      let place = load.order - first_order_line in
      let there : place < length orders = omega arith in (
        order_named orders load,
        record {
          front = take place orders;
          rest = drop (suc place) orders;
          among = split_at orders place _ there;
          line = let size : length (take place orders) ≡ place = length-take-le place orders (omega arith) in omega (arith, size);
        },
      )

-- The five checks of a load, one after another.
abbrev checks : Bool → Bool → Bool → Bool → Bool → List Load → Read (List Load)
checks listed new ready due free known =
    (check listed 11 >> (check new 12 >> (check ready 13 >> check due 14))) >> (check free 15 >> right known)

-- the first that is not met
data Unmet (listed new ready due free : Bool) : ℕ → Type 0 where
  of_listed : listed ≡ false → Unmet listed new ready due free 11
  of_new : listed ≡ true → new ≡ false → Unmet listed new ready due free 12
  of_ready : listed ≡ true → new ≡ true → ready ≡ false → Unmet listed new ready due free 13
  of_due : listed ≡ true → new ≡ true → ready ≡ true → due ≡ false → Unmet listed new ready due free 14
  of_free : listed ≡ true → new ≡ true → ready ≡ true → due ≡ true → free ≡ false → Unmet listed new ready due free 15

-- all are met
record AllMet (listed new ready due free : Bool) : Type 0 where
  is_listed : listed ≡ true
  is_new : new ≡ true
  is_ready : ready ≡ true
  is_due : due ≡ true
  is_free : free ≡ true

-- with no refusal all are met
checks_met :
    (listed new ready due free : Bool) (known last : List Load) → checks listed new ready due free known ≡ right last
    → AllMet listed new ready due free × (known ≡ last)
checks_met false new ready due free known last e = absurd (never_right e)
checks_met true false ready due free known last e = absurd (never_right e)
checks_met true true false due free known last e = absurd (never_right e)
checks_met true true true false free known last e = absurd (never_right e)
checks_met true true true true false known last e = absurd (never_right e)
checks_met true true true true true known last e =
    (record { is_listed = refl; is_new = refl; is_ready = refl; is_due = refl; is_free = refl }, same_right e)

-- and all that are met give no refusal
met_checks :
    {listed new ready due free : Bool} (known : List Load) → AllMet listed new ready due free → checks listed new ready due free known ≡ right known
met_checks known met = rw (met.is_listed, met.is_new, met.is_ready, met.is_due, met.is_free)

-- a refusal is that of the first that is not met
checks_unmet :
    (listed new ready due free : Bool) (known : List Load) (number : ℕ) → checks listed new ready due free known ≡ wrong number
    → Unmet listed new ready due free number
checks_unmet false new ready due free known number e = rw (sym (same_wrong e)) (of_listed refl)
checks_unmet true false ready due free known number e = rw (sym (same_wrong e)) (of_new refl refl)
checks_unmet true true false due free known number e = rw (sym (same_wrong e)) (of_ready refl refl refl)
checks_unmet true true true false free known number e = rw (sym (same_wrong e)) (of_due refl refl refl refl)
checks_unmet true true true true false known number e = rw (sym (same_wrong e)) (of_free refl refl refl refl refl)
checks_unmet true true true true true known number e = absurd (never_right (sym e))

-- and the first that is not met refuses
unmet_checks :
    {listed new ready due free : Bool} (known : List Load) {number : ℕ} → Unmet listed new ready due free number
    → checks listed new ready due free known ≡ wrong number
unmet_checks known (of_listed a) = rw a
unmet_checks known (of_new a b) = rw (a, b)
unmet_checks known (of_ready a b c) = rw (a, b, c)
unmet_checks known (of_due a b c d) = rw (a, b, c, d)
unmet_checks known (of_free a b c d e) = rw (a, b, c, d, e)

-- A plan line behind those of these loads.
module _ (heading : Heading) (orders : List Order) (seen : List Load) where
  -- the tests of its load
  abbrev listed : Load → Bool
  listed load = within first_order_line (suc (length orders)) load.order

  -- 12 is not given
  abbrev new : Load → Bool
  new load = not (stands_in load.order seen)

  -- 13 is not given
  abbrev ready : Load → Bool
  ready load = leb (order_named orders load).ready load.start

  -- 14 is not given
  abbrev due : Load → Bool
  due load = leb (load.start + heading.run) (order_named orders load).due

  -- 15 is not given
  abbrev free : Load → Bool
  free load = not (overlaps_any (hold_of heading) load seen)

  -- the checks of its load
  abbrev checked : Load → Read (List Load)
  checked load = checks (listed load) (new load) (ready load) (due load) (free load) (seen ++ load ∷ [])

  -- a line is read and then checked
  in_order : (line : List ℕ) → note_load (book_for heading) orders seen line ≡ (load_of heading.chambers line >>= checked)
  unfolding note_load load_asked
  in_order line = refl

  -- what each test says
  abbrev is_its : Load → Load → Bool
  is_its load before = eqb load.order before.order

  new_exactly : (load : Load) → (new load ≡ true) ↔ Each (λ before. before.order ≡ load.order → ⊥) seen
  new_exactly load = (
    λ met. any_none (is_its load) (λ before. before.order ≡ load.order) (same_order load.order) seen (not-true _ met),
    λ none. rw (none_any (is_its load) (λ before. before.order ≡ load.order) (same_order load.order) none),
  )

  -- 12: one before is of the same order
  again_exactly : (load : Load) → (new load ≡ false) ↔ Some (λ before. before.order ≡ load.order) seen
  again_exactly load = (
    λ unmet. any_some (is_its load) (λ before. before.order ≡ load.order) (same_order load.order) seen (not-false _ unmet),
    λ some. rw (some_any (is_its load) (λ before. before.order ≡ load.order) (same_order load.order) some),
  )

  -- whether it overlaps one before
  abbrev overlaps : Load → Load → Bool
  overlaps load before = overlap (hold_of heading) load before

  -- not 15: it overlaps none before
  free_exactly : (load : Load) → (free load ≡ true) ↔ Each (λ before. Overlap (hold_of heading) before load → ⊥) seen
  free_exactly load = (
    λ met. any_none (overlaps load) (λ before. Overlap (hold_of heading) before load) (overlap_exactly (hold_of heading) load) seen (not-true _ met),
    λ none. rw (none_any (overlaps load) (λ before. Overlap (hold_of heading) before load) (overlap_exactly (hold_of heading) load) none),
  )

  -- 15: it overlaps one before
  taken_exactly : (load : Load) → (free load ≡ false) ↔ Some (λ before. Overlap (hold_of heading) before load) seen
  taken_exactly load = (
    λ unmet. any_some (overlaps load) (λ before. Overlap (hold_of heading) before load) (overlap_exactly (hold_of heading) load) seen (not-false _ unmet),
    λ some. rw (some_any (overlaps load) (λ before. Overlap (hold_of heading) before load) (overlap_exactly (hold_of heading) load) some),
  )

  module _ (load : Load) (order : Order) (names : Names orders load order) where
    -- the order that it names
    abbrev its_order : order_named orders load ≡ order
    its_order = names_order orders load order names

    -- not 13: it starts at ready or later
    ready_exactly : (ready load ≡ true) ↔ (order.ready ≤ load.start)
    ready_exactly = rw its_order (leb-true order.ready load.start, le-leb order.ready load.start)

    -- 13: "start is before ready"
    early_exactly : (ready load ≡ false) ↔ (load.start < order.ready)
    early_exactly = rw its_order (leb-false order.ready load.start, lt-leb order.ready load.start)

    -- not 14: it ends at due or earlier
    due_exactly : (due load ≡ true) ↔ (load.start + heading.run ≤ order.due)
    due_exactly = rw its_order (leb-true (load.start + heading.run) order.due, le-leb (load.start + heading.run) order.due)

    -- 14: "start plus run is after due"
    late_exactly : (due load ≡ false) ↔ (order.due < load.start + heading.run)
    late_exactly = rw its_order (leb-false (load.start + heading.run) order.due, lt-leb (load.start + heading.run) order.due)

  -- all are met by a load that keeps to its order and is apart from those before it
  met_exactly :
      (load : Load)
      → AllMet (listed load) (new load) (ready load) (due load) (free load)
      ↔ (InTime heading.run orders load × Each (λ before. Apart (hold_of heading) before load) seen)
  met_exactly load = (
    λ met.
        let named = within_names orders load met.is_listed in
        let differ = (new_exactly load).0 met.is_new in
        let never = (free_exactly load).0 met.is_free in (
          record {
            order = named.0;
            named = named.1;
            not_early = (ready_exactly load named.0 named.1).0 met.is_ready;
            not_late = (due_exactly load named.0 named.1).0 met.is_due;
          },
          record {
            holds =
                λ front before rest e. record { orders_differ = differ.holds front before rest e; never_overlap = never.holds front before rest e };
          },
        ),
    λ p.
        let kept = p.0 in
        record {
          is_listed = names_within orders load kept.order kept.named;
          is_new = (new_exactly load).1 (each_so (λ before apart. apart.orders_differ) p.1);
          is_ready = (ready_exactly load kept.order kept.named).1 kept.not_early;
          is_due = (due_exactly load kept.order kept.named).1 kept.not_late;
          is_free = (free_exactly load).1 (each_so (λ before apart. apart.never_overlap) p.1);
        },
  )

  -- the load of a line that is noted
  pub record Added (line : List ℕ) (last : List Load) : Type 0 where
    pub load : Load
    pub read : load_of heading.chambers line ≡ right load
    pub in_time : InTime heading.run orders load
    pub apart : Each (λ before. Apart (hold_of heading) before load) seen
    pub known : last ≡ seen ++ load ∷ []

  -- a line is noted exactly when it reads as a load with no fault
  pub line_right :
      (line : List ℕ) (last : List Load) → (note_load (book_for heading) orders seen line ≡ right last) ↔ Added line last
  line_right line last = (
    λ e.
        let p = both_right (load_of heading.chambers line) checked last (sym (in_order line) ∙ e) in
        let load = p.0 in
        let q = checks_met (listed load) (new load) (ready load) (due load) (free load) (seen ++ load ∷ []) last p.2 in
        let facts = (met_exactly load).0 q.0 in
        record { load = load; read = p.1; in_time = facts.0; apart = facts.1; known = sym q.1 },
    λ added.
        let load = added.load in
        in_order line
        ∙ rw added.read (met_checks (seen ++ load ∷ []) ((met_exactly load).1 (added.in_time, added.apart)))
        ∙ ap right (sym added.known),
  )

  -- the first check that is not met is its fault
  unmet_fault :
      (line : List ℕ) (load : Load) {number : ℕ} → LoadReads heading.chambers line load
      → Unmet (listed load) (new load) (ready load) (due load) (free load) number → LoadWrong heading orders seen line number
  unmet_fault line load read (of_listed a) = unlisted load read (λ order names. never_both (names_within orders load order names) a)
  unmet_fault line load read (of_new a b) =
      let named = within_names orders load a in again load named.0 read named.1 ((again_exactly load).0 b)
  unmet_fault line load read (of_ready a b c) =
      let named = within_names orders load a in
      early load named.0 read named.1 ((new_exactly load).0 b) ((early_exactly load named.0 named.1).0 c)
  unmet_fault line load read (of_due a b c d) =
      let named = within_names orders load a in
      late load named.0 read named.1 ((new_exactly load).0 b) ((ready_exactly load named.0 named.1).0 c)
      ((late_exactly load named.0 named.1).0 d)
  unmet_fault line load read (of_free a b c d e) =
      let named = within_names orders load a in
      overlapping load read
      (record {
        order = named.0;
        named = named.1;
        not_early = (ready_exactly load named.0 named.1).0 c;
        not_late = (due_exactly load named.0 named.1).0 d;
      }) ((new_exactly load).0 b) ((taken_exactly load).0 e)

  -- a load that reads is refused by the first check that is not met
  refused_by : (line : List ℕ) (load : Load) {number : ℕ} → LoadReads heading.chambers line load
      → Unmet (listed load) (new load) (ready load) (due load) (free load) number
      → note_load (book_for heading) orders seen line ≡ wrong number
  refused_by line load read unmet =
      let reads = (load_reads heading.chambers line load).1 read in in_order line ∙ rw reads (unmet_checks (seen ++ load ∷ []) unmet)

  -- its first fault refuses it
  fault_then : (line : List ℕ) {number : ℕ} → LoadWrong heading orders seen line number → note_load (book_for heading) orders seen line ≡ wrong number
  fault_then line {number} (misread fault) =
      let read : load_of heading.chambers line ≡ wrong number = (load_fault heading.chambers line number).1 fault in in_order line ∙ rw read
  fault_then line (unlisted load read none) =
      refused_by line load read (of_listed (not_met (λ met. let named = within_names orders load met in none named.0 named.1)))
  fault_then line (again load order read names some) =
      refused_by line load read (of_new (names_within orders load order names) ((again_exactly load).1 some))
  fault_then line (early load order read names none before) =
      refused_by line load read
      (of_ready (names_within orders load order names) ((new_exactly load).1 none) ((early_exactly load order names).1 before))
  fault_then line (late load order read names none kept after) =
      refused_by line load read
      (of_due (names_within orders load order names) ((new_exactly load).1 none) ((ready_exactly load order names).1 kept)
      ((late_exactly load order names).1 after))
  fault_then line (overlapping load read kept none some) =
      refused_by line load read
      (of_free (names_within orders load kept.order kept.named) ((new_exactly load).1 none)
      ((ready_exactly load kept.order kept.named).1 kept.not_early) ((due_exactly load kept.order kept.named).1 kept.not_late)
      ((taken_exactly load).1 some))

  -- and is refused exactly by its first fault
  pub line_wrong :
      (line : List ℕ) (number : ℕ) → (note_load (book_for heading) orders seen line ≡ wrong number) ↔ LoadWrong heading orders seen line number
  line_wrong line number = (
    λ e.
        ⊎_elim (λ read. misread ((load_fault heading.chambers line number).0 read))
        (λ p.
        let load = p.0 in
        unmet_fault line load ((load_reads heading.chambers line load).0 p.1)
        (checks_unmet (listed load) (new load) (ready load) (due load) (free load) (seen ++ load ∷ []) number p.2))
        (one_wrong (load_of heading.chambers line) checked number (sym (in_order line) ∙ e)),
    fault_then line,
  )
