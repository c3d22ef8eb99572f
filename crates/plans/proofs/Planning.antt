-- Going through a plan: what is known of its loads at each line, and what a line comes to. Assumes nothing.
use Prim.Native.Nat.{ℕ, suc, ◌+◌, ◌-◌, ◌≤◌, ◌<◌}
use mathlib.Core.Path.{◌≡◌, refl, sym, ap, ◌∙◌}
use mathlib.Core.Bool.{Bool, true, false, not}
use mathlib.Core.List.{List, [], ◌∷◌, ◌++◌, map}
use lib.ListN.{length, get_or, take, drop, set, length-append, length-map, length-set}
use lib.Seq.{get_or-set_same, get_or-set_other}
use lib.Dec.{eqb}
use native.Mathlib.Omega.{arith}
use borrow.Author.Tests.{eqb-true, eqb-false, ne_eqb, not-true}
use Rattle.ground.specs.Refusal.{Read, wrong, right, check, ◌>>=◌, ◌>>◌}
use Rattle.ground.specs.Limits.{most_chambers, most_orders, first_order_line}
use Rattle.ground.specs.Range.{within}
use Rattle.ground.proofs.Checks.{never_right, same_right, same_wrong}
use Rattle.ground.proofs.Tests.{by_test}
use Rattle.ground.proofs.Range.{within_low, within_high}
use Rattle.texts.specs.Lines.{lines_of, line_at, past_line}
use Rattle.texts.proofs.WholeText.{part_is_line}
use Rattle.lines.specs.Reading.{load_of}
use Rattle.lines.specs.declared.Order.{Order}
use Rattle.lines.specs.declared.Load.{Load}
use Rattle.lines.proofs.Promises.{load_ranges}
use Rattle.book.specs.Taking.{hold}
use Rattle.book.specs.declared.Book.{Book}
use Rattle.loads.specs.Checks.{load_asked, load_marked, overlap, load_from}
use Rattle.plans.specs.Judging.{through, any_of, stands_in, overlaps_any, load_checked, note_load, plan_judged, loads_counted}
use Rattle.plans.specs.Meaning.{fault_of}
use Rattle.plans.specs.Steps.{orders_from, load_noted}
use Rattle.std.proofs.Math.Bool.{or-true, or-false}
use Rattle.std.proofs.lemmas.List.{map-append}
use Rattle.plans.proofs.Any.{any_more, any_map}
use Rattle.plans.proofs.Chains.{Chained, chained_none, chained_more, Searched, searched_none, found, searched_found, searched_on}
use Rattle.plans.proofs.Pigeonhole.{OrderLines, few_loads, no_order_lines, order_lines_more}
use Rattle.plans.proofs.Going.{through_done, through_on, through_stops}
use Rattle.plans.proofs.Texts.{orders_counted, orders_hours}

-- a load that passes the checks names an order that stands on no earlier line
record Met (run : ℕ) (orders : List Order) (seen : List Load) (load : Load) : Type 0 where
  named : within first_order_line (suc (length orders)) load.order ≡ true
  new : stands_in load.order seen ≡ false
  passed : load_checked run orders seen load ≡ right tt

met : (run : ℕ) (orders : List Order) (seen : List Load) (load : Load) → load_checked run orders seen load ≡ right tt → Met run orders seen load
unfolding load_asked
met run orders seen load passed =
    let facts =
    go (within first_order_line (suc (length orders)) load.order) (not (stands_in load.order seen)) _ passed in
    record { named = facts.0; new = not-true (stands_in load.order seen) facts.1; passed = passed }
  where
    go : (named new : Bool) (rest : Read (Unit {0})) → (check named 11 >> (check new 12 >> rest)) ≡ right tt → (named ≡ true) × (new ≡ true)
    go true true rest passed = (refl, refl)
    go true false rest passed = absurd (never_right passed)
    go false new rest passed = absurd (never_right passed)

-- each order has a plan line kept exactly where it stands among the loads seen
abbrev pub Marks : ℕ → List ℕ → List Load → Type 0
Marks count lines seen =
    (order : ℕ) → within first_order_line (suc count) order ≡ true → eqb (get_or lines (order - first_order_line) 0) 0 ≡ not (stands_in order seen)

-- A plan line, for a list that begins with this book and has orders of these hours.
module _ (book : Book) (readies dues lines : List ℕ) (paired : length dues ≡ length readies) (seen : List Load) where
  -- the orders
  abbrev orders : List Order
  orders = orders_from readies dues

  module _ (marked : Marks (length orders) lines seen) where
    -- the checks by the lines that are kept are the checks by the loads seen
    same_checks : (load : Load) → load_marked book.run readies dues lines load ≡ load_checked book.run orders seen load
    unfolding load_asked
    same_checks load =
        rw (orders_hours readies dues (load.order - first_order_line) paired, ← orders_counted readies dues paired)
        (by_test (within first_order_line (suc (length orders)) load.order) (λ inside. rw (marked load.order inside)) (λ outside. rw outside))

    module _ (line : List ℕ) where
      -- what is asked of a load that reads
      abbrev rest : Load → Read (List Load)
      rest load =
          load_checked book.run orders seen load >> (check (not (overlaps_any (hold book) load seen)) 15 >> right (seen ++ load ∷ []))

      -- the same up to 14, by the lines that are kept
      noted_by : load_noted book.chambers book.run readies dues lines line ≡ (load_of book.chambers line >>= λ load. load_checked book.run orders seen load >> right load)
      unfolding load_noted
      noted_by =
          ap {A = Load → Read (Unit {0})} (λ asked. load_of book.chambers line >>= λ load. asked load >> right load) (λ i load. same_checks load i)

      -- a line that is refused up to 14
      pub line_refused :
          (number : ℕ) → load_noted book.chambers book.run readies dues lines line ≡ wrong number → note_load book orders seen line ≡ wrong number
      unfolding note_load
      line_refused number refused = go (load_of book.chambers line) (sym noted_by ∙ refused)
        where
          of_load : (load : Load) (asked : Read (Unit {0})) (next : Read (List Load)) → (asked >> right load) ≡ wrong number → (asked >> next) ≡ wrong number
          of_load load (wrong other) next e = ap wrong (same_wrong e)
          of_load load (right passed) next e = absurd (never_right (sym e))

          go :
              (read : Read Load) → (read >>= λ load. load_checked book.run orders seen load >> right load) ≡ wrong number
              → ◌≡◌ {A = Read (List Load)} (read >>= rest) (wrong number)
          go (wrong other) e = ap wrong (same_wrong e)
          go (right load) e = of_load load (load_checked book.run orders seen load) _ e

      -- One that is not has a load.
      module _ (load : Load) (noted : load_noted book.chambers book.run readies dues lines line ≡ right load) where
        -- it reads as that, which passes the checks
        reads_passes : (load_of book.chambers line ≡ right load) × (load_checked book.run orders seen load ≡ right tt)
        reads_passes = go (load_of book.chambers line) (sym noted_by ∙ noted)
          where
            of_load : (other : Load) (asked : Read (Unit {0})) → (asked >> right other) ≡ right load → (other ≡ load) × (asked ≡ right tt)
            of_load other (wrong number) e = absurd (never_right e)
            of_load other (right passed) e = (same_right e, refl)

            go :
                (read : Read Load) → (read >>= λ other. load_checked book.run orders seen other >> right other) ≡ right load
                → (read ≡ right load) × (load_checked book.run orders seen load ≡ right tt)
            go (wrong number) e = absurd (never_right e)
            go (right other) e =
                let p = of_load other (load_checked book.run orders seen other) e in
                (ap right p.0, sym (ap (load_checked book.run orders seen) p.0) ∙ p.1)

        line_met : Met book.run orders seen load
        line_met = met book.run orders seen load reads_passes.1

        -- in one of the chambers
        pub chamber_range : (1 ≤ load.chamber) × (load.chamber ≤ book.chambers)
        chamber_range = let ranges = load_ranges book.chambers line load reads_passes.0 in (ranges.1, ranges.2)

        -- and is refused by 15 where it overlaps
        pub line_overlaps : overlaps_any (hold book) load seen ≡ true → note_load book orders seen line ≡ wrong 15
        unfolding note_load
        line_overlaps meets = rw (reads_passes.0, reads_passes.1, meets)

        -- or is noted where it does not
        line_noted : overlaps_any (hold book) load seen ≡ false → note_load book orders seen line ≡ right (seen ++ load ∷ [])
        unfolding note_load
        line_noted apart = rw (reads_passes.0, reads_passes.1, apart)

-- a plan line kept for an order that stands on none yet
marks_more :
    (count : ℕ) (lines : List ℕ) (seen : List Load) (load : Load) (line : ℕ) → within first_order_line (suc count) load.order ≡ true → 1 ≤ line
    → load.order - first_order_line < length lines → Marks count lines seen → Marks count (set lines (load.order - first_order_line) line) (seen ++ load ∷ [])
marks_more count lines seen load line inside some room marked other there =
    by_test (eqb other load.order)
    (λ same.
    let e : other ≡ load.order = eqb-true other load.order same in
    rw (any_more (λ earlier. eqb other earlier.order) seen load, same, ap (λ (number : ℕ). number - first_order_line) e, get_or-set_same lines (load.order - first_order_line) line 0 room, ne_eqb line 0 (λ none. omega arith), or-true)
    refl)
    (λ differs.
    let apart : (other - first_order_line ≡ load.order - first_order_line) → ⊥ =
    λ same. eqb-false other load.order differs (omega (arith, same, within_low first_order_line (suc count) other there, within_low first_order_line (suc count) load.order inside)) in
    rw (any_more (λ earlier. eqb other earlier.order) seen load, differs, get_or-set_other lines (load.order - first_order_line) (other - first_order_line) line 0 apart, or-false) (marked other there))

-- at first none stands
marks_none : (count : ℕ) (lines : List ℕ) → ((place : ℕ) → get_or lines place 0 ≡ 0) → Marks count lines []
unfolding any_of
marks_none count lines zeros order inside = rw (zeros (order - first_order_line))

-- what a line of the plan comes to, noted as a part of the plan
pub noted_line :
    (count run : ℕ) (readies dues lines plan : List ℕ) (at end : ℕ) (noted : Read Load) → end ≡ past_line plan at
    → noted ≡ load_noted count run readies dues lines (take (end - at) (drop at plan)) → load_noted count run readies dues lines (line_at plan at) ≡ noted
noted_line count run readies dues lines plan at end noted past is = sym (is ∙ ap (load_noted count run readies dues lines) (part_is_line plan at end past))

-- the order lines of loads
abbrev order_lines_of : List Load → List ℕ
order_lines_of seen = map (λ load. load.order) seen

-- how far a plan has been gone through: what is left gives what the whole gives, the loads seen are of different orders of the list,
-- and every one of them is reached from the last plan line of its chamber back
pub record Reached (plan : List ℕ) (book : Book) (readies dues lines starts befores lasts : List ℕ) (line at : ℕ) : Type 0 where
  pub seen : List Load
  pub counted : line ≡ suc (length seen)
  pub marked : Marks (length (orders_from readies dues)) lines seen
  pub whole :
      through (note_load book (orders_from readies dues)) true line at seen (lines_of (drop at plan)) ≡ plan_judged plan book (orders_from readies dues)
  pub sized : (length lines ≡ most_orders) × (length starts ≡ most_orders) × (length befores ≡ most_orders) × (length lasts ≡ most_chambers)
  pub named : OrderLines (length (orders_from readies dues)) (order_lines_of seen)
  pub few : length seen ≤ length readies
  pub chained : (chamber : ℕ) → 1 ≤ chamber → Chained starts befores chamber (get_or lasts (chamber - 1) 0) seen

-- at the top nothing is seen
pub reached_top :
    (plan : List ℕ) (book : Book) (readies dues lines starts befores lasts : List ℕ)
    → (length lines ≡ most_orders) × (length starts ≡ most_orders) × (length befores ≡ most_orders) × (length lasts ≡ most_chambers)
    → ((place : ℕ) → get_or lines place 0 ≡ 0) → ((place : ℕ) → get_or lasts place 0 ≡ 0) → Reached plan book readies dues lines starts befores lasts 1 0
unfolding plan_judged
reached_top plan book readies dues lines starts befores lasts sized zeros none =
    record {
      seen = [];
      counted = refl;
      marked = marks_none (length (orders_from readies dues)) lines zeros;
      whole = refl;
      sized = sized;
      named = no_order_lines (length (orders_from readies dues));
      few = omega arith;
      chained = λ chamber low. chained_none starts befores chamber (get_or lasts (chamber - 1) 0) (none (chamber - 1));
    }

module _ {plan : List ℕ} {book : Book} {readies dues lines starts befores lasts : List ℕ} {line at : ℕ}
    (reached : Reached plan book readies dues lines starts befores lasts line at) where
  -- at the end the loads are counted
  pub reached_end : length plan ≤ at → loads_counted plan book (orders_from readies dues) ≡ right (line - 1)
  unfolding loads_counted
  reached_end past =
      let count : line - 1 ≡ length reached.seen = omega (arith, reached.counted) in
      rw (← reached.whole, through_done (note_load book (orders_from readies dues)) true line at reached.seen plan past, count)

  -- a line that cannot be noted is the fault
  pub reached_fault :
      at < length plan → (number : ℕ) → note_load book (orders_from readies dues) reached.seen (line_at plan at) ≡ wrong number
      → loads_counted plan book (orders_from readies dues) ≡ wrong (fault_of number true line at (past_line plan at))
  unfolding loads_counted
  reached_fault inside number refused =
      rw (← reached.whole, through_stops (note_load book (orders_from readies dues)) true line at reached.seen plan inside number refused)

  -- nor one that is refused up to 14
  pub reached_refused :
      length dues ≡ length readies → at < length plan → (number end : ℕ) → end ≡ past_line plan at
      → load_noted book.chambers book.run readies dues lines (line_at plan at) ≡ wrong number
      → loads_counted plan book (orders_from readies dues) ≡ wrong (fault_of number true line at end)
  reached_refused paired inside number end past refused =
      reached_fault inside number (line_refused book readies dues lines paired reached.seen reached.marked (line_at plan at) number refused)
      ∙ ap (λ to. wrong (fault_of number true line at to)) (sym past)

-- a load is noted on the plan line that has been come to
pub record Noting (plan : List ℕ) (book : Book) (readies dues lines starts befores lasts : List ℕ) (line at : ℕ) (load : Load) : Type 0 where
  pub reached : Reached plan book readies dues lines starts befores lasts line at
  pub inside : at < length plan
  pub paired : length dues ≡ length readies
  pub most : length readies ≤ most_orders
  pub chambers : book.chambers ≤ most_chambers
  pub noted : load_noted book.chambers book.run readies dues lines (line_at plan at) ≡ right load

module _ {plan : List ℕ} {book : Book} {readies dues lines starts befores lasts : List ℕ} {line at : ℕ} {load : Load}
    (noting : Noting plan book readies dues lines starts befores lasts line at load) where
  abbrev reached : Reached plan book readies dues lines starts befores lasts line at
  reached = noting.reached

  -- the load passes the checks
  passes : Met book.run (orders_from readies dues) reached.seen load
  passes = line_met book readies dues lines noting.paired reached.seen reached.marked (line_at plan at) load noting.noted

  -- its chamber is one of those that there can be
  pub load_chamber : (1 ≤ load.chamber) × (load.chamber ≤ most_chambers)
  load_chamber =
      let range = chamber_range book readies dues lines noting.paired reached.seen reached.marked (line_at plan at) load noting.noted in
      (range.0, omega (arith, range.1, noting.chambers))

  -- the loads seen in its chamber
  pub chained_there : Chained starts befores load.chamber (get_or lasts (load.chamber - 1) 0) reached.seen
  chained_there = reached.chained load.chamber load_chamber.0

  more : OrderLines (length (orders_from readies dues)) (order_lines_of (reached.seen ++ load ∷ []))
  more =
      rw (map-append (λ (load : Load). load.order) reached.seen (load ∷ []))
      (order_lines_more (length (orders_from readies dues)) load.order (order_lines_of reached.seen) passes.named
      (any_map (λ other. eqb load.order other) (λ load. load.order) reached.seen ∙ passes.new) reached.named)

  -- it has an order of its own, so there is room for it
  pub reached_room : line ≤ length readies
  reached_room =
      omega (
        arith,
        few_loads (length (orders_from readies dues)) (order_lines_of (reached.seen ++ load ∷ [])) more,
        length-map (reached.seen ++ load ∷ []) (λ (load : Load). load.order),
        orders_counted readies dues noting.paired,
        reached.counted,
        length-append reached.seen (load ∷ []),
      )

  -- and for its line
  pub order_room : load.order - first_order_line < most_orders
  order_room =
      omega (
        arith,
        noting.most,
        orders_counted readies dues noting.paired,
        within_high first_order_line (suc (length (orders_from readies dues))) load.order passes.named,
      )

  -- a line that can be noted is passed, with its load at the end of those seen
  pub reached_next :
      overlaps_any (hold book) load reached.seen ≡ false
      → Reached plan book readies dues (set lines (load.order - first_order_line) line) (set starts (line - 1) load.start)
      (set befores (line - 1) (get_or lasts (load.chamber - 1) 0)) (set lasts (load.chamber - 1) line) (line + 1) (past_line plan at)
  reached_next apart =
      let room : line ≤ length readies = reached_room in
      let place : line - 1 ≡ length reached.seen = omega (arith, reached.counted) in
      record {
        seen = reached.seen ++ load ∷ [];
        counted = simp length-append (omega (arith, reached.counted));
        marked =
            marks_more (length (orders_from readies dues)) lines reached.seen load line passes.named (omega (arith, reached.counted))
            (omega (arith, order_room, reached.sized.0)) reached.marked;
        whole =
            sym
            (through_on (note_load book (orders_from readies dues)) true line at reached.seen plan noting.inside _
            (line_noted book readies dues lines noting.paired reached.seen reached.marked (line_at plan at) load noting.noted apart))
            ∙ reached.whole;
        sized = (
          length-set lines (load.order - first_order_line) line ∙ reached.sized.0,
          length-set starts (line - 1) load.start ∙ reached.sized.1,
          length-set befores (line - 1) (get_or lasts (load.chamber - 1) 0) ∙ reached.sized.2,
          length-set lasts (load.chamber - 1) line ∙ reached.sized.3,
        );
        named = more;
        few = simp length-append (omega (arith, room, reached.counted));
        chained =
            rw place
            (chained_more starts befores reached.seen load
            (omega (arith, room, noting.most, reached.sized.1, reached.counted), omega (arith, room, noting.most, reached.sized.2, reached.counted)) lasts line
            reached.counted load_chamber.0 (omega (arith, load_chamber.1, reached.sized.3)) reached.chained);
      }

  -- The search among the loads of its chamber, from a plan line back.
  module _ (held earlier : ℕ) (holds : held ≡ hold book)
      (searched : Searched starts befores held load (get_or lasts (load.chamber - 1) 0) earlier) where
    -- with no line left it overlaps none
    pub reached_apart : earlier ≡ 0 → overlaps_any (hold book) load reached.seen ≡ false
    reached_apart none =
        let there = chained_there in
        ap (λ held. overlaps_any held load reached.seen) (sym holds)
        ∙ sym (there.same held load refl)
        ∙ searched_none starts befores held load (get_or lasts (load.chamber - 1) 0) earlier searched there.loads there.chain none

    module _ (some : earlier ≡ 0 → ⊥) where
      -- that line is one of those seen
      pub earlier_room : (1 ≤ earlier) × (earlier - 1 < most_orders)
      earlier_room =
          let low : 1 ≤ earlier = omega (arith, some) in (low, omega (arith, low, searched.0, chained_there.among, reached.few, noting.most))

      -- the one before it in its chamber is an earlier one
      pub earlier_back : get_or befores (earlier - 1) 0 < earlier
      earlier_back =
          let there = chained_there in
          (found starts befores held load (get_or lasts (load.chamber - 1) 0) earlier searched there.loads there.chain some).back

      -- where that line's load is not overlapped the search goes on
      pub earlier_on :
          overlap held (load_from load.chamber load.start) (load_from load.chamber (get_or starts (earlier - 1) 0)) ≡ false
          → Searched starts befores held load (get_or lasts (load.chamber - 1) 0) (get_or befores (earlier - 1) 0)
      earlier_on apart =
          let there = chained_there in
          searched_on starts befores held load (get_or lasts (load.chamber - 1) 0) earlier there.loads there.chain searched some apart

      -- where it is, that is the fault
      pub reached_overlap :
          overlap held (load_from load.chamber load.start) (load_from load.chamber (get_or starts (earlier - 1) 0)) ≡ true
          → loads_counted plan book (orders_from readies dues) ≡ wrong (fault_of 15 true line at (past_line plan at))
      reached_overlap meets =
          let there = chained_there in
          let any : overlaps_any (hold book) load reached.seen ≡ true =
          ap (λ held. overlaps_any held load reached.seen) (sym holds)
          ∙ sym (there.same held load refl)
          ∙ searched_found starts befores held load (get_or lasts (load.chamber - 1) 0) earlier searched there.loads there.chain some meets in
          reached_fault reached noting.inside 15
          (line_overlaps book readies dues lines noting.paired reached.seen reached.marked (line_at plan at) load noting.noted any)
