-- The plan lines gone through as they are kept: each with the start of its load and the place of the line before it in its chamber.
-- Assumes nothing.
use Prim.Native.Nat.{ℕ, suc, ◌+◌, ◌-◌, ◌<◌}
use mathlib.Core.Path.{◌≡◌, refl, sym, ap, ◌∙◌}
use mathlib.Core.Bool.{true, false, ◌&&◌}
use mathlib.Core.List.{List}
use lib.ListN.{get_or, set, get_or-map}
use native.Mathlib.Omega.{arith}
use Rattle.std.specs.Prelude.{Option, Some, None, eqb, ltb}
use Rattle.std.proofs.Math.Bool.{and_comm}
use Rattle.std.proofs.lemmas.List.{map-set}
use Rattle.ground.specs.Refusal.{wrong}
use Rattle.ground.specs.Limits.{most_orders, first_order_line}
use Rattle.texts.specs.Lines.{past_line}
use Rattle.lines.specs.declared.Load.{Load}
use Rattle.book.specs.Taking.{hold}
use Rattle.book.specs.declared.Book.{Book}
use Rattle.loads.specs.Checks.{overlap, load_from}
use Rattle.plans.specs.Judging.{overlaps_any, loads_counted}
use Rattle.plans.specs.Meaning.{fault_of}
use Rattle.plans.specs.Steps.{orders_from, line_at_place, starts_of, befores_of, lasts_of}
use Rattle.plans.specs.declared.Passed.{Passed}
use Rattle.plans.proofs.Chains.{Searched}
use Rattle.plans.proofs.Planning.{Reached, Noting, reached_next, earlier_room, earlier_back, earlier_on, reached_overlap}

-- none of them
abbrev pub none : Passed
none = record { start = 0; before = None }

module _ (passed : List Passed) (there : ℕ) where
  -- the place of a line, by its number
  place : suc there - 1 ≡ there
  place = omega arith

  -- the start that is kept for a line, and the line before it
  start_at : get_or (starts_of passed) (suc there - 1) 0 ≡ (get_or passed there none).start
  start_at = rw place (get_or-map (λ (one : Passed). one.start) passed there none)

  before_at : get_or (befores_of passed) (suc there - 1) 0 ≡ line_at_place (get_or passed there none).before
  before_at = rw place (get_or-map (λ (one : Passed). line_at_place one.before) passed there none)

-- with no place there is no line
pub none_left : (earlier : Option ℕ) → ((there : ℕ) → earlier ≡ Some there → ⊥) → line_at_place earlier ≡ 0
none_left None never = refl
none_left (Some there) never = absurd (never there refl)

-- two loads in one chamber overlap whichever comes first
turned :
    (held chamber start other : ℕ)
    → overlap held (load_from chamber start) (load_from chamber other) ≡ overlap held (load_from chamber other) (load_from chamber start)
turned held chamber start other = ap (λ times. eqb chamber chamber && times) (and_comm (ltb start (other + held)) (ltb other (start + held)))

-- the last line of a chamber
last_at : (lasts : List (Option ℕ)) (chamber : ℕ) → get_or (lasts_of lasts) chamber 0 ≡ line_at_place (get_or lasts chamber None)
last_at lasts chamber = get_or-map line_at_place lasts chamber None

-- the search goes from the last line of its chamber on: all is left there
pub search_top :
    (passed : List Passed) (lasts : List (Option ℕ)) (held : ℕ) (load : Load)
    → Searched (starts_of passed) (befores_of passed) held load (get_or (lasts_of lasts) (load.chamber - 1) 0) (line_at_place (get_or lasts (load.chamber - 1) None))
search_top passed lasts held load = rw (last_at lasts (load.chamber - 1)) (omega arith, λ loads chain. (loads, chain, refl))

module _ {plan : List ℕ} {book : Book} {readies dues lines : List ℕ} {line at : ℕ} {load : Load} (passed : List Passed) (lasts : List (Option ℕ))
    (noting : Noting plan book readies dues lines (starts_of passed) (befores_of passed) (lasts_of lasts) line at load) where
  -- the line is passed, with its load at the end of those seen
  pub passed_next :
      overlaps_any (hold book) load noting.reached.seen ≡ false
      → Reached plan book readies dues (set lines (load.order - first_order_line) line)
      (starts_of (set passed (line - 1) (record { start = load.start; before = get_or lasts (load.chamber - 1) None })))
      (befores_of (set passed (line - 1) (record { start = load.start; before = get_or lasts (load.chamber - 1) None })))
      (lasts_of (set lasts (load.chamber - 1) (Some (line - 1)))) (line + 1) (past_line plan at)
  passed_next apart =
      let one : Passed = record { start = load.start; before = get_or lasts (load.chamber - 1) None } in
      let its_line : suc (line - 1) ≡ line = omega (arith, noting.reached.counted) in
      let starts = map-set (λ (one : Passed). one.start) passed (line - 1) one in
      let befores = map-set (λ (one : Passed). line_at_place one.before) passed (line - 1) one ∙ ap (set (befores_of passed) (line - 1)) (sym (last_at lasts (load.chamber - 1))) in
      let last = map-set line_at_place lasts (load.chamber - 1) (Some (line - 1)) ∙ ap (set (lasts_of lasts) (load.chamber - 1)) its_line in
      rw (starts, befores, last) (reached_next noting apart)

  -- The search has come to this line.
  module _ (held : ℕ) (earlier : Option ℕ) (there : ℕ) (holds : held ≡ hold book) (here : earlier ≡ Some there)
      (searched : Searched (starts_of passed) (befores_of passed) held load (get_or (lasts_of lasts) (load.chamber - 1) 0) (line_at_place earlier)) where
    searched_here : Searched (starts_of passed) (befores_of passed) held load (get_or (lasts_of lasts) (load.chamber - 1) 0) (suc there)
    searched_here = rw here at searched

    some : suc there ≡ 0 → ⊥
    some zero = omega arith

    -- it is one of those seen
    pub there_room : there < most_orders
    there_room = omega (arith, (earlier_room noting held (suc there) holds searched_here some).1)

    -- the one before it in its chamber is an earlier one
    pub before_falls : line_at_place (get_or passed there none).before < line_at_place earlier
    before_falls = rw (here, ← before_at passed there) (earlier_back noting held (suc there) holds searched_here some)

    -- where its load is not overlapped the search goes on
    pub search_on :
        overlap held (load_from load.chamber (get_or passed there none).start) (load_from load.chamber load.start) ≡ false
        → Searched (starts_of passed) (befores_of passed) held load (get_or (lasts_of lasts) (load.chamber - 1) 0) (line_at_place (get_or passed there none).before)
    search_on apart =
        rw (← before_at passed there)
        (earlier_on noting held (suc there) holds searched_here some (rw (start_at passed there) (turned held load.chamber load.start _ ∙ apart)))

    -- where it is, that is the fault
    pub passed_overlap :
        overlap held (load_from load.chamber (get_or passed there none).start) (load_from load.chamber load.start) ≡ true
        → loads_counted plan book (orders_from readies dues) ≡ wrong (fault_of 15 true line at (past_line plan at))
    passed_overlap meets = reached_overlap noting held (suc there) holds searched_here some (rw (start_at passed there) (turned held load.chamber load.start _ ∙ meets))
