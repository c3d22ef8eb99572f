-- The loads of a chamber, from the last back to the first: for each plan line the line before it in its chamber is kept, 0 for none.
-- Assumes nothing.
use Prim.Native.Nat.{ℕ, suc, ◌-◌, ◌≤◌, ◌<◌}
use mathlib.Core.Path.{◌≡◌, refl, sym, ap, ◌∙◌}
use mathlib.Core.Bool.{true, false, ◌||◌}
use mathlib.Core.List.{List, [], ◌∷◌, ◌++◌}
use lib.ListN.{length, get_or, set, length-append}
use lib.Seq.{get_or-set_same, get_or-set_other}
use lib.Dec.{eqb}
use native.Mathlib.Omega.{arith}
use borrow.Author.Tests.{eqb-true, eqb-false, ne_eqb}
use Rattle.ground.proofs.Tests.{by_test}
use Rattle.lines.specs.declared.Load.{Load}
use Rattle.loads.specs.Checks.{overlap, load_from}
use Rattle.plans.specs.Judging.{any_of, overlaps_any}
use Rattle.std.proofs.Math.Bool.{or_comm, or-false}
use Rattle.plans.proofs.Any.{any_more}

-- from a plan line back the loads of a chamber are these, with the starts that are kept for their lines
abbrev pub Chain : List ℕ → List ℕ → ℕ → ℕ → List Load → Type 0
Chain starts befores chamber line [] = line ≡ 0
Chain starts befores chamber line (load ∷ loads) =
    (1 ≤ line) × (get_or befores (line - 1) 0 < line) × (load.chamber ≡ chamber) × (load.start ≡ get_or starts (line - 1) 0)
    × Chain starts befores chamber (get_or befores (line - 1) 0) loads

-- lines that are kept later change nothing of it
chain_kept :
    (starts befores : List ℕ) (chamber line place start before : ℕ) (loads : List Load) → line ≤ place → Chain starts befores chamber line loads
    → Chain (set starts place start) (set befores place before) chamber line loads
chain_kept starts befores chamber line place start before [] low none = none
chain_kept starts befores chamber line place start before (load ∷ loads) low chain =
    let apart : (line - 1 ≡ place) → ⊥ = λ same. omega (arith, same, low, chain.0) in
    let same_before = get_or-set_other befores place (line - 1) before 0 apart in
    let same_start = get_or-set_other starts place (line - 1) start 0 apart in
    rw (same_before, same_start) (
      chain.0,
      chain.1,
      chain.2,
      chain.3,
      chain_kept starts befores chamber (get_or befores (line - 1) 0) place start before loads (omega (arith, low, chain.1)) chain.4,
    )

-- the loads seen that stand in a chamber are reached from this line back: a load in it overlaps one of them exactly where it overlaps one
-- of all
pub record Chained (starts befores : List ℕ) (chamber line : ℕ) (seen : List Load) : Type 0 where
  pub loads : List Load
  pub chain : Chain starts befores chamber line loads
  pub among : line ≤ length seen
  pub same : (held : ℕ) (load : Load) → load.chamber ≡ chamber → overlaps_any held load loads ≡ overlaps_any held load seen

-- at first there is none
pub chained_none : (starts befores : List ℕ) (chamber line : ℕ) → line ≡ 0 → Chained starts befores chamber line []
chained_none starts befores chamber line none =
    record { loads = []; chain = none; among = omega (arith, none); same = λ held load there. refl }

-- a load in another chamber is not overlapped
other_chamber : (held : ℕ) (load other : Load) → (load.chamber ≡ other.chamber → ⊥) → overlap held load other ≡ false
other_chamber held load other apart = rw (ne_eqb load.chamber other.chamber apart)

-- One load more, on the next plan line.
module _ (starts befores : List ℕ) (seen : List Load) (new : Load) (sizes : (length seen < length starts) × (length seen < length befores)) where
  -- in its own chamber it comes first
  chained_first :
      (last : ℕ) → Chained starts befores new.chamber last seen
      → Chained (set starts (length seen) new.start) (set befores (length seen) last) new.chamber (suc (length seen)) (seen ++ new ∷ [])
  unfolding any_of
  chained_first last before =
      let place : suc (length seen) - 1 ≡ length seen = omega arith in
      let its_before = get_or-set_same befores (length seen) last 0 sizes.1 in
      let its_start = get_or-set_same starts (length seen) new.start 0 sizes.0 in
      record {
        loads = new ∷ before.loads;
        chain =
            rw (place, its_before, its_start) (
              omega arith,
              omega (arith, before.among),
              refl,
              refl,
              chain_kept starts befores new.chamber last (length seen) new.start last before.loads before.among before.chain,
            );
        among = simp length-append (omega arith);
        same =
            λ held load there.
            ap (λ rest. overlap held load new || rest) (before.same held load there)
            ∙ or_comm (overlap held load new) (overlaps_any held load seen)
            ∙ sym (any_more (overlap held load) seen new);
      }

  -- in another nothing changes
  chained_other :
      (chamber line last : ℕ) → (chamber ≡ new.chamber → ⊥) → Chained starts befores chamber line seen
      → Chained (set starts (length seen) new.start) (set befores (length seen) last) chamber line (seen ++ new ∷ [])
  chained_other chamber line last other before =
      record {
        loads = before.loads;
        chain = chain_kept starts befores chamber line (length seen) new.start last before.loads before.among before.chain;
        among = simp length-append (omega (arith, before.among));
        same =
            λ held load there.
            before.same held load there
            ∙ sym
            (any_more (overlap held load) seen new
            ∙ ap (λ last. overlaps_any held load seen || last) (other_chamber held load new (λ same. other (sym there ∙ same)))
            ∙ or-false (overlaps_any held load seen));
      }

  -- so in each chamber, where the last lines of the chambers are kept
  pub chained_more :
      (lasts : List ℕ) (line : ℕ) → line ≡ suc (length seen) → 1 ≤ new.chamber → new.chamber ≤ length lasts
      → ((chamber : ℕ) → 1 ≤ chamber → Chained starts befores chamber (get_or lasts (chamber - 1) 0) seen) → (chamber : ℕ) → 1 ≤ chamber
      → Chained (set starts (length seen) new.start) (set befores (length seen) (get_or lasts (new.chamber - 1) 0)) chamber
      (get_or (set lasts (new.chamber - 1) line) (chamber - 1) 0) (seen ++ new ∷ [])
  chained_more lasts line next least most before chamber low =
      by_test (eqb chamber new.chamber)
      (λ test.
      let same : chamber ≡ new.chamber = eqb-true chamber new.chamber test in
      rw (same, get_or-set_same lasts (new.chamber - 1) line 0 (omega (arith, least, most)), next)
      (chained_first (get_or lasts (new.chamber - 1) 0) (before new.chamber least)))
      (λ test.
      let other = eqb-false chamber new.chamber test in
      rw (get_or-set_other lasts (new.chamber - 1) (chamber - 1) line 0 (λ same. other (omega (arith, same, low, least))))
      (chained_other chamber (get_or lasts (chamber - 1) 0) (get_or lasts (new.chamber - 1) 0) other (before chamber low)))

-- a load in the same chamber is overlapped by its start alone
alike :
    (held : ℕ) (load one : Load) (start : ℕ) → one.chamber ≡ load.chamber → one.start ≡ start
    → overlap held load one ≡ overlap held (load_from load.chamber load.start) (load_from load.chamber start)
alike held load one start together begins = rw (together, begins)

-- The search goes back from line to line: what is left from a line on overlaps where what was left from the first on does.
abbrev pub Searched : List ℕ → List ℕ → ℕ → Load → ℕ → ℕ → Type 0
Searched starts befores held load first line =
    (line ≤ first)
    × ((loads : List Load) → Chain starts befores load.chamber first loads
    → (left : List Load) × Chain starts befores load.chamber line left × (overlaps_any held load left ≡ overlaps_any held load loads))

-- at the first line all is left
pub searched_top : (starts befores : List ℕ) (held : ℕ) (load : Load) (first : ℕ) → Searched starts befores held load first first
searched_top starts befores held load first = (omega arith, λ loads chain. (loads, chain, refl))

module _ (starts befores : List ℕ) (held : ℕ) (load : Load) (first line : ℕ) (searched : Searched starts befores held load first line)
    (loads : List Load) (chain : Chain starts befores load.chamber first loads) where
  -- with no line left none overlaps
  pub searched_none : line ≡ 0 → overlaps_any held load loads ≡ false
  unfolding any_of
  searched_none none = let p = searched.1 loads chain in go p.0 p.1 p.2
    where
      go : (left : List Load) → Chain starts befores load.chamber line left → overlaps_any held load left ≡ overlaps_any held load loads → overlaps_any held load loads ≡ false
      go [] end same = sym same
      go (one ∷ left) chain same = absurd (omega (arith, none, chain.0))

  module _ (some : line ≡ 0 → ⊥) where
    -- else there is a load on that line, and the lines before it are left
    pub record Found : Type 0 where
      pub rest : List Load
      pub back : get_or befores (line - 1) 0 < line
      pub left : Chain starts befores load.chamber (get_or befores (line - 1) 0) rest
      pub same : (overlap held (load_from load.chamber load.start) (load_from load.chamber (get_or starts (line - 1) 0)) || overlaps_any held load rest) ≡ overlaps_any held load loads

    pub found : Found
    unfolding any_of
    found = let p = searched.1 loads chain in go p.0 p.1 p.2
      where
        go : (left : List Load) → Chain starts befores load.chamber line left → overlaps_any held load left ≡ overlaps_any held load loads → Found
        go [] end same = absurd (some end)
        go (one ∷ left) chain same =
            record {
              rest = left;
              back = chain.1;
              left = chain.4;
              same = ap (λ here. here || overlaps_any held load left) (sym (alike held load one (get_or starts (line - 1) 0) chain.2 chain.3)) ∙ same;
            }

    -- where that load is overlapped, so is one of all
    pub searched_found :
        overlap held (load_from load.chamber load.start) (load_from load.chamber (get_or starts (line - 1) 0)) ≡ true → overlaps_any held load loads ≡ true
    searched_found meets = sym (rw meets at found.same)

-- where it is not, the search goes on with the line before
pub searched_on :
    (starts befores : List ℕ) (held : ℕ) (load : Load) (first line : ℕ) (loads : List Load) → Chain starts befores load.chamber first loads
    → Searched starts befores held load first line → (line ≡ 0 → ⊥)
    → overlap held (load_from load.chamber load.start) (load_from load.chamber (get_or starts (line - 1) 0)) ≡ false
    → Searched starts befores held load first (get_or befores (line - 1) 0)
searched_on starts befores held load first line loads chain searched some apart = (
  omega (arith, searched.0, (found starts befores held load first line searched loads chain some).back),
  λ others links.
      let one = found starts befores held load first line searched others links some in (one.rest, one.left, rw apart at one.same),
)
