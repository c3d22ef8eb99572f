-- The refusal of a load is the first thing that is wrong with it, and two loads overlap where each starts before the other ends. Assumes
-- nothing.
use Prim.Native.Nat.{ℕ, suc, ◌+◌, ◌≤◌, ◌<◌}
use mathlib.Core.Path.{◌≡◌, subst}
use mathlib.Core.Bool.{true}
use mathlib.Core.Logic.{◌↔◌}
use mathlib.Core.List.{List}
use lib.ListN.{length, get_or}
use lib.Dec.{leb, ltb, eqb}
use native.Mathlib.Omega.{arith}
use borrow.Author.Tests.{leb-true, leb-false, le-leb, lt-leb, ltb-true, lt-ltb, eqb-true, eqb-false, eq-eqb, ne_eqb}
use Rattle.ground.specs.Refusal.{number_of}
use Rattle.ground.specs.Range.{within}
use Rattle.ground.specs.Limits.{first_order_line}
use Rattle.ground.proofs.Range.{within_from, within_low, within_high}
use Rattle.ground.proofs.Tests.{by_test, never_both, not_met, both, first_of, second_of}
use Rattle.lines.specs.declared.Load.{Load}
use Rattle.loads.specs.Checks.{place_named, load_asked, load_marked, overlap}
use Rattle.loads.specs.Meaning.{Listed, Refused, unlisted, again, early, late, in_time}

module _ (run : ℕ) (readies dues lines : List ℕ) (load : Load) where
  -- the hours of the order that it names, and the plan line on which that stands
  abbrev ready : ℕ
  ready = get_or readies (place_named load) 0

  abbrev due : ℕ
  due = get_or dues (place_named load) 0

  abbrev stands : ℕ
  stands = get_or lines (place_named load) 0

  -- it names an order line
  listed_from : within first_order_line (suc (length readies)) load.order ≡ true → Listed (length readies) load
  listed_from inside =
      let high : load.order ≤ suc (length readies) = within_high first_order_line (suc (length readies)) load.order inside in
      record { least = within_low first_order_line (suc (length readies)) load.order inside; most = omega arith }

  listed_to : Listed (length readies) load → within first_order_line (suc (length readies)) load.order ≡ true
  listed_to listed = within_from first_order_line (suc (length readies)) load.order listed.least (omega (arith, listed.most))

  -- what is wrong with it has its number
  its_refusal : Refused run readies dues lines load (number_of (load_marked run readies dues lines load))
  unfolding load_asked
  its_refusal =
      by_test (within first_order_line (suc (length readies)) load.order)
      (λ inside.
      let listed = listed_from inside in
      by_test (eqb stands 0)
      (λ alone.
      let none : stands ≡ 0 = eqb-true stands 0 alone in
      by_test (leb ready load.start)
      (λ waited.
      by_test (leb (load.start + run) due)
      (λ ended. rw (inside, alone, waited, ended) (in_time listed none (leb-true ready load.start waited) (leb-true (load.start + run) due ended)))
      (λ over. rw (inside, alone, waited, over) (late listed none (leb-true ready load.start waited) (leb-false (load.start + run) due over))))
      (λ before. rw (inside, alone, before) (early listed none (leb-false ready load.start before))))
      (λ twice. rw (inside, twice) (again listed (eqb-false stands 0 twice))))
      (λ outside. rw outside (unlisted (λ listed. never_both (listed_to listed) outside)))

  -- and no other
  its_only : {number : ℕ} → Refused run readies dues lines load number → number_of (load_marked run readies dues lines load) ≡ number
  unfolding load_asked
  its_only (unlisted never) = rw (not_met (λ inside. never (listed_from inside)))
  its_only (again listed some) = rw (listed_to listed, ne_eqb stands 0 some)
  its_only (early listed none before) = rw (listed_to listed, eq-eqb stands 0 none, lt-leb ready load.start before)
  its_only (late listed none waited over) =
      rw (listed_to listed, eq-eqb stands 0 none, le-leb ready load.start waited, lt-leb (load.start + run) due over)
  its_only (in_time listed none waited ended) =
      rw (listed_to listed, eq-eqb stands 0 none, le-leb ready load.start waited, le-leb (load.start + run) due ended)

  -- its refusal is that number exactly
  pub refusal_exactly : (number : ℕ) → (number_of (load_marked run readies dues lines load) ≡ number) ↔ Refused run readies dues lines load number
  refusal_exactly number = (λ same. subst (λ given. Refused run readies dues lines load given) same its_refusal, its_only)

-- two loads overlap exactly when they stand in one chamber and each starts before the other ends
pub overlap_exactly :
    (held : ℕ) (one other : Load)
    → (overlap held one other ≡ true)
    ↔ ((one.chamber ≡ other.chamber) × (one.start < other.start + held) × (other.start < one.start + held))
overlap_exactly held one other = (
  λ met.
      let times = second_of (eqb one.chamber other.chamber) _ met in (
        eqb-true one.chamber other.chamber (first_of (eqb one.chamber other.chamber) _ met),
        ltb-true _ _ (first_of (ltb one.start (other.start + held)) _ times),
        ltb-true _ _ (second_of (ltb one.start (other.start + held)) _ times),
      ),
  λ facts. both (eq-eqb _ _ facts.0) (both (lt-ltb _ _ facts.1) (lt-ltb _ _ facts.2)),
)
