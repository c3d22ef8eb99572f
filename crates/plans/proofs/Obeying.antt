-- The loads of a plan: its lines are all noted exactly when they have no fault, and
-- else it stops at the first that has one. Assumes nothing.
use Prim.Native.Nat.{ℕ, ◌+◌}
use mathlib.Core.Path.{◌≡◌, refl, sym, subst, ◌∙◌}
use mathlib.Core.Bool.{true}
use mathlib.Core.Logic.{◌↔◌}
use mathlib.Core.List.{List, [], ◌∷◌, ◌++◌, map, append-nil, append_assoc, nil≢cons, cons≢nil, head-eq_of_cons-eq, tail-eq_of_cons-eq}
use lib.ListN.{length}
use native.Mathlib.Omega.{arith}
use Rattle.ground.specs.Refusal.{Read, wrong, right}
use Rattle.texts.specs.Lines.{lines_of}
use Rattle.lines.specs.Reading.{load_of}
use Rattle.texts.specs.Meaning.{joined}
use Rattle.lines.specs.declared.Heading.{Heading}
use Rattle.lines.specs.declared.Order.{Order}
use Rattle.lines.specs.declared.Load.{Load}
use Rattle.plans.specs.Judging.{note_load, plan_judged}
use Rattle.orders.specs.Answers.{book_for}
use Rattle.orders.specs.Meaning.{Each, EachTwo}
use Rattle.plans.specs.Meaning.{fault_behind, InTime, hold_of, Apart, GoodLoads, LoadWrong}
use Rattle.plans.specs.declared.Fault.{Fault}
use Rattle.orders.proofs.Each.{each_none, each_before, each_first, each_rest, each_behind, each_last, each_front, two_none, two_before, two_first, two_rest}
use Rattle.orders.proofs.Readings.{loads_exactly}
use Rattle.plans.proofs.Through.{Reaches, through_right, through_wrong}
use Rattle.plans.proofs.Loads.{line_right, line_wrong}

module _ (heading : Heading) (orders : List Order) where
  -- what is noted of a line
  abbrev note : List Load → List ℕ → Read (List Load)
  note = note_load (book_for heading) orders

  -- plan lines with no fault behind those of other loads
  record GoodBehind (seen : List Load) (lines : List (List ℕ)) (loads : List Load) : Type 0 where
    read : map (load_of heading.chambers) lines ≡ map right loads
    in_time : Each (InTime heading.run orders) loads
    behind : Each (λ later. Each (λ before. Apart (hold_of heading) before later) seen) loads
    apart : EachTwo (Apart (hold_of heading)) loads

  -- none is behind any
  good_none : (seen : List Load) → GoodBehind seen [] []
  good_none seen = record { read = refl; in_time = each_none; behind = each_none; apart = two_none }

  -- one, and the others behind it
  good_more :
      (seen : List Load) (line : List ℕ) (lines : List (List ℕ)) (load : Load) (loads : List Load) → load_of heading.chambers line ≡ right load
      → InTime heading.run orders load → Each (λ before. Apart (hold_of heading) before load) seen → GoodBehind (seen ++ load ∷ []) lines loads
      → GoodBehind seen (line ∷ lines) (load ∷ loads)
  good_more seen line lines load loads read kept apart later =
      record {
        read = λ i. read i ∷ later.read i;
        in_time = each_before kept later.in_time;
        behind =
            each_before apart
            (record { holds = λ front one rest e. each_front load seen (later.behind.holds front one rest e) });
        apart = two_before (record { holds = λ front one rest e. each_last load seen (later.behind.holds front one rest e) }) later.apart;
      }

  -- the others behind one
  good_rest :
      (seen : List Load) (line : List ℕ) (lines : List (List ℕ)) (load : Load) (loads : List Load) → GoodBehind seen (line ∷ lines) (load ∷ loads)
      → GoodBehind (seen ++ load ∷ []) lines loads
  good_rest seen line lines load loads good =
      record {
        read = tail-eq_of_cons-eq good.read;
        in_time = each_rest good.in_time;
        behind =
            record {
              holds =
                  λ front one rest e. each_behind seen ((each_rest good.behind).holds front one rest e) ((two_first good.apart).holds front one rest e);
            };
        apart = two_rest good.apart;
      }

  -- lines that are all noted have no fault
  good_from :
      (seen : List Load) (lines : List (List ℕ)) (last : List Load) → Reaches note seen lines last
      → (loads : List Load) × GoodBehind seen lines loads × (last ≡ seen ++ loads)
  good_from seen [] last e = ([], good_none seen, sym e ∙ sym (append-nil seen))
  good_from seen (line ∷ lines) last p =
      let added = (line_right heading orders seen line p.0).0 p.1 in
      let load = added.load in
      let later = good_from (seen ++ load ∷ []) lines last (subst (λ known. Reaches note known lines last) added.known p.2) in (
        load ∷ later.0,
        good_more seen line lines load later.0 added.read added.in_time added.apart later.1,
        later.2 ∙ append_assoc seen (load ∷ []) later.0,
      )

  -- and lines with no fault are all noted
  good_to :
      (seen : List Load) (lines : List (List ℕ)) (loads : List Load) → GoodBehind seen lines loads
      → Reaches note seen lines (seen ++ loads)
  good_to seen [] [] good = sym (append-nil seen)
  good_to seen [] (load ∷ loads) good = absurd (nil≢cons good.read)
  good_to seen (line ∷ lines) [] good = absurd (cons≢nil good.read)
  good_to seen (line ∷ lines) (load ∷ loads) good = (
    seen ++ load ∷ [],
    (line_right heading orders seen line (seen ++ load ∷ [])).1
        (record {
          load = load;
          read = head-eq_of_cons-eq good.read;
          in_time = each_first good.in_time;
          apart = each_first good.behind;
          known = refl;
        }),
    subst (λ all. Reaches note (seen ++ load ∷ []) lines all) (append_assoc seen (load ∷ []) loads)
        (good_to (seen ++ load ∷ []) lines loads (good_rest seen line lines load loads good)),
  )

  -- behind none they are good by themselves
  good_exactly : (lines : List (List ℕ)) (loads : List Load) → GoodBehind [] lines loads ↔ GoodLoads heading orders lines loads
  good_exactly lines loads = (
    λ good. record { read = (loads_exactly heading.chambers lines loads).0 good.read; in_time = good.in_time; apart = good.apart },
    λ good.
        record {
          read = (loads_exactly heading.chambers lines loads).1 good.read;
          in_time = good.in_time;
          behind = record { holds = λ front one rest e. each_none };
          apart = good.apart;
        },
  )

  -- lines are all noted from the top exactly when they have no fault
  noted_exactly : (lines : List (List ℕ)) (loads : List Load) → Reaches note [] lines loads ↔ GoodLoads heading orders lines loads
  noted_exactly lines loads = (
    λ reached. let p = good_from [] lines loads reached in rw p.2 ((good_exactly lines p.0).0 p.1),
    λ good. good_to [] lines loads ((good_exactly lines loads).1 good),
  )

  -- a plan comes to its loads exactly when none of its lines has a fault
  pub plan_right :
      (plan : List ℕ) (loads : List Load) → (plan_judged plan (book_for heading) orders ≡ right loads) ↔ GoodLoads heading orders (lines_of plan) loads
  unfolding plan_judged
  plan_right plan loads = (
    λ e. (noted_exactly (lines_of plan) loads).0 ((through_right note true 1 0 [] (lines_of plan) loads).0 e),
    λ good. (through_right note true 1 0 [] (lines_of plan) loads).1 ((noted_exactly (lines_of plan) loads).1 good),
  )

  -- the first line of a plan at fault
  pub record PlanFault (plan : List ℕ) (fault : Fault) : Type 0 where
    pub front : List (List ℕ)
    pub line : List ℕ
    pub rest : List (List ℕ)
    pub among : lines_of plan ≡ front ++ line ∷ rest
    pub loads : List Load
    pub good : GoodLoads heading orders front loads
    pub number : ℕ
    pub at_fault : LoadWrong heading orders loads line number
    pub told : fault ≡ fault_behind number true front line

  -- and to a fault exactly when that is the fault of its first line that has one
  pub plan_wrong : (plan : List ℕ) (fault : Fault) → (plan_judged plan (book_for heading) orders ≡ wrong fault) ↔ PlanFault plan fault
  unfolding plan_judged
  plan_wrong plan fault = (
    λ e.
        let stops = (through_wrong note true 1 0 [] (lines_of plan) fault).0 e in
        let from : 0 + length (joined stops.front) ≡ length (joined stops.front) = omega arith in
        record {
          front = stops.front;
          line = stops.text;
          rest = stops.rest;
          among = stops.among;
          loads = stops.before;
          good = (noted_exactly stops.front stops.before).0 stops.reached;
          number = stops.number;
          at_fault = (line_wrong heading orders stops.before stops.text stops.number).0 stops.refused;
          told = rw from at stops.told;
        },
    λ wrongly.
        let from : 0 + length (joined wrongly.front) ≡ length (joined wrongly.front) = omega arith in
        (through_wrong note true 1 0 [] (lines_of plan) fault).1
        (record {
          front = wrongly.front;
          text = wrongly.line;
          rest = wrongly.rest;
          among = wrongly.among;
          before = wrongly.loads;
          reached = (noted_exactly wrongly.front wrongly.loads).1 wrongly.good;
          number = wrongly.number;
          refused = (line_wrong heading orders wrongly.loads wrongly.line wrongly.number).1 wrongly.at_fault;
          told = rw from wrongly.told;
        }),
  )
