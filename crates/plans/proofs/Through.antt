-- Going through lines from the top, whatever is noted of them: all are noted, or there is a first that cannot be. Assumes nothing.
use Prim.Native.Nat.{ℕ, suc, ◌+◌}
use mathlib.Core.Path.{◌≡◌, refl, sym, ap}
use mathlib.Core.Bool.{Bool}
use mathlib.Core.Logic.{◌↔◌, ◌⊎◌, inl, inr}
use mathlib.Core.List.{List, [], ◌∷◌, ◌++◌}
use lib.ListN.{length, length-append}
use native.Mathlib.Omega.{arith}
use Rattle.ground.specs.Refusal.{Or, Read, wrong, right, ◌>>=◌}
use Rattle.ground.proofs.Checks.{never_right, same_right, same_wrong}
use Rattle.texts.specs.Meaning.{joined}
use Rattle.plans.specs.Judging.{fault_at, through}
use Rattle.plans.specs.Meaning.{fault_of}
use Rattle.plans.specs.declared.Fault.{Fault}

-- one thing after another comes to a value where both do
pub both_right :
    {E A B : Type 0} (first : Or E A) (go : A → Or E B) (last : B) → (first >>= go) ≡ right last
    → (value : A) × (first ≡ right value) × (go value ≡ right last)
both_right (wrong fault) go last e = absurd (never_right e)
both_right (right value) go last e = (value, refl, e)

-- else what is wrong is wrong with the first, or with the other
pub one_wrong :
    {E A B : Type 0} (first : Or E A) (go : A → Or E B) (fault : E) → (first >>= go) ≡ wrong fault
    → (first ≡ wrong fault) ⊎ ((value : A) × (first ≡ right value) × (go value ≡ wrong fault))
one_wrong (wrong other) go fault e = inl (ap wrong (same_wrong e))
one_wrong (right value) go fault e = inr (value, refl, e)

-- where a line is refused, that is the fault, and where not, it goes on with what is known
pub past_line_lem :
    {Known Last : Type 0} (plan : Bool) (line from to : ℕ) (read : Read Known) (go : Known → Or Fault Last) (last : Last)
    → (fault_at plan line from to read >>= go) ≡ right last → (next : Known) × (read ≡ right next) × (go next ≡ right last)
past_line_lem plan line from to (wrong number) go last e = absurd (never_right e)
past_line_lem plan line from to (right next) go last e = (next, refl, e)

-- and a fault is its own or a later one
pub at_or_past_line :
    {Known Last : Type 0} (plan : Bool) (line from to : ℕ) (read : Read Known) (go : Known → Or Fault Last) (fault : Fault)
    → (fault_at plan line from to read >>= go) ≡ wrong fault
    → ((number : ℕ) × (read ≡ wrong number) × (fault ≡ fault_of number plan line from to))
    ⊎ ((next : Known) × (read ≡ right next) × (go next ≡ wrong fault))
at_or_past_line plan line from to (wrong number) go fault e = inl (number, refl, sym (same_wrong e))
at_or_past_line plan line from to (right next) go fault e = inr (next, refl, e)

module _ {Known : Type 0} (note : Known → List ℕ → Read Known) where
  -- lines are all noted, and this is known in the end
  abbrev pub Reaches : Known → List (List ℕ) → Known → Type 0
  Reaches known [] last = known ≡ last
  Reaches known (text ∷ texts) last = (next : Known) × (note known text ≡ right next) × Reaches next texts last

  -- lines stop at a first one that is refused: those before it are all noted
  pub record Stops (plan : Bool) (line at : ℕ) (known : Known) (texts : List (List ℕ)) (fault : Fault) : Type 0 where
    pub front : List (List ℕ)
    pub text : List ℕ
    pub rest : List (List ℕ)
    pub among : texts ≡ front ++ text ∷ rest
    pub before : Known
    pub reached : Reaches known front before
    pub number : ℕ
    pub refused : note before text ≡ wrong number
    pub told : fault ≡ fault_of number plan (line + length front) (at + length (joined front)) (at + length (joined front) + length text)

  module _ (plan : Bool) where
    -- lines that it goes through are all noted
    reaches_from :
        (line at : ℕ) (known : Known) (texts : List (List ℕ)) (last : Known) → through note plan line at known texts ≡ right last
        → Reaches known texts last
    unfolding through
    reaches_from line at known [] last e = same_right e
    reaches_from line at known (text ∷ texts) last e =
        let p =
        past_line_lem plan line at (at + length text) (note known text) (λ next. through note plan (suc line) (at + length text) next texts) last e in
        (p.0, p.1, reaches_from (suc line) (at + length text) p.0 texts last p.2)

    -- and it goes through lines that are all noted
    reaches_to :
        (line at : ℕ) (known : Known) (texts : List (List ℕ)) (last : Known) → Reaches known texts last
        → through note plan line at known texts ≡ right last
    unfolding through
    reaches_to line at known [] last e = ap right e
    reaches_to line at known (text ∷ texts) last p = rw p.1 (reaches_to (suc line) (at + length text) p.0 texts last p.2)

    -- it comes to what is known in the end exactly when all lines are noted
    pub through_right :
        (line at : ℕ) (known : Known) (texts : List (List ℕ)) (last : Known)
        → (through note plan line at known texts ≡ right last) ↔ Reaches known texts last
    through_right line at known texts last = (reaches_from line at known texts last, reaches_to line at known texts last)

    -- a line at fault stops it here
    stops_here :
        (line at : ℕ) (known : Known) (text : List ℕ) (texts : List (List ℕ)) (number : ℕ) (fault : Fault) → note known text ≡ wrong number
        → fault ≡ fault_of number plan line at (at + length text) → Stops plan line at known (text ∷ texts) fault
    unfolding joined
    stops_here line at known text texts number fault refused told =
        record {
          front = [];
          text = text;
          rest = texts;
          among = refl;
          before = known;
          reached = refl;
          number = number;
          refused = refused;
          told =
              let here : line + 0 ≡ line = omega arith in
              let from : at + 0 ≡ at = omega arith in
              rw (here, from) told;
        }

    -- one that is noted leaves it to the others
    stops_later :
        (line at : ℕ) (known next : Known) (text : List ℕ) (texts : List (List ℕ)) (fault : Fault) → note known text ≡ right next
        → Stops plan (suc line) (at + length text) next texts fault → Stops plan line at known (text ∷ texts) fault
    unfolding joined
    stops_later line at known next text texts fault noted stops =
        record {
          front = text ∷ stops.front;
          text = stops.text;
          rest = stops.rest;
          among = ap (λ tail. text ∷ tail) stops.among;
          before = stops.before;
          reached = (next, noted, stops.reached);
          number = stops.number;
          refused = stops.refused;
          told =
              let here : line + suc (length stops.front) ≡ suc line + length stops.front = omega arith in
              let from : at + length (text ++ joined stops.front) ≡ at + length text + length (joined stops.front) =
              simp length-append (omega arith) in
              rw (here, from) stops.told;
        }

    -- with a fault it stops at the line of that fault
    stops_from :
        (line at : ℕ) (known : Known) (texts : List (List ℕ)) (fault : Fault) → through note plan line at known texts ≡ wrong fault
        → Stops plan line at known texts fault
    unfolding through
    stops_from line at known [] fault e = absurd (never_right (sym e))
    stops_from line at known (text ∷ texts) fault e =
        go (note known text) refl e (λ next. stops_from (suc line) (at + length text) next texts fault)
      where
        go :
            (read : Read Known) → note known text ≡ read
            → (fault_at plan line at (at + length text) read >>= λ next. through note plan (suc line) (at + length text) next texts) ≡ wrong fault
            → ((next : Known) → through note plan (suc line) (at + length text) next texts ≡ wrong fault
            → Stops plan (suc line) (at + length text) next texts fault)
            → Stops plan line at known (text ∷ texts) fault
        go (wrong number) read e later = stops_here line at known text texts number fault read (sym (same_wrong e))
        go (right next) read e later = stops_later line at known next text texts fault read (later next e)

    -- and where it stops there is that fault
    stops_at :
        (line at : ℕ) (known before : Known) (front : List (List ℕ)) (text : List ℕ) (rest : List (List ℕ)) (number : ℕ)
        → Reaches known front before → note before text ≡ wrong number
        → through note plan line at known (front ++ text ∷ rest)
        ≡ wrong (fault_of number plan (line + length front) (at + length (joined front)) (at + length (joined front) + length text))
    unfolding through joined
    stops_at line at known before [] text rest number reached refused =
        let here : line + 0 ≡ line = omega arith in
        let from : at + 0 ≡ at = omega arith in
        rw (here, from, reached, refused)
    stops_at line at known before (first ∷ front) text rest number reached refused =
        let here : line + suc (length front) ≡ suc line + length front = omega arith in
        let from : at + length (first ++ joined front) ≡ at + length first + length (joined front) = simp length-append (omega arith) in
        rw (here, from, reached.1) (stops_at (suc line) (at + length first) reached.0 before front text rest number reached.2 refused)

    -- and to a fault exactly when it stops at the line of that fault
    pub through_wrong :
        (line at : ℕ) (known : Known) (texts : List (List ℕ)) (fault : Fault)
        → (through note plan line at known texts ≡ wrong fault) ↔ Stops plan line at known texts fault
    through_wrong line at known texts fault = (
      stops_from line at known texts fault,
      λ stops.
          rw (stops.among, stops.told)
          (stops_at line at known stops.before stops.front stops.text stops.rest stops.number stops.reached stops.refused),
    )
