-- Laws of what holds of each of several things, and of each two of them. Assumes nothing.
use mathlib.Core.Path.{◌≡◌, refl, ap, ◌∙◌}
use mathlib.Core.List.{List, [], ◌∷◌, ◌++◌, append_assoc, nil≢cons, head-eq_of_cons-eq, tail-eq_of_cons-eq}
use Rattle.orders.specs.Meaning.{Each, EachTwo}

-- nothing stands among none
pub never_among : {A : Type 0} (front : List A) (one : A) (rest : List A) → [] ≡ front ++ one ∷ rest → ⊥
never_among [] one rest e = nil≢cons e
never_among (other ∷ front) one rest e = nil≢cons e

-- It holds of each.
module _ {A : Type 0} {Holds : A → Type 0} where
  -- of none
  pub each_none : Each Holds []
  each_none = record { holds = λ front one rest e. absurd (never_among front one rest e) }

  -- of one more before the others
  pub each_before : {first : A} {all : List A} → Holds first → Each Holds all → Each Holds (first ∷ all)
  each_before {first} {all} here each = record { holds = go }
    where
      go : (front : List A) (one : A) (rest : List A) → first ∷ all ≡ front ++ one ∷ rest → Holds one
      go [] one rest e = rw (head-eq_of_cons-eq e) at here
      go (other ∷ front) one rest e = each.holds front one rest (tail-eq_of_cons-eq e)

  -- of the first
  pub each_first : {first : A} {all : List A} → Each Holds (first ∷ all) → Holds first
  each_first {first} {all} each = each.holds [] first all refl

  -- of those behind it
  pub each_rest : {first : A} {all : List A} → Each Holds (first ∷ all) → Each Holds all
  each_rest {first} {all} each = record { holds = λ front one rest e. each.holds (first ∷ front) one rest (ap (λ tail. first ∷ tail) e) }

  -- of one more behind the others
  pub each_behind : {last : A} (all : List A) → Each Holds all → Holds last → Each Holds (all ++ last ∷ [])
  each_behind [] each here = each_before here each_none
  each_behind (first ∷ all) each here = each_before (each_first each) (each_behind all (each_rest each) here)

  -- of the last
  pub each_last : (last : A) (all : List A) → Each Holds (all ++ last ∷ []) → Holds last
  each_last last all each = each.holds all last [] refl

  -- of those before it
  pub each_front : (last : A) (all : List A) → Each Holds (all ++ last ∷ []) → Each Holds all
  each_front last all each =
      record {
        holds =
            λ front one rest e.
            each.holds front one (rest ++ last ∷ []) (ap (λ some. some ++ last ∷ []) e ∙ append_assoc front (one ∷ rest) (last ∷ []));
      }

-- what holds of each holds of each, where the one gives the other
pub each_so : {A : Type 0} {One Other : A → Type 0} {all : List A} → ((thing : A) → One thing → Other thing) → Each One all → Each Other all
each_so so each = record { holds = λ front one rest e. so one (each.holds front one rest e) }

-- It holds of each two.
module _ {A : Type 0} {Holds : A → A → Type 0} where
  -- of none
  pub two_none : EachTwo Holds []
  two_none = record { holds = λ front earlier middle later rest e. absurd (never_among front earlier (middle ++ later ∷ rest) e) }

  -- of one more before the others
  pub two_before : {first : A} {all : List A} → Each (Holds first) all → EachTwo Holds all → EachTwo Holds (first ∷ all)
  two_before {first} {all} each two = record { holds = go }
    where
      go :
          (front : List A) (earlier : A) (middle : List A) (later : A) (rest : List A) → first ∷ all ≡ front ++ earlier ∷ (middle ++ later ∷ rest)
          → Holds earlier later
      go [] earlier middle later rest e = rw (head-eq_of_cons-eq e) at (each.holds middle later rest (tail-eq_of_cons-eq e))
      go (other ∷ front) earlier middle later rest e = two.holds front earlier middle later rest (tail-eq_of_cons-eq e)

  -- of the first and each behind it
  pub two_first : {first : A} {all : List A} → EachTwo Holds (first ∷ all) → Each (Holds first) all
  two_first {first} two = record { holds = λ middle later rest e. two.holds [] first middle later rest (ap (λ tail. first ∷ tail) e) }

  -- of each two behind it
  pub two_rest : {first : A} {all : List A} → EachTwo Holds (first ∷ all) → EachTwo Holds all
  two_rest {first} two =
      record { holds = λ front earlier middle later rest e. two.holds (first ∷ front) earlier middle later rest (ap (λ tail. first ∷ tail) e) }
