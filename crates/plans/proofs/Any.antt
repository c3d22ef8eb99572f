-- A test that is made of several things until it holds. Assumes nothing.
use mathlib.Core.Path.{◌≡◌, refl, sym, ap}
use mathlib.Core.Bool.{Bool, true, false, ◌||◌}
use mathlib.Core.Logic.{◌↔◌}
use mathlib.Core.List.{List, [], ◌∷◌, ◌++◌, map}
use Rattle.std.proofs.Math.Bool.{or_assoc, or-false}
use Rattle.ground.proofs.Tests.{by_test, never_both, not_met}
use Rattle.orders.specs.Meaning.{Each, Some}
use Rattle.orders.proofs.Each.{each_none, each_before}
use Rattle.plans.specs.Judging.{any_of}

-- it holds of any of them and one more where it holds of any of them or of that one
pub any_more : {A : Type 0} (test : A → Bool) (all : List A) (last : A) → any_of test (all ++ last ∷ []) ≡ (any_of test all || test last)
unfolding any_of
any_more test [] last = or-false (test last)
any_more test (one ∷ all) last = rw (any_more test all last) (sym (or_assoc (test one) (any_of test all) (test last)))

-- a test of what is made of each of them
pub any_map : {A B : Type 0} (test : B → Bool) (make : A → B) (all : List A) → any_of test (map make all) ≡ any_of (λ one. test (make one)) all
unfolding any_of
any_map test make [] = refl
any_map test make (one ∷ all) = ap (λ rest. test (make one) || rest) (any_map test make all)

module _ {A : Type 0} (test : A → Bool) (Holds : A → Type 0) (exactly : (one : A) → (test one ≡ true) ↔ Holds one) where
  -- it holds where the test holds of one of them
  some_first : {first : A} {all : List A} → Holds first → Some Holds (first ∷ all)
  some_first {first} {all} holds = record { front = []; one = first; rest = all; among = refl; holds = holds }

  -- or of one behind the first
  some_rest : {first : A} {all : List A} → Some Holds all → Some Holds (first ∷ all)
  some_rest {first} {all} some =
      record { front = first ∷ some.front; one = some.one; rest = some.rest; among = ap (λ tail. first ∷ tail) some.among; holds = some.holds }

  -- where it holds of any, it holds of one of them
  pub any_some : (all : List A) → any_of test all ≡ true → Some Holds all
  unfolding any_of
  any_some [] met = absurd (never_both met refl)
  any_some (one ∷ all) met =
      by_test (test one) (λ here. some_first ((exactly one).0 here)) (λ other. some_rest (any_some all (rw other at met)))

  -- and fails where it fails of each
  pub any_none : (all : List A) → any_of test all ≡ false → Each (λ one. Holds one → ⊥) all
  unfolding any_of
  any_none [] unmet = each_none
  any_none (one ∷ all) unmet =
      by_test (test one) (λ here. absurd (never_both refl (rw here at unmet)))
      (λ other. each_before (λ holds. never_both ((exactly one).1 holds) other) (any_none all (rw other at unmet)))

  -- and back
  pub some_any : {all : List A} → Some Holds all → any_of test all ≡ true
  some_any {all} some =
      by_test (any_of test all) (λ met. met) (λ unmet. absurd ((any_none all unmet).holds some.front some.one some.rest some.among some.holds))

  -- and back
  pub none_any : {all : List A} → Each (λ one. Holds one → ⊥) all → any_of test all ≡ false
  none_any {all} none = not_met (λ met. let some = any_some all met in none.holds some.front some.one some.rest some.among some.holds)
