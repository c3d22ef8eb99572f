-- Laws of comparing texts byte for byte. Assumes nothing.
use Prim.Native.Nat.{ℕ}
use mathlib.Core.Path.{◌≡◌, refl}
use mathlib.Core.Bool.{true}
use mathlib.Core.List.{List, [], ◌∷◌}
use lib.Dec.{eqb}
use borrow.Author.Tests.{eqb-true, eq-eqb}
use Rattle.ground.proofs.Tests.{both, first_of, second_of}
use Rattle.std.specs.Prelude.{nat_eq}
use Rattle.std.specs.Cmp.Lexicographic.{pointwise}
use Rattle.fields.specs.Fields.{same_bytes}

-- two that are the same are one
pub same_then : (one other : List ℕ) → same_bytes one other ≡ true → one ≡ other
unfolding same_bytes
same_then [] [] same = refl
same_then [] (byte ∷ rest) same = cc
same_then (byte ∷ rest) [] same = cc
same_then (byte ∷ rest) (other ∷ others) same =
    let heads : byte ≡ other = eqb-true byte other (first_of (eqb byte other) (same_bytes rest others) same) in
    let tails : rest ≡ others = same_then rest others (second_of (eqb byte other) (same_bytes rest others) same) in
    cc

-- and one is the same as itself
pub same_itself : (text : List ℕ) → same_bytes text text ≡ true
unfolding same_bytes
same_itself [] = refl
same_itself (byte ∷ rest) = both (eq-eqb byte byte refl) (same_itself rest)

-- the library compares them pair after pair
pub same_pairs : (one other : List ℕ) → pointwise nat_eq one other ≡ same_bytes one other
unfolding same_bytes
same_pairs [] [] = refl
same_pairs [] (byte ∷ rest) = refl
same_pairs (byte ∷ rest) [] = refl
same_pairs (byte ∷ rest) (other ∷ others) = rw (same_pairs rest others)
