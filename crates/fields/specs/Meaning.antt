-- What it means that a line has fields, and between which places a cut has one. It is no way of splitting or cutting; what the functions
-- of this room answer is proved to be this. Assumes nothing.
use Rattle.std.specs.Prelude.{ℕ, suc, ◌≤◌, ◌<◌, ◌≡◌, Bool, true, not, ◌&&◌, List, [], ◌∷◌, ◌++◌, length, get_or, eqb}
use Rattle.fields.specs.declared.Cut.{Cut}

-- a text with neither a tab nor a line end in it
unfoldable pub is_clean : List ℕ → Bool
is_clean [] = true
is_clean (byte ∷ rest) = (not (eqb byte 9) && not (eqb byte 10)) && is_clean rest

unfoldable pub all_clean : List (List ℕ) → Bool
all_clean [] = true
all_clean (text ∷ texts) = is_clean text && all_clean texts

-- texts with a tab between each two
unfoldable pub tabbed : List (List ℕ) → List ℕ
tabbed [] = []
tabbed (text ∷ []) = text
tabbed (text ∷ next ∷ texts) = text ++ 9 ∷ tabbed (next ∷ texts)

-- a line splits into fields: they stand in it with a tab between each two and the line end behind, and none has a tab or a line end in it
pub record Splits (line : List ℕ) (fields : List (List ℕ)) : Type 0 where
  pub some : 1 ≤ length fields
  pub clean : all_clean fields ≡ true
  pub joined : line ≡ tabbed fields ++ 10 ∷ []

-- a line that is ended and has so many fields
pub record HasFields (count : ℕ) (line : List ℕ) : Type 0 where
  pub fields : List (List ℕ)
  pub splits : Splits line fields
  pub counted : length fields ≡ count

-- a field of a cut is one that it counts, among the five of which the ends are kept: the first starts with the line, any other behind
-- the byte at which the one before ends
pub data CutOut (cut : Cut) : ℕ → ℕ → ℕ → Type 0 where
  first : 0 < cut.count → CutOut cut 0 0 (get_or cut.ends 0 0)
  further :
      (before : ℕ) → suc before < cut.count → suc before < 5
      → CutOut cut (suc before) (suc (get_or cut.ends before 0)) (get_or cut.ends (suc before) 0)
