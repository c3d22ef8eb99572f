-- A line has the fields that it is split into: the computing definitions and the saying ones are one. Assumes nothing.
use Prim.Native.Nat.{ℕ, ◌≤◌}
use mathlib.Core.Path.{◌≡◌, refl, ap, ◌∙◌}
use mathlib.Core.Bool.{true, false, not, ◌&&◌}
use mathlib.Core.List.{List, [], ◌∷◌, ◌++◌, append_assoc}
use lib.ListN.{length}
use lib.Dec.{eqb}
use native.Mathlib.Omega.{arith}
use borrow.Author.Tests.{eqb-true, not-true}
use Rattle.ground.proofs.Tests.{by_test, never_both, first_of, second_of}
use Rattle.texts.specs.Lines.{line_end, before}
use Rattle.fields.specs.Fields.{tab, is_none, is_ended, fields_of}
use Rattle.fields.specs.Meaning.{is_clean, all_clean, tabbed, Splits}

-- a clean text in front of a tab or a line end is the first field, and the line ends where what follows does
clean_front :
    (text rest : List ℕ) → is_clean text ≡ true
    → (is_ended (text ++ rest) ≡ is_ended rest)
    × ((fields : List (List ℕ)) → fields_of rest ≡ [] ∷ fields → fields_of (text ++ rest) ≡ text ∷ fields)
unfolding is_clean is_ended fields_of
clean_front [] rest clean = (refl, λ fields first. first)
clean_front (byte ∷ text) rest clean =
    let here = first_of (not (eqb byte tab) && not (eqb byte line_end)) (is_clean text) clean in
    let no_tab = not-true (eqb byte tab) (first_of (not (eqb byte tab)) (not (eqb byte line_end)) here) in
    let no_end = not-true (eqb byte line_end) (second_of (not (eqb byte tab)) (not (eqb byte line_end)) here) in
    let more = clean_front text rest (second_of (not (eqb byte tab) && not (eqb byte line_end)) (is_clean text) clean) in
    rw (no_tab, no_end) (more.0, λ fields first. ap (before byte) (more.1 fields first))

-- texts joined with tabs and ended have themselves for fields
pub fields_of_tabbed :
    (fields : List (List ℕ)) → 1 ≤ length fields → all_clean fields ≡ true
    → (is_ended (tabbed fields ++ line_end ∷ []) ≡ true) × (fields_of (tabbed fields ++ line_end ∷ []) ≡ fields)
unfolding tabbed all_clean is_ended fields_of
fields_of_tabbed [] some clean = absurd (omega arith)
fields_of_tabbed (text ∷ []) some clean =
    let front = clean_front text (line_end ∷ []) (first_of (is_clean text) true clean) in (front.0, front.1 [] refl)
fields_of_tabbed (text ∷ next ∷ texts) some clean =
    let more = fields_of_tabbed (next ∷ texts) (omega arith) (second_of (is_clean text) (all_clean (next ∷ texts)) clean) in
    let front = clean_front text (tab ∷ tabbed (next ∷ texts) ++ line_end ∷ []) (first_of (is_clean text) (all_clean (next ∷ texts)) clean) in
    rw append_assoc (front.0 ∙ more.0, front.1 (next ∷ texts) (ap (λ (fields : List (List ℕ)). [] ∷ fields) more.1))

-- so a line that splits is ended and has these fields
pub split_fields : {line : List ℕ} {fields : List (List ℕ)} → Splits line fields → (is_ended line ≡ true) × (fields_of line ≡ fields)
split_fields {line} {fields} splits = rw splits.joined (fields_of_tabbed fields splits.some splits.clean)

-- a tab in front makes an empty field more, and another byte stands in the first field
splits_tab : (rest : List ℕ) (fields : List (List ℕ)) → Splits rest fields → Splits (tab ∷ rest) ([] ∷ fields)
unfolding all_clean is_clean tabbed
splits_tab rest [] splits = absurd (omega (arith, splits.some))
splits_tab rest (text ∷ texts) splits =
    record { some = omega arith; clean = splits.clean; joined = ap (λ (line : List ℕ). tab ∷ line) splits.joined }

splits_other :
    (byte : ℕ) (rest : List ℕ) (fields : List (List ℕ)) → eqb byte tab ≡ false → eqb byte line_end ≡ false → Splits rest fields
    → Splits (byte ∷ rest) (before byte fields)
unfolding all_clean is_clean tabbed
splits_other byte rest [] no_tab no_end splits = absurd (omega (arith, splits.some))
splits_other byte rest (text ∷ texts) no_tab no_end splits =
    record { some = omega arith; clean = rw (no_tab, no_end) splits.clean; joined = ap (λ (line : List ℕ). byte ∷ line) splits.joined ∙ more texts }
  where
    more : (texts : List (List ℕ)) → byte ∷ tabbed (text ∷ texts) ++ line_end ∷ [] ≡ tabbed ((byte ∷ text) ∷ texts) ++ line_end ∷ []
    more [] = refl
    more (next ∷ texts) = refl

pub none_behind : (rest : List ℕ) → is_none rest ≡ true → rest ≡ []
none_behind [] none = refl
none_behind (byte ∷ rest) none = cc

-- an ended line splits into its fields
pub splits_ended : (line : List ℕ) → is_ended line ≡ true → Splits line (fields_of line)
unfolding is_ended fields_of all_clean is_clean tabbed
splits_ended [] ended = absurd (never_both ended refl)
splits_ended (byte ∷ rest) ended =
    by_test (eqb byte tab)
    (λ same.
    let here : byte ≡ tab = eqb-true _ _ same in
    rw here (splits_tab rest (fields_of rest) (splits_ended rest (rw here at ended))))
    (λ no_tab.
    by_test (eqb byte line_end)
    (λ same.
    let here : byte ≡ line_end = eqb-true _ _ same in
    let none : rest ≡ [] = none_behind rest (rw here at ended) in
    rw (here, none) (record { some = omega arith; clean = refl; joined = refl }))
    (λ no_end. rw (no_tab, no_end) (splits_other byte rest (fields_of rest) no_tab no_end (splits_ended rest (rw no_end at ended)))))
