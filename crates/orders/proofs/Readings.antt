-- Lines that read one by one, as what the readers come to. Assumes nothing.
use Prim.Native.Nat.{ℕ, suc}
use mathlib.Core.Path.{◌≡◌, refl, ap}
use mathlib.Core.Logic.{◌↔◌}
use mathlib.Core.List.{List, [], ◌∷◌, map, nil≢cons, cons≢nil, head-eq_of_cons-eq, tail-eq_of_cons-eq}
use lib.ListN.{length}
use Rattle.ground.specs.Refusal.{Read, right}
use Rattle.lines.specs.Reading.{order_of, load_of}
use Rattle.lines.specs.Meaning.{OrderReads, LoadReads}
use Rattle.lines.specs.declared.Order.{Order}
use Rattle.lines.specs.declared.Load.{Load}
use Rattle.lines.proofs.Promises.{order_reads, load_reads}
use Rattle.orders.specs.Meaning.{EachReads, none_left, one_more}

-- as many values as lines
pub as_many_read :
    {A : Type 0} {Reads : List ℕ → A → Type 0} {lines : List (List ℕ)} {values : List A} → EachReads Reads lines values → length lines ≡ length values
as_many_read none_left = refl
as_many_read (one_more read others) = ap suc (as_many_read others)

module _ {A : Type 0} (reader : List ℕ → Read A) (Reads : List ℕ → A → Type 0)
    (reads : (line : List ℕ) (value : A) → (reader line ≡ right value) ↔ Reads line value) where
  -- lines of which the reader makes values read as these
  each_from : (lines : List (List ℕ)) (values : List A) → map reader lines ≡ map right values → EachReads Reads lines values
  each_from [] [] e = none_left
  each_from [] (value ∷ values) e = absurd (nil≢cons e)
  each_from (line ∷ lines) [] e = absurd (cons≢nil e)
  each_from (line ∷ lines) (value ∷ values) e =
      one_more ((reads line value).0 (head-eq_of_cons-eq e)) (each_from lines values (tail-eq_of_cons-eq e))

  -- and of lines that read so it makes them
  each_to : {lines : List (List ℕ)} {values : List A} → EachReads Reads lines values → map reader lines ≡ map right values
  each_to none_left = refl
  each_to (one_more {line = line} {one = value} read others) = let here = (reads line value).1 read in let later = each_to others in λ i. here i ∷ later i

-- of orders, and of loads
pub orders_exactly : (lines : List (List ℕ)) (orders : List Order) → (map order_of lines ≡ map right orders) ↔ EachReads OrderReads lines orders
orders_exactly lines orders = (each_from order_of OrderReads order_reads lines orders, each_to order_of OrderReads order_reads)

pub loads_exactly :
    (count : ℕ) (lines : List (List ℕ)) (loads : List Load) → (map (load_of count) lines ≡ map right loads) ↔ EachReads (LoadReads count) lines loads
loads_exactly count lines loads =
    (each_from (load_of count) (LoadReads count) (load_reads count) lines loads, each_to (load_of count) (LoadReads count) (load_reads count))
