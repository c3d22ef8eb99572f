-- What this room promises, of the contracts themselves and of the definitions that they cite, by the laws of this folder. Assumes nothing.
use Prim.Native.Nat.{ℕ, ◌≤◌}
use mathlib.Core.Path.{◌≡◌, refl, sym, ap, ◌∙◌}
use mathlib.Core.List.{List, [], ◌∷◌}
use mathlib.Core.Logic.Iff
use mathlib.Core.Logic.{◌↔◌}
use native.Mathlib.Omega.{arith}
use contract.Lifetimes.{Lfts}
use denote.Ref.{Bor}
use Rattle.std.specs.Prelude.{Result, Ok, Err}
use Rattle.ground.specs.declared.Refusal.{Refusal}
use Rattle.ground.specs.Refusal.{Read, wrong, right, refusal_number, as_read}
use Rattle.ground.specs.Outcome.{Single}
use Rattle.ground.proofs.Checks.{never_right, same_wrong}
use Rattle.ground.proofs.Refusals.{answers_told}
use Rattle.ground.proofs.Outcome.{single_answer, answered_exactly}
use Rattle.lines.specs.Reading.{last_grower, steam, heading_of, order_of, load_of}
use Rattle.lines.specs.Meaning.{Kind, LineFault, misshapen, at_field, HeadingReads, HeadingFault, OrderReads, OrderFault, LoadReads, LoadFault}
use Rattle.lines.specs.declared.Heading.{Heading}
use Rattle.lines.specs.declared.Order.{Order}
use Rattle.lines.specs.declared.Load.{Load}
use Rattle.lines.proofs.read_heading.Reads as read_heading
use Rattle.lines.proofs.read_order.Reads as read_order
use Rattle.lines.proofs.read_load.Reads as read_load
use Rattle.lines.proofs.FieldReading as fields
use Rattle.lines.proofs.Faults.{line_exactly, heading_go, order_go, load_go, read_at, first_from}

-- "grower (1 to 9,999)", and "the word `steam`"
pub last_grower_lem : last_grower ≡ 9_999
last_grower_lem = refl

pub steam_bytes : steam ≡ 115 ∷ 116 ∷ 101 ∷ 97 ∷ 109 ∷ []
steam_bytes = fields.steam_bytes

-- 1b: a list's first line is refused by a number exactly when its first fault has that number, and its values are what its fields read as
pub heading_fault : (line : List ℕ) (number : ℕ) → (heading_of line ≡ wrong number) ↔ HeadingFault line number
unfolding heading_of
heading_fault line number = (line_exactly heading_go 3 line {A = Heading} _).1 number

pub heading_reads : (line : List ℕ) (values : Heading) → (heading_of line ≡ right values) ↔ HeadingReads line values
unfolding heading_of
heading_reads line values = (line_exactly heading_go 3 line {A = Heading} _).0 values

-- 1b: the same of an order line
pub order_fault : (line : List ℕ) (number : ℕ) → (order_of line ≡ wrong number) ↔ OrderFault line number
unfolding order_of
order_fault line number = (line_exactly order_go 3 line {A = Order} _).1 number

pub order_reads : (line : List ℕ) (values : Order) → (order_of line ≡ right values) ↔ OrderReads line values
unfolding order_of
order_reads line values = (line_exactly order_go 3 line {A = Order} _).0 values

-- 1b: and of a plan line for a list with so many chambers
pub load_fault : (count : ℕ) (line : List ℕ) (number : ℕ) → (load_of count line ≡ wrong number) ↔ LoadFault count line number
unfolding load_of
load_fault count line number = (line_exactly (load_go count) 3 line {A = Load} _).1 number

pub load_reads : (count : ℕ) (line : List ℕ) (values : Load) → (load_of count line ≡ right values) ↔ LoadReads count line values
unfolding load_of
load_reads count line values = (line_exactly (load_go count) 3 line {A = Load} _).0 values

-- so what was read is in its ranges, and a fault has a number from 1 to 4
pub heading_ranges :
    (line : List ℕ) (values : Heading) → heading_of line ≡ right values
    → (1 ≤ values.chambers) × (values.chambers ≤ 8) × (1 ≤ values.run) × (values.run ≤ 9_999)
heading_ranges line values e =
    let makes = (heading_reads line values).0 e in
    let enough = makes.reads.shaped.enough in
    let chambers = read_at makes.reads.read 1 (omega arith) in
    let run = read_at makes.reads.read 2 (omega arith) in
    rw (← makes.made) (chambers.least, chambers.most, run.least, run.most)

pub order_ranges :
    (line : List ℕ) (values : Order) → order_of line ≡ right values
    → (1 ≤ values.grower) × (values.grower ≤ 9_999) × (values.ready ≤ 999_999) × (values.due ≤ 999_999)
order_ranges line values e =
    let makes = (order_reads line values).0 e in
    let enough = makes.reads.shaped.enough in
    let grower = read_at makes.reads.read 0 (omega arith) in
    let ready = read_at makes.reads.read 1 (omega arith) in
    rw (← makes.made) (grower.least, grower.most, ready.most, (read_at makes.reads.read 2 (omega arith)).most)

pub load_ranges :
    (count : ℕ) (line : List ℕ) (values : Load) → load_of count line ≡ right values
    → (values.order ≤ 9_999) × (1 ≤ values.chamber) × (values.chamber ≤ count) × (values.start ≤ 999_999)
load_ranges count line values e =
    let makes = (load_reads count line values).0 e in
    let enough = makes.reads.shaped.enough in
    let order = read_at makes.reads.read 0 (omega arith) in
    let chamber = read_at makes.reads.read 1 (omega arith) in
    rw (← makes.made) (order.most, chamber.least, chamber.most, (read_at makes.reads.read 2 (omega arith)).most)

pub line_fault_from : {least : ℕ} {kinds : List Kind} {line : List ℕ} {number : ℕ} → LineFault least kinds line number → (1 ≤ number) × (number ≤ 4)
line_fault_from (misshapen never) = (omega arith, omega arith)
line_fault_from (at_field fields shaped fault) = first_from fault

-- an answer refuses by a number exactly when its reading does
refused_by :
    {A : Type 0} {read : Read A} (answer : Result A Refusal) → as_read answer ≡ read → (number : ℕ)
    → ((refusal : Refusal) × (answer ≡ Err refusal) × (refusal_number refusal ≡ number)) ↔ (read ≡ wrong number)
refused_by (Ok value) reads number = (λ by. absurd (never_right (sym (ap as_read by.1))), λ refused. absurd (never_right (sym (reads ∙ refused))))
refused_by (Err refusal) reads number =
    (λ by. sym reads ∙ ap as_read by.1 ∙ ap wrong by.2, λ refused. (refusal, refl, same_wrong (reads ∙ refused)))

-- 1b, of the answer itself: `read_heading` reads these values exactly when the line has its three fields and they read as the word,
-- these chambers from 1 to 8 and this run from 1 to 9,999; and it refuses by a number exactly when the first fault has it
module _ (κs : Lfts 1) (line : Bor (List ℕ)) (answer : Result Heading Refusal) (after : _) (learnt : read_heading.Learnt κs (line, tt) answer after) where
  pub heading_read_exactly : (values : Heading) → (answer ≡ Ok values) ↔ HeadingReads line.now values
  heading_read_exactly values = Iff.trans (answered_exactly as_read answers_told answer _ learnt) (heading_reads line.now values)

  pub heading_refused_exactly : (number : ℕ) → ((refusal : Refusal) × (answer ≡ Err refusal) × (refusal_number refusal ≡ number)) ↔ HeadingFault line.now number
  heading_refused_exactly number = Iff.trans (refused_by answer learnt number) (heading_fault line.now number)

-- `read_order`: grower from 1 to 9,999, ready and due from 0 to 999,999
module _ (κs : Lfts 1) (line : Bor (List ℕ)) (answer : Result Order Refusal) (after : _) (learnt : read_order.Learnt κs (line, tt) answer after) where
  pub order_read_exactly : (values : Order) → (answer ≡ Ok values) ↔ OrderReads line.now values
  order_read_exactly values = Iff.trans (answered_exactly as_read answers_told answer _ learnt) (order_reads line.now values)

  pub order_refused_exactly : (number : ℕ) → ((refusal : Refusal) × (answer ≡ Err refusal) × (refusal_number refusal ≡ number)) ↔ OrderFault line.now number
  order_refused_exactly number = Iff.trans (refused_by answer learnt number) (order_fault line.now number)

-- `read_load`: order line from 0 to 9,999, chamber from 1 to the list's count, start from 0 to 999,999
module _
    (κs : Lfts 1)
    (line : Bor (List ℕ))
    (count : ℕ)
    (answer : Result Load Refusal)
    (after : _)
    (learnt : read_load.Learnt κs (line, (count, tt)) answer after)
  where
    pub load_read_exactly : (values : Load) → (answer ≡ Ok values) ↔ LoadReads count line.now values
    load_read_exactly values = Iff.trans (answered_exactly as_read answers_told answer _ learnt) (load_reads count line.now values)

    pub load_refused_exactly : (number : ℕ) → ((refusal : Refusal) × (answer ≡ Err refusal) × (refusal_number refusal ≡ number)) ↔ LoadFault count line.now number
    load_refused_exactly number = Iff.trans (refused_by answer learnt number) (load_fault count line.now number)

-- 1d: each public function's contract admits a single outcome
pub read_heading_single : (κs : Lfts 1) (line : Bor (List ℕ)) (after : _) → Single (λ answer. read_heading.Learnt κs (line, tt) answer after)
read_heading_single κs line after = single_answer as_read answers_told (heading_of line.now)

pub read_order_single : (κs : Lfts 1) (line : Bor (List ℕ)) (after : _) → Single (λ answer. read_order.Learnt κs (line, tt) answer after)
read_order_single κs line after = single_answer as_read answers_told (order_of line.now)

pub read_load_single :
    (κs : Lfts 1) (line : Bor (List ℕ)) (count : ℕ) (after : _) → Single (λ answer. read_load.Learnt κs (line, (count, tt)) answer after)
read_load_single κs line count after = single_answer as_read answers_told (load_of count line.now)

-- 1a: no public function asks anything of what it is passed
pub nothing_asked :
    ((κs : Lfts 1) (passed : _) → read_heading.Asked κs passed)
    × ((κs : Lfts 1) (passed : _) → read_order.Asked κs passed)
    × ((κs : Lfts 1) (passed : _) → read_load.Asked κs passed)
nothing_asked = (λ κs passed. tt, λ κs passed. tt, λ κs passed. tt)
