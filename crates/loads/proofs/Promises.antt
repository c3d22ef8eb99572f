-- What this room promises, about the very contracts of its functions. Each is a line over a law of this folder. Assumes nothing.
use Prim.Native.Nat.{ℕ, ◌+◌, ◌-◌, ◌<◌}
use mathlib.Core.Path.{◌≡◌, sym, ap, ◌∙◌}
use mathlib.Core.Bool.{Bool, true}
use mathlib.Core.Logic.{◌↔◌}
use contract.Lifetimes.{Lfts}
use Rattle.std.specs.Prelude.{Result}
use Rattle.ground.specs.Refusal.{number_of, as_read}
use Rattle.ground.specs.Outcome.{Single}
use Rattle.ground.specs.declared.Refusal.{Refusal}
use Rattle.ground.proofs.Outcome.{single_value, single_answer}
use Rattle.ground.proofs.Refusals.{answers_told}
use Rattle.lines.specs.declared.Load.{Load}
use Rattle.loads.specs.Checks.{load_marked, overlap, load_from}
use Rattle.loads.specs.Meaning.{Refused}
use Rattle.loads.proofs.place_of.Reads as place_of
use Rattle.loads.proofs.load_refusal.Reads as load_refusal
use Rattle.loads.proofs.overlap.Reads as overlapping
use Rattle.loads.proofs.Refusals as refusals

-- 1b: a load is answered by 11, 12, 13, 14 or, in time, by none, which is 0 here; each exactly when the table says
pub refused_exactly :
    (κs : Lfts 3) (load : Load) (run : ℕ) (readies dues lines : _) (answer : Result (Unit {0}) Refusal) (after : _)
    → load_refusal.Learnt κs (load, (run, (readies, (dues, (lines, tt))))) answer after → (given : ℕ)
    → (number_of (as_read answer) ≡ given) ↔ Refused run readies.now dues.now lines.now load given
refused_exactly κs load run readies dues lines answer after learnt given =
    let law = refusals.refusal_exactly run readies.now dues.now lines.now load given in
    (λ same. law.0 (sym (ap number_of learnt) ∙ same), λ refused. ap number_of learnt ∙ law.1 refused)

-- "Two loads overlap when each starts before the other ends", in one chamber
pub overlap_exactly :
    (κs : Lfts 0) (hold chamber start other begins : ℕ) (together : Bool) (after : _)
    → overlapping.Learnt κs (hold, (chamber, (start, (other, (begins, tt))))) together after
    → (together ≡ true) ↔ ((chamber ≡ other) × (start < begins + hold) × (begins < start + hold))
overlap_exactly κs hold chamber start other begins together after learnt =
    let law = refusals.overlap_exactly hold (load_from chamber start) (load_from other begins) in
    (λ same. law.0 (sym learnt ∙ same), λ facts. learnt ∙ law.1 facts)

-- orders are counted from line 2 on
pub place_exactly : (κs : Lfts 0) (order place : ℕ) (after : _) → place_of.Learnt κs (order, tt) place after → place ≡ order - 2
place_exactly κs order place after learnt = learnt

-- 1d: each public function's contract admits a single outcome
pub place_of_single : (κs : Lfts 0) (order : ℕ) (after : _) → Single (λ place. place_of.Learnt κs (order, tt) place after)
place_of_single κs order after = single_value (order - 2)

pub load_refusal_single :
    (κs : Lfts 3) (load : Load) (run : ℕ) (readies dues lines : _) (after : _)
    → Single (λ answer. load_refusal.Learnt κs (load, (run, (readies, (dues, (lines, tt))))) answer after)
load_refusal_single κs load run readies dues lines after = single_answer as_read answers_told (load_marked run readies.now dues.now lines.now load)

pub overlap_single :
    (κs : Lfts 0) (hold chamber start other begins : ℕ) (after : _)
    → Single (λ together. overlapping.Learnt κs (hold, (chamber, (start, (other, (begins, tt))))) together after)
overlap_single κs hold chamber start other begins after = single_value (overlap hold (load_from chamber start) (load_from other begins))

-- 1a: no public function asks anything of what it is passed
pub nothing_asked :
    ((κs : Lfts 0) (passed : _) → place_of.Asked κs passed)
    × ((κs : Lfts 3) (passed : _) → load_refusal.Asked κs passed)
    × ((κs : Lfts 0) (passed : _) → overlapping.Asked κs passed)
nothing_asked = (λ κs passed. tt, λ κs passed. tt, λ κs passed. tt)
