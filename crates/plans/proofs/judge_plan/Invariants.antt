use Prim.Native.Nat.{◌-◌}
use lib.ListN.{length, get_or}
use Rattle.plans.specs.Steps.{line_at_place, starts_of, befores_of, lasts_of}
use Rattle.plans.proofs.Chains.{Searched}
use Rattle.plans.proofs.Planning.{Reached}
use Rattle.plans.proofs.judge_plan.Given as goal

abbrev pub invariant-loop-earlier : goal.invariant-loop-earlier
invariant-loop-earlier l =
    Searched (starts_of l.passed) (befores_of l.passed) l.hold l.load (get_or (lasts_of l.lasts) (l.load.chamber - 1) 0) (line_at_place l.earlier)

abbrev pub decreases-loop-earlier : goal.decreases-loop-earlier
decreases-loop-earlier l = line_at_place l.earlier

abbrev pub invariant-plan : goal.invariant-plan
invariant-plan l = Reached l.plan l.book l.readies l.dues l.lines (starts_of l.passed) (befores_of l.passed) (lasts_of l.lasts) l.line l.at

abbrev pub decreases-plan : goal.decreases-plan
decreases-plan l = length l.plan - l.at
