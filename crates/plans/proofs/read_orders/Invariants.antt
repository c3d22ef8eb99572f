use Prim.Native.Nat.{◌-◌}
use lib.ListN.{length}
use Rattle.plans.proofs.Orders.{Gone}
use Rattle.plans.proofs.read_orders.Given as goal

abbrev pub invariant-loop-progress : goal.invariant-loop-progress
invariant-loop-progress l = Gone l.list l.initial.progress l.readies l.dues l.progress l.count

abbrev pub decreases-loop-progress : goal.decreases-loop-progress
decreases-loop-progress l = length l.list - l.progress.at
