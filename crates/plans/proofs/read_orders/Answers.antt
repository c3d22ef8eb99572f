-- `read_orders` notes line after line: what the lines left come to, with what stands in the buffers, is what the whole comes to.
use Prim.Native.Nat.{◌<◌}
use mathlib.Core.Path.{sym, ap, ◌∙◌}
use native.Mathlib.Omega.{arith}
use Rattle.ground.specs.Refusal.{wrong}
use Rattle.ground.specs.Limits.{most_orders}
use Rattle.plans.proofs.Orders.{gone_end, gone_fault, gone_room}
use Rattle.plans.proofs.read_orders.Goals as goal
use Rattle.plans.proofs.read_orders.Goals.{In_default}

-- an order that is not refused has room in the buffers
room_at : (c : goal.In_default) → c.loop-progress.count < most_orders
room_at c =
    gone_room c.loop-progress.invariant c.next-step.result c.next-step.ensures c.loop-progress-test.true c.in_default.not-Refused

pub returns-in-Refused : goal.returns-in-Refused
returns-in-Refused c =
    gone_fault c.loop-progress.invariant c.next-step.result c.next-step.ensures c.loop-progress-test.true c.in-Refused.number c.in-Refused.is
    ∙ ap wrong (sym c.fault_of.ensures)

pub bounds-readies-count : goal.bounds-readies-count
bounds-readies-count c = omega (arith, room_at c, c.loop-progress.invariant.sized.0)

pub bounds-dues-count : goal.bounds-dues-count
bounds-dues-count c = omega (arith, room_at c, c.loop-progress.invariant.sized.1)

pub returns : goal.returns
returns c =
    let l = c.loop-progress in (
      record { book = l.progress.book; orders = l.invariant.orders },
      gone_end l.invariant (omega (arith, c.loop-progress-test.false)),
      l.invariant.hours,
      l.invariant.few,
    )
