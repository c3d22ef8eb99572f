-- `line_at_fault` takes the part of the text that the fault stands in.
use Rattle.ground.proofs.Tests.{never_both}
use Rattle.plans.specs.Judging.{shown}
use Rattle.plans.proofs.line_at_fault.Goals as goal
use Rattle.plans.proofs.line_at_fault.Goals.{then-fault, else-fault}

pub returns : goal.returns
unfolding shown
returns c =
    let part = c.part.ensures in
    elim c.if-fault.branch [
      | then-fault w ↦
          record {
            result_value = rw w.if-fault.true (rw w.text-is at part.result_value);
            shown_in = record { in_plan = λ plan. rw w.text-is at part.lies_at; in_list = λ list. absurd (never_both w.if-fault.true list) };
          }
      | else-fault w ↦
          record {
            result_value = rw w.if-fault.false (rw w.text-is at part.result_value);
            shown_in = record { in_plan = λ plan. absurd (never_both plan w.if-fault.false); in_list = λ list. rw w.text-is at part.lies_at };
          }
    ]
