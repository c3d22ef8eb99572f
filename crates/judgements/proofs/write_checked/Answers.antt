-- `write_checked` writes the line of the judgement that it has for the two texts.
use Rattle.judgements.proofs.JudgementLine.{checked_of}
use Rattle.judgements.proofs.write_checked.Goals as goal

pub returns : goal.returns
returns c =
    let a = c.args in
    let written = c.write_judgement.ensures in
    rw (checked_of a.list.now a.plan.now c.judge-judgement.result c.judge-judgement.ensures)
    (
    record {
      result_value = written.result_value;
      buffer_after = written.buffer_after;
      plan_len_bound = written.judgement_len_bound;
    }
    )
