-- `put_reply` puts the number of a line, and its answer behind it.
use native.Mathlib.Omega.{arith}
use Rattle.writer.specs.Steps.{bytes_of_all}
use Rattle.writer.proofs.Line.{then_put, number_short}
use Rattle.replies.proofs.put_reply.Goals as goal

pub returns : goal.returns
unfolding bytes_of_all
returns c =
    let numbered = c.put_number-numbered.ensures in
    record {
      comes = then_put _ _ _ (numbered.result_value, numbered.buffer_after) c.put_answer.ensures.comes;
      answer_bound = omega (arith, number_short c.args.line (omega arith), c.put_answer.ensures.answer_bound);
    }
