-- `put_answer` puts the fields of the answer that it has, one behind the other.
use native.Mathlib.Omega.{arith}
use Rattle.ground.specs.Text.{bytes}
use Rattle.writer.specs.Steps.{bytes_of_all}
use Rattle.writer.proofs.Line.{then_put, last_put, number_short, hour_short}
use Rattle.replies.proofs.put_answer.Goals as goal

pub returns-in-Yes : goal.returns-in-Yes
unfolding bytes bytes_of_all
returns-in-Yes c =
    let yes = c.in-Yes in
    rw yes.is
    (record {
      comes =
          then_put _ _ _ (c.put_word-worded.ensures.result_value, c.put_word-worded.ensures.buffer_after)
          (then_put _ _ _ (c.put_number-housed.ensures.result_value, c.put_number-housed.ensures.buffer_after)
          (last_put _ _ _ (c.put_hour.ensures.result_value, c.put_hour.ensures.buffer_after)));
      answer_bound = omega (arith, number_short yes.chamber (omega arith), hour_short yes.start);
    })

pub returns-in-No : goal.returns-in-No
unfolding bytes bytes_of_all
returns-in-No c = rw c.in-No.is (record { comes = last_put _ _ _ (c.put_word.ensures.result_value, c.put_word.ensures.buffer_after); answer_bound = omega arith })

pub returns-in-Refused : goal.returns-in-Refused
unfolding bytes bytes_of_all
returns-in-Refused c =
    let refused = c.in-Refused in
    rw refused.is
    (record {
      comes =
          then_put _ _ _ (c.put_word-worded-in-Refused.ensures.result_value, c.put_word-worded-in-Refused.ensures.buffer_after)
          (last_put _ _ _ (c.put_number.ensures.result_value, c.put_number.ensures.buffer_after));
      answer_bound = omega (arith, number_short refused.number (omega arith));
    })
