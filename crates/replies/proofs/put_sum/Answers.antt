-- `put_sum` puts its three fields one behind the other.
use Rattle.ground.specs.Text.{bytes}
use Rattle.writer.proofs.Line.{then_put, last_put}
use Rattle.replies.proofs.put_sum.Goals as goal

pub returns : goal.returns
unfolding bytes
returns c =
    then_put _ _ _ (c.put_word-worded.ensures.result_value, c.put_word-worded.ensures.buffer_after)
    (then_put _ _ _ (c.put_number-numbered.ensures.result_value, c.put_number-numbered.ensures.buffer_after) (last_put _ _ _ (c.put_number.ensures.result_value, c.put_number.ensures.buffer_after)))
