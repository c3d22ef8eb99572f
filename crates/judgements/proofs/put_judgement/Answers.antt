-- `put_judgement` puts the fields of the judgement that it has, one behind the other.
use native.Mathlib.Omega.{arith}
use Rattle.ground.specs.Text.{bytes}
use Rattle.writer.specs.Steps.{bytes_of_all}
use Rattle.writer.proofs.Line.{then_put, last_put, number_short}
use Rattle.judgements.proofs.JudgementLine.{word_short}
use Rattle.judgements.proofs.put_judgement.Goals as goal

pub returns-in-Ok : goal.returns-in-Ok
unfolding bytes bytes_of_all
returns-in-Ok c =
    let right = c.in-Ok in
    let worded = c.put_word-worded.ensures in
    let numbered = c.put_number.ensures in
    rw right.is
    (record {
      comes =
          then_put _ _ _ (worded.result_value, worded.buffer_after)
          (last_put _ _ _ (numbered.result_value, numbered.buffer_after));
      judgement_bound = omega (arith, number_short right.count (omega arith));
    })

pub returns-in-Err : goal.returns-in-Err
unfolding bytes bytes_of_all
returns-in-Err c =
    let fault = c.in-Err.fault in
    let worded = c.put_word-worded-in-Err.ensures in
    let numbered = c.put_number-numbered.ensures in
    let named = c.put_word-named.ensures in
    let valued = rw c.text_word.ensures at named.result_value in
    let held = rw c.text_word.ensures at named.buffer_after in
    let placed = c.put_number-in-Err.ensures in
    rw c.in-Err.is
    (record {
      comes =
          then_put _ _ _ (worded.result_value, worded.buffer_after)
          (then_put _ _ _ (numbered.result_value, numbered.buffer_after)
          (then_put _ _ _ (valued, held)
          (last_put _ _ _ (placed.result_value, placed.buffer_after))));
      judgement_bound =
          omega (arith, number_short fault.number (omega arith), number_short fault.line (omega arith), word_short fault.plan);
    })
