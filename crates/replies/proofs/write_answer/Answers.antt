-- `write_answer` writes the reply that was put together in its own buffer.
use mathlib.Core.Path.{sym, ◌∙◌}
use Rattle.ground.specs.Refusal.{right}
use Rattle.writer.proofs.Line.{line_put, line_written}
use Rattle.replies.proofs.Replying.{reply_of_fields, reply_fits}
use Rattle.replies.proofs.write_answer.Goals as goal

pub returns : goal.returns
returns c =
    let a = c.args in
    let put = line_put (right tt) _ _ _ c.put_reply-reply.ensures.answer_bound c.put_reply-reply.ensures.comes in
    let written = line_written _ _ _ (put ∙ sym (reply_of_fields a.line a.answer)) (c.write_line.ensures.result_value, c.write_line.ensures.buffer_after) in
    record { result_value = written.0; buffer_after = written.1; answer_len_bound = reply_fits a.line a.answer c.put_reply-reply.ensures.answer_bound }
