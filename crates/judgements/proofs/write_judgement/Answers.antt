-- `write_judgement` writes the line that was put together in its own buffer.
use mathlib.Core.Path.{sym, ◌∙◌}
use Rattle.ground.specs.Refusal.{right}
use Rattle.writer.proofs.Line.{line_put, line_written}
use Rattle.judgements.proofs.JudgementLine.{judgement_of_fields, judgement_fits}
use Rattle.judgements.proofs.write_judgement.Goals as goal

pub returns : goal.returns
returns c =
    let judgement = c.args.judgement in
    let line = c.put_judgement-line.ensures in
    let put = line_put (right tt) _ _ _ line.judgement_bound line.comes in
    let written =
    line_written _ _ _ (put ∙ sym (judgement_of_fields judgement))
    (c.write_line.ensures.result_value, c.write_line.ensures.buffer_after) in
    record { result_value = written.0; buffer_after = written.1; judgement_len_bound = judgement_fits judgement line.judgement_bound }
