-- `write_sum` writes the sum that was put together in its own buffer.
use Prim.Native.Nat.{◌≤◌}
use mathlib.Core.Path.{sym, ◌∙◌}
use native.Mathlib.Omega.{arith}
use Rattle.ground.specs.Refusal.{right}
use Rattle.ground.specs.Text.{bytes}
use Rattle.writer.specs.Line.{line_room}
use Rattle.writer.specs.Steps.{bytes_of_all}
use Rattle.writer.proofs.Line.{line_put, line_written, number_short}
use Rattle.replies.specs.Steps.{sum_put}
use Rattle.replies.proofs.Replying.{sum_of_fields, sum_fits}
use Rattle.replies.proofs.write_sum.Goals as goal

pub returns : goal.returns
unfolding bytes_of_all bytes
returns c =
    let a = c.args in
    let room : bytes_of_all (sum_put a.taken a.kept) ≤ line_room =
    omega (arith, number_short a.taken (omega arith), number_short a.kept (omega arith)) in
    let put = line_put (right tt) _ _ _ room c.put_sum-sum.ensures in
    let written = line_written _ _ _ (put ∙ sym (sum_of_fields a.taken a.kept)) (c.write_line.ensures.result_value, c.write_line.ensures.buffer_after) in
    record { result_value = written.0; buffer_after = written.1; kept_len_bound = sum_fits a.taken a.kept room }
