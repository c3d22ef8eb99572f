-- The places of a list: past its first line its orders are left, and past each line the place has moved on. Assumes nothing.
use Prim.Native.Nat.{ℕ, ◌<◌}
use mathlib.Core.Path.{◌≡◌, sym, ap, ◌∙◌}
use mathlib.Core.List.{List}
use lib.ListN.{length, drop}
use lib.Dec.{ltb}
use native.Mathlib.Omega.{arith}
use borrow.Author.Tests.{ltb-true, ltb-false}
use Rattle.ground.proofs.Tests.{by_test}
use Rattle.texts.specs.Lines.{lines_of, past_line}
use Rattle.texts.proofs.Lines.{past_is}
use Rattle.texts.proofs.Promises.{walk_on, walk_some, walk_done}
use Rattle.orders.specs.Answers.{order_lines, progress_past}
use Rattle.orders.specs.declared.Progress.{Progress}

-- past its first line a list has its orders
pub begun_left : (text : List ℕ) → order_lines text ≡ lines_of (drop (past_line text 0) text)
unfolding order_lines
begun_left text =
    by_test (ltb 0 (length text)) (λ some. rw (walk_on text 0 (ltb-true 0 (length text) some)))
    (λ none. let done = walk_done text 0 (ltb-false 0 (length text) none) in rw done.2 (ap (drop 1) done.0 ∙ sym done.0))

-- while a line is left the place moves on
pub moves_on : (text : List ℕ) (progress : Progress) → progress.at < length text → progress.at < (progress_past text progress).at
moves_on text progress inside = omega (arith, past_is text progress.at, walk_some text progress.at inside)
