use Prim.Native.Nat.{◌≤◌}
use mathlib.Core.Path.{◌≡◌}
use lib.ListN.{drop}
use Rattle.fields.specs.Cutting.{cut_from, cut_of}
use Rattle.fields.proofs.cut_line.Given as goal

abbrev pub invariant-loop-at : goal.invariant-loop-at
invariant-loop-at l = record { counted : l.found.count ≤ l.at; left : cut_from l.found l.at (drop l.at l.line) ≡ cut_of l.line }
