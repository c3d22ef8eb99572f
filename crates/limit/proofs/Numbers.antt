-- What is read from lines, as the numbers that the limit speaks of. Assumes nothing.
use Prim.Native.Nat.{ℕ, ◌-◌}
use mathlib.Core.List.{List}
use lib.ListN.{take}
use Rattle.ground.specs.Limits.{first_order_line}
use Rattle.lines.specs.declared.Order as lines
use Rattle.lines.specs.declared.Load.{Load}
use Rattle.book.specs.History.{OrderHours}
use Rattle.book.specs.Taking.{hold}
use Rattle.book.specs.declared.Book.{Book}
use Rattle.bound.specs.Plans.{Lengths, PlanLoad}

-- the ready and the due hour of an order
abbrev pub as_order : lines.Order → OrderHours
as_order order = record { ready = order.ready; due = order.due }

-- a load, with the place of its order in the list instead of the line
abbrev pub as_plan_load : Load → PlanLoad
as_plan_load load = record { order = load.order - first_order_line; chamber = load.chamber; start = load.start }

-- how long a run of a book lasts, and how long a load holds its chamber
abbrev pub lengths_of : Book → Lengths
lengths_of book = record { run = book.run; hold = hold book }

-- the hours that the chambers of a book are free from
abbrev pub free_of : Book → List ℕ
free_of book = take book.chambers book.free
