-- How the lines of lists and plans are read: "A line: 1 first, then its fields from the left, each 2 or 3 and then 4." Assumes nothing.
use Rattle.std.specs.Prelude.{ℕ, List, [], ◌∷◌, length, get_or}
use Rattle.ground.specs.Refusal.{Read, right, check, ◌>>=◌, ◌>>◌}
use Rattle.ground.specs.Range.{within}
use Rattle.ground.specs.Limits.{last_hour, most_chambers, longest_run, last_plain}
use Rattle.ground.specs.Text.{bytes}
use Rattle.classes.specs.Classes.{comma}
use Rattle.hours.specs.Reading.{hour_of, plain_of}
use Rattle.fields.specs.Fields.{fields_of, same_bytes, shape_of}
use Rattle.lines.specs.declared.Heading.{Heading}
use Rattle.lines.specs.declared.Order.{Order}
use Rattle.lines.specs.declared.Load.{Load}

-- "grower (1 to 9,999)"
abbrev pub last_grower : ℕ
last_grower = 9_999

-- "the word `steam`"
unfoldable pub steam : List ℕ
steam = bytes "steam"

-- 1: "first word of a list's first line is not `steam`"; the word has no number, so 0 stands for it
unfoldable pub steam_at : List ℕ → Read ℕ
steam_at text = do
  check (same_bytes text steam) 1
  right 0

-- 4: "a number, read or given, is out of its range"
unfoldable pub ranged : ℕ → ℕ → ℕ → Read ℕ
ranged low high number = do
  check (within low high number) 4
  right number

-- a number field: 2, then 4 where it is out of its range
unfoldable pub plain_within : ℕ → ℕ → List ℕ → Read ℕ
plain_within low high text = do
  number ← plain_of text
  ranged low high number

-- an hour field with a range of its own: 3, then 4
unfoldable pub hour_within : ℕ → ℕ → List ℕ → Read ℕ
hour_within low high text = do
  hour ← hour_of comma text
  ranged low high hour

-- "A field that does not read ends the reading of its line there": fields read from the left, as long as there are any
unfoldable pub read_all : List (List ℕ → Read ℕ) → List (List ℕ) → Read (List ℕ)
read_all [] texts = right []
read_all (reader ∷ readers) [] = right []
read_all (reader ∷ readers) (text ∷ texts) = do
  number ← reader text
  numbers ← read_all readers texts
  right (number ∷ numbers)

-- "A line: 1 first, then its fields from the left": a line of at least so many fields, and no more than there are readers
unfoldable pub line_of : ℕ → List (List ℕ → Read ℕ) → List ℕ → Read (List ℕ)
line_of least readers line = do
  shape_of least (length readers) line
  read_all readers (fields_of line)

-- "First line: the word `steam`, the number of chambers (1 to 8), the run in hours"
abbrev pub heading_readers : List (List ℕ → Read ℕ)
heading_readers = steam_at ∷ plain_within 1 most_chambers ∷ hour_within 1 longest_run ∷ []

unfoldable pub heading_of : List ℕ → Read Heading
heading_of line = do
  numbers ← line_of 3 heading_readers line
  right (record { chambers = get_or numbers 1 0; run = get_or numbers 2 0 })

-- "Each further line is an order: grower (1 to 9,999), ready hour, due hour"
abbrev pub order_readers : List (List ℕ → Read ℕ)
order_readers = plain_within 1 last_grower ∷ hour_within 0 last_hour ∷ hour_within 0 last_hour ∷ []

unfoldable pub order_of : List ℕ → Read Order
order_of line = do
  numbers ← line_of 3 order_readers line
  right (record { grower = get_or numbers 0 0; ready = get_or numbers 1 0; due = get_or numbers 2 0 })

-- a plan's line: "line number of the order in its list, chamber, start hour", with "a plan's chamber (1 to the list's count)"
abbrev pub load_readers : ℕ → List (List ℕ → Read ℕ)
load_readers count = plain_within 0 last_plain ∷ plain_within 1 count ∷ hour_within 0 last_hour ∷ []

unfoldable pub load_of : ℕ → List ℕ → Read Load
load_of count line = do
  numbers ← line_of 3 (load_readers count) line
  right (record { order = get_or numbers 0 0; chamber = get_or numbers 1 0; start = get_or numbers 2 0 })
