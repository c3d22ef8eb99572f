-- The limits of the paper that more than one room tests, each in one place. Assumes nothing.
use Rattle.std.specs.Prelude.{ℕ, suc}

-- "an hour is a whole number of hundredths, 0 to 999,999"
abbrev pub last_hour : ℕ
last_hour = 999_999

-- "the number of chambers (1 to 8)"
abbrev pub most_chambers : ℕ
most_chambers = 8

-- "Plain numbers have one to four digits": the last of them
abbrev pub last_plain : ℕ
last_plain = 9_999

-- "the run in hours (1 to 9,999 hundredths)"
abbrev pub longest_run : ℕ
longest_run = 9_999

-- "the book has taken 512 orders"
abbrev pub most_orders : ℕ
most_orders = 512

-- "An order list is at most 65,536 bytes, and so is a plan"
abbrev pub longest_text : ℕ
longest_text = 65_536

-- "the first line is 1, so orders start at 2": the lines that an order can stand on, in a list of as many orders as a book takes
abbrev pub first_order_line : ℕ
first_order_line = 2

abbrev pub last_order_line : ℕ
last_order_line = suc most_orders
