-- How a plan is judged: "The checker is lent an order list and a plan, made by whoever … The first fault is the answer, with its number,
-- which text, its line number, and the line at fault". Assumes nothing.
use Rattle.std.specs.Prelude.{ℕ, suc, ◌+◌, ◌≡◌, Bool, true, false, not, cond, ◌||◌, List, [], ◌∷◌, ◌++◌, length, leb, eqb, Result, Ok, Err}
use Rattle.std.specs.Borrow.{Bor}
use Rattle.ground.specs.Refusal.{Or, Read, wrong, right, check, ◌>>=◌, ◌>>◌}
use Rattle.ground.specs.Limits.{longest_text}
use Rattle.texts.specs.Lines.{lines_of, past_line, part_of, part_start}
use Rattle.texts.specs.Meaning.{LiesAt}
use Rattle.lines.specs.Reading.{order_of, load_of}
use Rattle.lines.specs.declared.Order.{Order}
use Rattle.lines.specs.declared.Load.{Load}
use Rattle.orders.specs.Answers.{opening, order_lines, decision, book_past, order_in}
use Rattle.book.specs.Taking.{hold}
use Rattle.book.specs.declared.Book.{Book}
use Rattle.loads.specs.Checks.{order_named, load_asked, overlap}
use Rattle.plans.specs.declared.Fault.{Fault}

-- what a line comes to, with its refusal as the fault of a text: whether that is the plan, the line's number, and the place where it stands
abbrev pub fault_at : {Known : Type 0} → Bool → ℕ → ℕ → ℕ → Read Known → Or Fault Known
fault_at plan line from to (wrong number) = wrong (record { number = number; plan = plan; line = line; from = from; to = to })
fault_at plan line from to (right known) = right known

-- "it goes through the list from the top … Then it goes through the plan from the top": each line is noted in what is known so far, and
-- the first that cannot be noted is the fault
unfoldable pub through : {Known : Type 0} → (Known → List ℕ → Read Known) → Bool → ℕ → ℕ → Known → List (List ℕ) → Or Fault Known
through note plan line at known [] = right known
through note plan line at known (text ∷ texts) = do
  next ← fault_at plan line at (at + length text) (note known text)
  through note plan (suc line) (at + length text) next texts

-- what is known of a list so far: the book, and the orders
pub record ListKnown : Type 0 where
  pub book : Book
  pub orders : List Order

-- "here any of 1 to 6 on any line is a fault": an order line is decided of as at the desk
unfoldable pub note_order : ListKnown → List ℕ → Read ListKnown
note_order known line = do
  decision known.book (order_of line)
  right (record { book = book_past known.book (order_of line); orders = known.orders ++ order_in (order_of line) ∷ [] })

-- a test holds of one of several things
unfoldable pub any_of : {A : Type 0} → (A → Bool) → List A → Bool
any_of test [] = false
any_of test (one ∷ all) = test one || any_of test all

-- "the same order stands on an earlier plan line"
abbrev pub stands_in : ℕ → List Load → Bool
stands_in order loads = any_of (λ earlier. eqb order earlier.order) loads

-- "the load overlaps an earlier plan line's load in the same chamber"
abbrev pub overlaps_any : ℕ → Load → List Load → Bool
overlaps_any held load loads = any_of (λ earlier. overlap held load earlier) loads

-- what is asked of a load in its order, 11 to 14, behind these loads
abbrev pub load_checked : ℕ → List Order → List Load → Load → Read (Unit {0})
load_checked run orders loads load = load_asked run (length orders) (order_named orders load) (not (stands_in load.order loads)) load

-- "A plan line: the line checks, then 11, 12, 13, 14, 15"; what is known of a plan so far are its loads
unfoldable pub note_load : Book → List Order → List Load → List ℕ → Read (List Load)
note_load book orders loads line = do
  load ← load_of book.chambers line
  load_checked book.run orders loads load
  check (not (overlaps_any (hold book) load loads)) 15
  right (loads ++ load ∷ [])

-- the orders of a list that begins with this book: they start on line 2
unfoldable pub list_judged : List ℕ → Book → Or Fault ListKnown
list_judged list book = through note_order false 2 (past_line list 0) (record { book = book; orders = [] }) (order_lines list)

-- the loads of a plan, for a list that begins with this book and has these orders
unfoldable pub plan_judged : List ℕ → Book → List Order → Or Fault (List Load)
plan_judged plan book orders = through (note_load book orders) true 1 0 [] (lines_of plan)

-- "It looks first for 9 in the list, then in the plan", where "the line number is 0 … and the part shown is the empty front of the text at
-- fault"
abbrev pub fitting : Bool → List ℕ → Or Fault (Unit {0})
fitting plan text = fault_at plan 0 0 0 (check (leb (length text) longest_text) 9)

-- "With no fault the answer is right with the number of plan lines"
unfoldable pub loads_counted : List ℕ → Book → List Order → Or Fault ℕ
loads_counted plan book orders = do
  loads ← plan_judged plan book orders
  right (length loads)

-- the list that begins with this book, and then the plan
unfoldable pub both_judged : List ℕ → List ℕ → Book → Or Fault ℕ
both_judged list plan book = do
  known ← list_judged list book
  loads_counted plan book known.orders

-- both texts: their lengths, the list's first line and orders, then the plan
unfoldable pub judged : List ℕ → List ℕ → Or Fault ℕ
judged list plan = do
  fitting false list
  fitting true plan
  book ← fault_at false 1 0 (past_line list 0) (opening list)
  both_judged list plan book

-- the paper's answer for each case of a judgement, or of a step of it
abbrev pub as_judged : {E A : Type 0} → Result A E → Or E A
as_judged (Ok count) = right count
as_judged (Err fault) = wrong fault

-- "the line at fault shown as a part of the text it stands in"
unfoldable pub shown : Fault → List ℕ → List ℕ → List ℕ
shown fault list plan = part_of (cond fault.plan plan list) fault.from fault.to

-- and where it lies: in the plan or in the list, as a part of it does
pub record ShownIn (fault : Fault) (list plan part : Bor (List ℕ)) : Type 0 where
  pub in_plan : fault.plan ≡ true → LiesAt part plan (part_start plan.now fault.from fault.to)
  pub in_list : fault.plan ≡ false → LiesAt part list (part_start list.now fault.from fault.to)
