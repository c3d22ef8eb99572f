-- 3a on bytes: the yeses of a clean list, written as plan lines, are a plan that is judged right with their number. Assumes nothing.
use Prim.Native.Nat.{ℕ, ◌≤◌}
use mathlib.Core.Path.{◌≡◌, sym, ap, ◌∙◌}
use mathlib.Core.List.{List, map}
use lib.ListN.{length, length-append, length-map, length-replicate}
use native.Mathlib.Omega.{arith}
use Rattle.ground.specs.Refusal.{right}
use Rattle.ground.specs.Limits.{most_chambers, most_orders, longest_text, first_order_line}
use Rattle.texts.specs.Lines.{lines_of, line_at}
use Rattle.lines.specs.declared.Heading.{Heading}
use Rattle.lines.specs.declared.Order.{Order}
use Rattle.lines.specs.declared.Load.{Load}
use Rattle.lines.proofs.Promises.{heading_ranges}
use Rattle.book.specs.declared.Book.{Book}
use Rattle.book.specs.declared.Answer.{Answer}
use Rattle.orders.specs.Answers.{order_lines, answers_from, yeses, book_for}
use Rattle.orders.specs.Meaning.{Each, CleanList}
use Rattle.orders.proofs.Each.{each_so}
use Rattle.orders.proofs.Readings.{orders_exactly, loads_exactly}
use Rattle.orders.proofs.FirstLines.{lines_exactly}
use Rattle.orders.proofs.Clean.{clean_list}
use Rattle.plans.specs.Judging.{judged}
use Rattle.plans.specs.Meaning.{InTime, Obeys}
use Rattle.plans.proofs.Promises.{right_exactly}
use Rattle.limit.specs.Yeses.{yes_plan}
use Rattle.limit.proofs.YesLoads.{yes_loads, Given, GivenLoads}
use Rattle.limit.proofs.YesesGiven.{yeses_given}
use Rattle.limit.proofs.YesText.{load_text, plan_joined, loads_counted_lem, load_lines, Writable, loads_read, loads_short}

-- a load that is given to one of the orders of a list names that order and is in time
given_in_time : {book : Book} {orders : List Order} (load : Load) → Given first_order_line book orders load → InTime book.run orders load
given_in_time load given =
    record {
      order = given.order;
      named = record { front = given.front; rest = given.rest; among = given.among; line = given.listed };
      not_early = given.not_early;
      not_late = given.not_late;
    }

-- and it can be written
given_writable :
    {book : Book} {orders : List Order} → book.chambers ≤ most_chambers → length orders ≤ most_orders → (load : Load)
    → Given first_order_line book orders load → Writable book.chambers load
given_writable most few load given =
    let standing = simp length-append at (ap length given.among) in
    record {
      in_range =
          record {
            order_line = omega (arith, given.listed);
            chamber_number = omega (arith, given.numbered);
            start_hour = given.start_hour;
          };
      admitted = given.numbered.1;
    }

-- A clean list.
module _ (list : List ℕ) (heading : Heading) (orders : List Order) (clean : CleanList list heading orders) where
  -- the book that it begins with
  abbrev book : Book
  book = book_for heading

  -- its answers
  abbrev answers : List Answer
  answers = answers_from book (order_lines list)

  -- and the loads of its yeses
  abbrev loads : List Load
  loads = yes_loads first_order_line answers

  -- they are given from that book on
  loads_given : GivenLoads first_order_line book orders loads
  loads_given =
      yeses_given first_order_line book (length-replicate {A = ℕ} most_chambers 0) (order_lines list) orders
      ((orders_exactly (order_lines list) orders).1 ((clean_list list heading orders).0 clean).2.read)

  -- they can be written
  pub loads_writable : Each (Writable heading.chambers) loads
  loads_writable =
      each_so (given_writable (heading_ranges (line_at list 0) heading ((clean_list list heading orders).0 clean).1).1 clean.ordered.few) loads_given.each

  -- the lines of their plan are the loads as plan lines
  plan_lines : lines_of (yes_plan first_order_line answers) ≡ map load_text loads
  plan_lines = ap lines_of (plan_joined first_order_line answers) ∙ load_lines loads

  -- as many as there are yeses
  plan_counted : yeses answers ≡ length (lines_of (yes_plan first_order_line answers))
  plan_counted = rw (plan_lines, length-map loads load_text) (sym (loads_counted_lem first_order_line answers))

  -- that text is at most 65,536 bytes
  pub plan_fits : length (yes_plan first_order_line answers) ≤ longest_text
  plan_fits = rw (plan_joined first_order_line answers) (omega (arith, loads_short loads loads_writable, loads_given.few, clean.ordered.few))

  -- and it obeys the list
  plan_obeys : Obeys list (yes_plan first_order_line answers)
  plan_obeys =
      record {
        heading = heading;
        orders = orders;
        lines = map load_text loads;
        loads = loads;
        clean = clean;
        fits = plan_fits;
        cut = lines_exactly.1 (sym plan_lines);
        good =
            record {
              read = (loads_exactly heading.chambers (map load_text loads) loads).0 (loads_read loads loads_writable);
              in_time = each_so given_in_time loads_given.each;
              apart = loads_given.apart;
            };
      }

  -- 3a: the yeses of a clean list, written as plan lines, are judged right with their number
  pub yeses_are_right : judged list (yes_plan first_order_line answers) ≡ right (yeses answers)
  yeses_are_right = (right_exactly list (yes_plan first_order_line answers) (yeses answers)).1 (plan_obeys, plan_counted)
