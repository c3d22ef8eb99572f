-- A list and a plan are judged right exactly when the plan obeys the list, and else by the first fault, with its line. Assumes nothing.
use Prim.Native.Nat.{ℕ, ◌+◌, ◌-◌, ◌≤◌, ◌<◌}
use mathlib.Core.Path.{◌≡◌, refl, sym, ap, subst, ◌∙◌}
use mathlib.Core.Bool.{true, false}
use mathlib.Core.Logic.{◌↔◌, ⊎_elim}
use mathlib.Core.List.{List, [], ◌∷◌, ◌++◌, append_assoc}
use lib.ListN.{length, length-append}
use lib.Seq.{take-append_seam, drop-append_seam}
use lib.Dec.{leb}
use native.Mathlib.Omega.{arith}
use borrow.Author.Tests.{leb-true, leb-false, le-leb, lt-leb}
use Rattle.ground.specs.Refusal.{Or, wrong, right, ◌>>=◌}
use Rattle.ground.specs.Limits.{longest_text}
use Rattle.ground.proofs.Checks.{never_right, same_right, same_wrong}
use Rattle.ground.proofs.Tests.{by_test}
use Rattle.texts.specs.Lines.{lines_of, line_at, past_line, part_of}
use Rattle.lines.specs.Reading.{heading_of}
use Rattle.texts.specs.Meaning.{joined}
use Rattle.lines.specs.declared.Heading.{Heading}
use Rattle.lines.specs.declared.Order.{Order}
use Rattle.lines.specs.declared.Load.{Load}
use Rattle.texts.proofs.Lines.{past_is}
use Rattle.texts.proofs.Promises.{walk_done}
use Rattle.lines.proofs.Promises.{heading_reads, heading_fault}
use Rattle.lines.specs.Meaning.{HeadingFault}
use Rattle.orders.specs.Answers.{book_for, opening, order_lines}
use Rattle.orders.specs.Meaning.{FirstOf, of_none, of_lines, none_left, CleanList}
use Rattle.orders.proofs.Each.{each_none, two_none}
use Rattle.orders.proofs.Beginning.{heading_right, heading_wrong}
use Rattle.orders.proofs.Clean.{begun_headed, clean_list}
use Rattle.orders.proofs.Readings.{as_many_read}
use Rattle.orders.proofs.FirstLines.{lines_exactly, first_exactly}
use Rattle.orders.proofs.Beginning.{refused_by_nine, refused_by_its_first_line}
use Rattle.orders.proofs.Promises.{refused_empty}
use Rattle.plans.specs.Judging.{fault_at, list_judged, plan_judged, loads_counted, both_judged, judged, shown}
use Rattle.plans.specs.Meaning.{fault_of, fault_behind, GoodLoads, Obeys, FirstFault, list_long, plan_long, in_heading, in_list, in_plan}
use Rattle.plans.specs.declared.Fault.{Fault}
use Rattle.plans.proofs.Through.{both_right, one_wrong, past_line_lem, at_or_past_line}
use Rattle.plans.proofs.Obeying.{plan_right, PlanFault, plan_wrong}
use Rattle.plans.proofs.Listing.{list_right, list_clean, ListFault, list_wrong}

module _ (list plan : List ℕ) where
  -- what is left to look for once neither text is too long
  abbrev from_heading : Or Fault ℕ
  from_heading = fault_at false 1 0 (past_line list 0) (opening list) >>= λ book. both_judged list plan book

  -- it is looked for then
  fit_then : length list ≤ longest_text → length plan ≤ longest_text → judged list plan ≡ from_heading
  unfolding judged
  fit_then list_fits plan_fits = rw (le-leb (length list) longest_text list_fits, le-leb (length plan) longest_text plan_fits)

  -- 9 in the list, then in the plan
  pub list_over : longest_text < length list → judged list plan ≡ wrong (fault_of 9 false 0 0 0)
  unfolding judged
  list_over over = rw (lt-leb (length list) longest_text over)

  -- a plan that is too long, where the list is not
  pub plan_over : length list ≤ longest_text → longest_text < length plan → judged list plan ≡ wrong (fault_of 9 true 0 0 0)
  unfolding judged
  plan_over list_fits over = rw (le-leb (length list) longest_text list_fits, lt-leb (length plan) longest_text over)

  -- the loads of a plan that has no fault are as many as its lines
  module _ (heading : Heading) (orders : List Order) where
    counted_right :
        (count : ℕ)
        → (loads_counted plan (book_for heading) orders ≡ right count)
        ↔ ((loads : List Load) × GoodLoads heading orders (lines_of plan) loads × (count ≡ length (lines_of plan)))
    unfolding loads_counted
    counted_right count = (
      λ e.
          let p = both_right (plan_judged plan (book_for heading) orders) (λ loads. right (length loads)) count e in
          let good = (plan_right heading orders plan p.0).0 p.1 in
          (p.0, good, sym (same_right p.2) ∙ sym (as_many_read good.read)),
      λ p.
          rw ((plan_right heading orders plan p.0).1 p.1)
          (ap right (sym (as_many_read p.1.read) ∙ sym p.2)),
    )

    -- a fault of the plan is the answer
    counted_wrong :
        (fault : Fault) → (loads_counted plan (book_for heading) orders ≡ wrong fault) ↔ (plan_judged plan (book_for heading) orders ≡ wrong fault)
    unfolding loads_counted
    counted_wrong fault = (
      λ e.
          ⊎_elim (λ first. first) (λ p. absurd (never_right (sym p.2)))
          (one_wrong (plan_judged plan (book_for heading) orders) (λ loads. right (length loads)) fault e),
      λ e. rw e,
    )

  -- a list with a first line that reads, and a plan, that are right with a number
  both_from :
      (count : ℕ) → length list ≤ longest_text → length plan ≤ longest_text → (heading : Heading) → heading_of (line_at list 0) ≡ right heading
      → both_judged list plan (book_for heading) ≡ right count → Obeys list plan × (count ≡ length (lines_of plan))
  unfolding both_judged
  both_from count list_fits plan_fits heading headed e =
      let p = both_right (list_judged list (book_for heading)) (λ known. loads_counted plan (book_for heading) known.orders) count e in
      let r = (counted_right heading p.0.orders count).0 p.2 in (
        record {
          heading = heading;
          orders = p.0.orders;
          lines = lines_of plan;
          loads = r.0;
          clean = (clean_list list heading p.0.orders).1 (list_fits, headed, list_right list heading headed p.0 p.1);
          fits = plan_fits;
          cut = lines_exactly.1 refl;
          good = r.1;
        },
        r.2,
      )

  -- a list and a plan that are right with a number
  right_from : (count : ℕ) → judged list plan ≡ right count → Obeys list plan × (count ≡ length (lines_of plan))
  right_from count e =
      by_test (leb (length list) longest_text)
      (λ one.
      by_test (leb (length plan) longest_text)
      (λ other.
      let list_fits = leb-true (length list) longest_text one in
      let plan_fits = leb-true (length plan) longest_text other in
      let p =
      past_line_lem false 1 0 (past_line list 0) (opening list) (λ book. both_judged list plan book) count (sym (fit_then list_fits plan_fits) ∙ e) in
      let begun = begun_headed list p.0 p.1 in
      both_from count list_fits plan_fits begun.0 begun.1 (rw begun.2 at p.2))
      (λ over. absurd (never_right (sym (plan_over (leb-true (length list) longest_text one) (leb-false (length plan) longest_text over)) ∙ e))))
      (λ over. absurd (never_right (sym (list_over (leb-false (length list) longest_text over)) ∙ e)))

  -- a plan that obeys its list is right with the number of its lines
  right_to : Obeys list plan → judged list plan ≡ right (length (lines_of plan))
  unfolding both_judged
  right_to obeys =
      let clean = (clean_list list obeys.heading obeys.orders).0 obeys.clean in
      let known = list_clean list obeys.heading clean.1 obeys.orders clean.2 in
      fit_then clean.0 obeys.fits
      ∙ rw (heading_right list clean.0 obeys.heading clean.1, known.1, known.2)
      ((counted_right obeys.heading obeys.orders (length (lines_of plan))).1
      (obeys.loads, rw (lines_exactly.0 obeys.cut) at obeys.good, refl))

  -- "With no fault the answer is right with the number of plan lines": exactly when the plan obeys the list, and by that number
  pub right_exactly : (count : ℕ) → (judged list plan ≡ right count) ↔ (Obeys list plan × (count ≡ length (lines_of plan)))
  right_exactly count = (right_from count, λ p. right_to p.0 ∙ ap right (sym p.1))

-- "An empty plan for a clean list is right with 0"
pub empty_plan : (list : List ℕ) (heading : Heading) (orders : List Order) → CleanList list heading orders → judged list [] ≡ right 0
unfolding lines_of
empty_plan list heading orders clean =
    (right_exactly list [] 0).1 (
      record {
        heading = heading;
        orders = orders;
        lines = [];
        loads = [];
        clean = clean;
        fits = omega arith;
        cut = lines_exactly.1 refl;
        good = record { read = none_left; in_time = each_none; apart = two_none };
      },
      refl,
    )

-- the fault of a first line, where the list does not begin and is not too long
first_fault : (list : List ℕ) → length list ≤ longest_text → (number : ℕ) → opening list ≡ wrong number → HeadingFault (line_at list 0) number
first_fault list fits number refused =
    ((refused_by_its_first_line list number
    (λ nine. let over = (refused_by_nine list).0 (refused ∙ ap wrong nine) in omega (arith, fits, over))).0 refused).1

-- The first line of a list, and the others.
-- it is as long as the place past it
first_length : (list : List ℕ) → past_line list 0 ≡ length (line_at list 0)
first_length list = omega (arith, past_is list 0)

-- they are the whole list
first_joined : {list first : List ℕ} {further : List (List ℕ)} → FirstOf list first further → list ≡ joined (first ∷ further)
unfolding joined
first_joined of_none = refl
first_joined (of_lines has) = sym has.1

-- a fault of the first line, by the place past it
first_told : (list : List ℕ) (number : ℕ) → fault_of number false 1 0 (past_line list 0) ≡ fault_behind number false [] (line_at list 0)
unfolding joined
first_told list number =
    let to : past_line list 0 ≡ 0 + length (line_at list 0) = omega (arith, first_length list) in ap (fault_of number false 1 0) to

-- and of a line behind it
later_told :
    (list : List ℕ) (number : ℕ) (front : List (List ℕ)) (line : List ℕ)
    → fault_of number false (2 + length front) (past_line list 0 + length (joined front)) (past_line list 0 + length (joined front) + length line)
    ≡ fault_behind number false (line_at list 0 ∷ front) line
unfolding joined
later_told list number front line =
    let from : past_line list 0 + length (joined front) ≡ length (line_at list 0 ++ joined front) =
    simp length-append (omega (arith, first_length list)) in
    let count : 2 + length front ≡ 1 + length (line_at list 0 ∷ front) = omega arith in
    λ i. fault_of number false (count i) (from i) (from i + length line)

-- lines one behind the other, cut at one of them
pub joined_cut : (front : List (List ℕ)) (line : List ℕ) (rest : List (List ℕ)) → joined (front ++ line ∷ rest) ≡ joined front ++ (line ++ joined rest)
unfolding joined
joined_cut [] line rest = refl
joined_cut (first ∷ front) line rest = rw (joined_cut front line rest) (sym (append_assoc first (joined front) (line ++ joined rest)))

-- the part from a place to another, where a line stands
part_is :
    (text front line rest : List ℕ) (from to : ℕ) → text ≡ front ++ (line ++ rest) → from ≡ length front → to ≡ length front + length line
    → part_of text from to ≡ line
unfolding part_of
part_is text front line rest from to whole here there =
    let size : length text ≡ length front + (length line + length rest) =
    ap length whole ∙ length-append front (line ++ rest) ∙ ap (λ count. length front + count) (length-append line rest) in
    let span : to - from ≡ length line = omega arith in
    rw (le-leb from to (omega arith), le-leb to (length text) (omega arith), span, here, whole, drop-append_seam front (line ++ rest), take-append_seam line rest)

-- so the part where a line stands behind others
part_behind :
    {text : List ℕ} (front : List (List ℕ)) (line : List ℕ) (rest : List (List ℕ)) → text ≡ joined (front ++ line ∷ rest)
    → part_of text (length (joined front)) (length (joined front) + length line) ≡ line
part_behind {text} front line rest whole =
    part_is text (joined front) line (joined rest) (length (joined front)) (length (joined front) + length line) (whole ∙ joined_cut front line rest) refl refl

-- the line of a first fault is the line shown
pub first_shown : (list plan : List ℕ) {fault : Fault} {line : List ℕ} → FirstFault list plan fault line → shown fault list plan ≡ line
unfolding shown
first_shown list plan (list_long over) = part_is list [] [] list 0 0 refl refl (omega arith)
first_shown list plan (plan_long fits over) = part_is plan [] [] plan 0 0 refl refl (omega arith)
first_shown list plan (in_heading first further list_fits plan_fits parts wrongly) = part_behind [] first further (first_joined parts)
first_shown list plan (in_list heading first front rest line orders list_fits plan_fits parts headed clean wrongly) =
    part_behind (first ∷ front) line rest (first_joined parts)
first_shown list plan (in_plan heading orders front rest line loads clean fits cut good wrongly) = part_behind front line rest (sym cut.1)

module _ (list plan : List ℕ) where
  -- the first order line at fault is the first fault, where nothing before it is one
  first_in_list :
      (fault : Fault) (heading : Heading) (headed : heading_of (line_at list 0) ≡ right heading) → length list ≤ longest_text → length plan ≤ longest_text
      → (wrongly : ListFault list heading headed fault) → FirstFault list plan fault wrongly.line
  first_in_list fault heading headed list_fits plan_fits wrongly =
      subst (λ given. FirstFault list plan given wrongly.line)
      (sym (wrongly.told ∙ later_told list wrongly.number wrongly.front wrongly.line))
      (in_list heading (line_at list 0) wrongly.front wrongly.rest wrongly.line wrongly.orders list_fits plan_fits
      ((first_exactly list (line_at list 0) (wrongly.front ++ wrongly.line ∷ wrongly.rest)).1 (refl, sym wrongly.among))
      ((heading_reads (line_at list 0) heading).0 headed) wrongly.clean wrongly.at_fault)

  -- so is the first plan line at fault, where the list is clean
  first_in_plan :
      (fault : Fault) (heading : Heading) (orders : List Order) → CleanList list heading orders → length plan ≤ longest_text
      → (wrongly : PlanFault heading orders plan fault) → FirstFault list plan fault wrongly.line
  first_in_plan fault heading orders clean plan_fits wrongly =
      subst (λ given. FirstFault list plan given wrongly.line) (sym wrongly.told)
      (in_plan heading orders wrongly.front wrongly.rest wrongly.line wrongly.loads clean plan_fits
      (lines_exactly.1 (sym wrongly.among)) wrongly.good wrongly.at_fault)

  -- a list with a first line that reads is at fault, or else the plan
  both_wrong_from :
      (fault : Fault) → length list ≤ longest_text → length plan ≤ longest_text → (heading : Heading) → heading_of (line_at list 0) ≡ right heading
      → both_judged list plan (book_for heading) ≡ wrong fault → (line : List ℕ) × FirstFault list plan fault line
  unfolding both_judged
  both_wrong_from fault list_fits plan_fits heading headed e =
      ⊎_elim
      (λ first.
      let wrongly = (list_wrong list heading headed fault).0 first in
      (wrongly.line, first_in_list fault heading headed list_fits plan_fits wrongly))
      (λ p.
      let orders = p.0.orders in
      let clean = (clean_list list heading orders).1 (list_fits, headed, list_right list heading headed p.0 p.1) in
      let wrongly = (plan_wrong heading orders plan fault).0 ((counted_wrong list plan heading orders fault).0 p.2) in
      (wrongly.line, first_in_plan fault heading orders clean plan_fits wrongly))
      (one_wrong (list_judged list (book_for heading)) (λ known. loads_counted plan (book_for heading) known.orders) fault e)

  -- what they are judged wrong by is the first fault
  wrong_from : (fault : Fault) → judged list plan ≡ wrong fault → (line : List ℕ) × FirstFault list plan fault line
  wrong_from fault e =
      by_test (leb (length list) longest_text)
      (λ one.
      let list_fits = leb-true (length list) longest_text one in
      by_test (leb (length plan) longest_text)
      (λ other.
      let plan_fits = leb-true (length plan) longest_text other in
      ⊎_elim
      (λ p. (
        line_at list 0,
        rw (p.2, first_told list p.0)
            (in_heading (line_at list 0) (order_lines list) list_fits plan_fits ((first_exactly list (line_at list 0) (order_lines list)).1 (refl, refl))
            (first_fault list list_fits p.0 p.1)),
      ))
      (λ p.
      let begun = begun_headed list p.0 p.1 in both_wrong_from fault list_fits plan_fits begun.0 begun.1 (rw begun.2 at p.2))
      (at_or_past_line false 1 0 (past_line list 0) (opening list) (λ book. both_judged list plan book) fault
      (sym (fit_then list plan list_fits plan_fits) ∙ e)))
      (λ over.
      let long = leb-false (length plan) longest_text over in
      ([], rw (same_wrong (sym e ∙ plan_over list plan list_fits long)) (plan_long list_fits long))))
      (λ over.
      let long = leb-false (length list) longest_text over in
      ([], rw (same_wrong (sym e ∙ list_over list plan long)) (list_long long)))

  -- by the first fault they are judged wrong
  pub wrong_to : {fault : Fault} {line : List ℕ} → FirstFault list plan fault line → judged list plan ≡ wrong fault
  unfolding both_judged
  wrong_to (list_long over) = list_over list plan over
  wrong_to (plan_long fits over) = plan_over list plan fits over
  wrong_to (in_heading {number = number} first further list_fits plan_fits parts wrongly) =
      let same = ((first_exactly list first further).0 parts).0 in
      fit_then list plan list_fits plan_fits
      ∙ rw (same, heading_wrong list list_fits number ((heading_fault (line_at list 0) number).1 (rw same at wrongly)))
      (ap wrong (first_told list number))
  wrong_to (in_list {number = number} heading first front rest line orders list_fits plan_fits parts reads clean wrongly) =
      let same = (first_exactly list first (front ++ line ∷ rest)).0 parts in
      let headed : heading_of (line_at list 0) ≡ right heading = rw same.0 at ((heading_reads first heading).1 reads) in
      fit_then list plan list_fits plan_fits
      ∙ rw (
        heading_right list list_fits heading headed,
        (list_wrong list heading headed (fault_behind number false (first ∷ front) line)).1
            (record {
              front = front;
              line = line;
              rest = rest;
              among = sym same.1;
              orders = orders;
              clean = clean;
              number = number;
              at_fault = wrongly;
              told = rw same.0 (sym (later_told list number front line));
            }),
      )
  wrong_to (in_plan {number = number} heading orders front rest line loads clean fits cut good wrongly) =
      let its = (clean_list list heading orders).0 clean in
      let known = list_clean list heading its.1 orders its.2 in
      let fault = fault_behind number true front line in
      fit_then list plan its.0 fits
      ∙ rw (heading_right list its.0 heading its.1, known.1, known.2)
      ((counted_wrong list plan heading orders fault).1
      ((plan_wrong heading orders plan fault).1
      (record {
        front = front;
        line = line;
        rest = rest;
        among = sym (lines_exactly.0 cut);
        loads = loads;
        good = good;
        number = number;
        at_fault = wrongly;
        told = refl;
      })))

  -- "The first fault is the answer, with its number, which text, its line number, and
  -- the line at fault shown as a part of the text it stands in"
  pub fault_exactly : (fault : Fault) → (judged list plan ≡ wrong fault) ↔ FirstFault list plan fault (shown fault list plan)
  fault_exactly fault = (
    λ e. let first = wrong_from fault e in rw (first_shown list plan first.1) first.1,
    wrong_to,
  )

-- "an empty list, which is 1": at line 1, with the empty front
pub empty_list : (plan : List ℕ) → length plan ≤ longest_text → judged [] plan ≡ wrong (fault_of 1 false 1 0 0)
empty_list plan fits =
    let past : past_line [] 0 ≡ 0 = (walk_done [] 0 (omega arith)).2 in
    fit_then [] plan (omega arith) fits ∙ rw (refused_empty, past)
