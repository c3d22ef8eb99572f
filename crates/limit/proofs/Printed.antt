-- The third demand over what the programs print and the writer writes. Assumes nothing.
use Prim.Native.Nat.{ℕ, suc, ◌+◌, ◌-◌, ◌*◌, ◌^◌, ◌≤◌}
use mathlib.Core.Path.{◌≡◌, refl, sym, ap, ◌∙◌}
use mathlib.Core.Bool.{true}
use mathlib.Core.Logic.{◌↔◌}
use mathlib.Core.List.{List, [], ◌∷◌, ◌++◌, nil≢cons, head-eq_of_cons-eq, tail-eq_of_cons-eq}
use lib.ListN.{length}
use lib.Dec.{leb}
use native.Mathlib.Omega.{arith}
use Rattle.ground.specs.Refusal.{Read, wrong, right, check, ◌>>=◌, ◌>>◌}
use Rattle.ground.specs.Buffer.{fitted}
use Rattle.ground.specs.Limits.{longest_text}
use Rattle.ground.specs.Digits.{spelled}
use Rattle.ground.specs.Spelling.{AllDigits}
use Rattle.ground.specs.Text.{bytes}
use Rattle.ground.proofs.Checks.{never_right, same_right, passed_by}
use Rattle.ground.proofs.Promises.{fits_exactly}
use Rattle.texts.specs.Lines.{lines_of, line_at}
use Rattle.fields.proofs.Promises.{one_split}
use Rattle.lines.specs.Reading.{heading_of, order_of}
use Rattle.lines.specs.declared.Heading.{Heading}
use Rattle.lines.specs.declared.Order.{Order}
use Rattle.lines.specs.declared.Load.{Load}
use Rattle.lines.proofs.Promises.{heading_reads}
use Rattle.planlines.specs.Writing.{plan_text, plan_written}
use Rattle.planlines.specs.Meaning.{InRange}
use Rattle.planlines.proofs.PlanLine.{tested, in_range_lem}
use Rattle.book.specs.declared.Book.{Book}
use Rattle.book.specs.declared.Answer.{Answer}
use Rattle.book.specs.declared.Answer.TheVariants.{Yes, No, Refused}
use Rattle.orders.specs.Answers.{opening, book_for, order_lines, answers_from, book_past, refusals_in, refusals, yeses, refused_line}
use Rattle.orders.specs.Meaning.{Each, CleanList}
use Rattle.orders.proofs.Each.{never_among, each_none, each_before, each_first, each_rest, each_front}
use Rattle.orders.proofs.Promises.{clean_exactly, opening_right, first_and_further}
use Rattle.replies.specs.Replies.{reply_line, sum_line, start_in_range, numbered, replies_from, replies_by, reply_of}
use Rattle.replies.specs.Meaning.{AnswerFields, yes_fields, no_fields, bad_fields, ReplyTo, SumOf}
use Rattle.replies.proofs.Fields.{reply_splits, reply_fields}
use Rattle.replies.proofs.Pieces.{start_in_range_lem}
use Rattle.replies.proofs.Promises.{reply_line_once, sum_line_says, sum_line_once, reply_lines, clean_reply}
use Rattle.plans.specs.Judging.{judged}
use Rattle.plans.proofs.Promises.{right_exactly}
use Rattle.judgements.specs.Judgements.{checked_line}
use Rattle.judgements.specs.Meaning.{RightLine}
use Rattle.judgements.proofs.Promises.{checked_right}
use Rattle.limit.specs.Yeses.{yes_plan}
use Rattle.limit.specs.Meaning.{SaysBad, EndsInSum, YesesWritten, none_left, with_yes, with_no, with_refused, YesesPrinted, the_sum, yes_line, no_line}
use Rattle.limit.proofs.Bytes.{limit_on_bytes}
use Rattle.limit.proofs.YesLoads.{yes_loads}
use Rattle.limit.proofs.LineRoom.{line_short}
use Rattle.limit.proofs.YesPlan as yes

-- the last of some is one
last_one : {A : Type 0} (front other : List A) (one last : A) → front ++ one ∷ [] ≡ other ++ last ∷ [] → one ≡ last
last_one [] [] one last same = head-eq_of_cons-eq same
last_one [] (first ∷ other) one last same = absurd (never_among other last [] (tail-eq_of_cons-eq same))
last_one (first ∷ front) [] one last same = absurd (never_among front one [] (sym (tail-eq_of_cons-eq same)))
last_one (first ∷ front) (second ∷ other) one last same = last_one front other one last (tail-eq_of_cons-eq same)

-- a refusal's line says `bad`
refusal_says_bad : (line number : ℕ) → SaysBad (reply_line line (Refused number))
unfolding bytes
refusal_says_bad line number = record { number = spelled line; behind = spelled number ∷ []; splits = reply_splits line (Refused number) }

-- so where no reply says it no answer is a refusal
none_refused : (line : ℕ) (answers : List Answer) → Each (λ reply. SaysBad reply → ⊥) (numbered line answers) → refusals answers ≡ 0
unfolding numbered refusals
none_refused line [] none = refl
none_refused line (Yes chamber start ∷ answers) none = omega (arith, none_refused (suc line) answers (each_rest none))
none_refused line (No ∷ answers) none = omega (arith, none_refused (suc line) answers (each_rest none))
none_refused line (Refused number ∷ answers) none = absurd (each_first none (refusal_says_bad line number))

-- the second field of the sum is a number, and so it never says `bad`
sum_not_bad : {taken kept : ℕ} {reply : List ℕ} → SumOf taken kept reply → SaysBad reply → ⊥
unfolding AllDigits
sum_not_bad sum said =
    let word : sum.taken_digits ≡ 98 ∷ 97 ∷ 100 ∷ [] = sym (head-eq_of_cons-eq (tail-eq_of_cons-eq (one_split said.splits sum.splits))) in
    omega (arith, (rw word at sum.counts_taken.digits).0)

-- so a list begins where no reply says it
never_refused : (list : List ℕ) → Each (λ reply. SaysBad reply → ⊥) (lines_of (reply_of list)) → (number : ℕ) → opening list ≡ wrong number → ⊥
never_refused list none number e =
    let only : lines_of (reply_of list) ≡ reply_line (refused_line number) (Refused number) ∷ [] = reply_lines list ∙ ap (replies_by list) e in
    none.holds [] (reply_line (refused_line number) (Refused number)) [] only (refusal_says_bad (refused_line number) number)

-- a list that begins does so with the book of its first line
opened_by :
    (list : List ℕ) (heading : Heading) (book : Book) → heading_of (line_at list 0) ≡ right heading → opening list ≡ right book
    → book_for heading ≡ book
unfolding opening
opened_by list heading book headed begun =
    let rest : Read Book = heading_of (line_at list 0) >>= (λ read. right (book_for read)) in
    same_right (rw headed at (passed_by (leb (length list) longest_text) 9 rest (right book) never_right begun).1)

-- A list whose reply has no `bad` line.
module _ (list : List ℕ) (heading : Heading) (headed : heading_of (line_at list 0) ≡ right heading)
    (none : Each (λ reply. SaysBad reply → ⊥) (lines_of (reply_of list))) where
  -- it begins, and none of its lines is refused
  begins_clean :
      (opened : Read Book) → opening list ≡ opened
      → (opening list ≡ right (book_for heading)) × (refusals (answers_from (book_for heading) (order_lines list)) ≡ 0)
  unfolding replies_from
  begins_clean (wrong number) e = absurd (never_refused list none number e)
  begins_clean (right book) e =
      let begun : opening list ≡ right (book_for heading) = e ∙ ap right (sym (opened_by list heading book headed e)) in
      let lines = reply_lines list ∙ ap (replies_by list) begun in
      (begun, none_refused 2 (answers_from (book_for heading) (order_lines list)) (each_front _ _ (rw lines at none)))

  -- so it is clean
  pub prints_clean : (orders : List Order) × CleanList list heading orders
  prints_clean = (clean_exactly list heading).0 (begins_clean (opening list) refl)

  -- and its sum says how many yeses there are
  pub sum_says :
      (taken kept : ℕ) → EndsInSum taken kept (lines_of (reply_of list))
      → yeses (answers_from (book_for heading) (order_lines list)) ≡ kept
  sum_says taken kept ends =
      let answers : List Answer = answers_from (book_for heading) (order_lines list) in
      let same = sym ends.whole ∙ clean_reply list heading prints_clean.0 prints_clean.1 in
      let last : ends.last ≡ sum_line (length (order_lines list)) (yeses answers) = last_one ends.front (numbered 2 answers) _ _ same in
      let told = sum_line_says (length (order_lines list)) (yeses answers) in
      (sum_line_once _ _ _ _ _ told (rw last at ends.sum)).1

-- The reply to a clean list
module _ (list : List ℕ) (heading : Heading) (orders : List Order) (clean : CleanList list heading orders) where
  -- ends in the sum of its orders and its yeses
  pub clean_ends : EndsInSum (length (order_lines list)) (yeses (answers_from (book_for heading) (order_lines list))) (lines_of (reply_of list))
  clean_ends =
      let taken = length (order_lines list) in
      let kept = yeses (answers_from (book_for heading) (order_lines list)) in
      record {
        front = numbered 2 (answers_from (book_for heading) (order_lines list));
        last = sum_line taken kept;
        whole = clean_reply list heading orders clean;
        sum = sum_line_says taken kept;
      }

-- 3b over what is printed
pub printed_limit :
    (list plan : List ℕ) (heading : Heading) (m T A Z : ℕ) → heading_of (line_at list 0) ≡ right heading → heading.chambers ≡ m
    → Each (λ reply. SaysBad reply → ⊥) (lines_of (reply_of list)) → EndsInSum T A (lines_of (reply_of list)) → RightLine Z (checked_line list plan)
    → ((m + 1) ^ m - m ^ m) * Z ≤ (m + 1) ^ m * A
printed_limit list plan heading m T A Z headed chambers none ends said =
    let clean = prints_clean list heading headed none in
    limit_on_bytes list plan heading clean.0 m A Z clean.1 chambers (sum_says list heading headed none T A ends)
    ((right_exactly list plan Z).1 ((checked_right list plan Z).0 said))

-- a plan line with numbers in range is written to a buffer of 14 bytes or more
pub plan_line_fits :
    (order chamber start : ℕ) → InRange order chamber start → (buffer : List ℕ) → 14 ≤ length buffer
    → fitted buffer (plan_written order chamber start) ≡ right (plan_text order chamber start)
plan_line_fits order chamber start range buffer room =
    let text : List ℕ = plan_text order chamber start in
    let written : plan_written order chamber start ≡ right text =
    tested order chamber start ∙ ap (λ met. check met 4 >> right text) ((in_range_lem order chamber start).1 range) in
    ap (fitted buffer) written ∙ (fits_exactly buffer text text).1 (omega (arith, line_short range), refl)

-- what a right plan is printed as
pub printed_right : (list plan : List ℕ) (count : ℕ) → judged list plan ≡ right count → RightLine count (checked_line list plan)
printed_right list plan count same = (checked_right list plan count).1 ((right_exactly list plan count).0 same)

-- the load of a yes stands among the loads of the yeses, with the number of its line
yes_among :
    (line order chamber start : ℕ) (front rest : List Answer) → line + length front ≡ order
    → (before : List Load) × (behind : List Load)
    × (yes_loads line (front ++ Yes chamber start ∷ rest) ≡ before ++ record { order = order; chamber = chamber; start = start } ∷ behind)
unfolding yes_loads
yes_among line order chamber start [] rest counted = ([], yes_loads (suc line) rest, let same : line ≡ order = omega arith in rw same)
yes_among line order chamber start (Yes other hour ∷ front) rest counted =
    let later = yes_among (suc line) order chamber start front rest (omega arith) in
    let load : Load = record { order = line; chamber = other; start = hour } in
    (load ∷ later.0, later.1, ap (λ loads. load ∷ loads) later.2)
yes_among line order chamber start (No ∷ front) rest counted = yes_among (suc line) order chamber start front rest (omega arith)
yes_among line order chamber start (Refused number ∷ front) rest counted = yes_among (suc line) order chamber start front rest (omega arith)

-- so the numbers of each yes of a clean list can be written as a plan line
pub yes_in_range :
    (list : List ℕ) (heading : Heading) (orders : List Order) → CleanList list heading orders
    → (front : List Answer) (chamber start : ℕ) (rest : List Answer) → answers_from (book_for heading) (order_lines list) ≡ front ++ Yes chamber start ∷ rest
    → InRange (2 + length front) chamber start
yes_in_range list heading orders clean front chamber start rest among =
    let there = yes_among 2 (2 + length front) chamber start front rest refl in
    ((yes.loads_writable list heading orders clean).holds there.0 (record { order = 2 + length front; chamber = chamber; start = start }) there.1
    (ap (yes_loads 2) among ∙ there.2)).in_range

-- the plan that is written of yeses is theirs
pub written_plan :
    {Wrote : ℕ → ℕ → ℕ → List ℕ → Type 0}
    → ((order chamber start : ℕ) (text : List ℕ) → Wrote order chamber start text → text ≡ plan_text order chamber start)
    → {line : ℕ} {answers : List Answer} {plan : List ℕ} → YesesWritten Wrote line answers plan → plan ≡ yes_plan line answers
unfolding yes_plan
written_plan so none_left = refl
written_plan so (with_yes {line} {chamber} {start} text wrote later) = rw (so line chamber start text wrote, written_plan so later)
written_plan so (with_no later) = written_plan so later
written_plan so (with_refused later) = written_plan so later

-- and with the plan line's own text for what is written, theirs is such a plan
pub plan_written_lem :
    (line : ℕ) (answers : List Answer)
    → YesesWritten (λ order chamber start text. text ≡ plan_text order chamber start) line answers (yes_plan line answers)
unfolding yes_plan
plan_written_lem line [] = none_left
plan_written_lem line (Yes chamber start ∷ answers) = with_yes (plan_text line chamber start) refl (plan_written_lem (suc line) answers)
plan_written_lem line (No ∷ answers) = with_no (plan_written_lem (suc line) answers)
plan_written_lem line (Refused number ∷ answers) = with_refused (plan_written_lem (suc line) answers)

-- the plan line of each yes among answers, their lines counted from a number on, can be written
abbrev pub CanWrite : (ℕ → ℕ → ℕ → List ℕ → Type 0) → ℕ → List Answer → Type 0
CanWrite Wrote line answers =
    (front : List Answer) (chamber start : ℕ) (rest : List Answer) → answers ≡ front ++ Yes chamber start ∷ rest
    → Wrote (line + length front) chamber start (plan_text (line + length front) chamber start)

can_behind :
    (Wrote : ℕ → ℕ → ℕ → List ℕ → Type 0) (line : ℕ) (answer : Answer) (answers : List Answer) → CanWrite Wrote line (answer ∷ answers)
    → CanWrite Wrote (suc line) answers
can_behind Wrote line answer answers can front chamber start rest among =
    let next : line + suc (length front) ≡ suc line + length front = omega arith in
    rw next at (can (answer ∷ front) chamber start rest (ap (λ others. answer ∷ others) among))

-- so they all can
pub written_each :
    (Wrote : ℕ → ℕ → ℕ → List ℕ → Type 0) (line : ℕ) (answers : List Answer) → CanWrite Wrote line answers
    → YesesWritten Wrote line answers (yes_plan line answers)
unfolding yes_plan
written_each Wrote line [] can = none_left
written_each Wrote line (Yes chamber start ∷ answers) can =
    let top : line + 0 ≡ line = omega arith in
    let here : Wrote line chamber start (plan_text line chamber start) = rw top at (can [] chamber start answers refl) in
    with_yes (plan_text line chamber start) here (written_each Wrote (suc line) answers (can_behind Wrote line (Yes chamber start) answers can))
written_each Wrote line (No ∷ answers) can = with_no (written_each Wrote (suc line) answers (can_behind Wrote line No answers can))
written_each Wrote line (Refused number ∷ answers) can = with_refused (written_each Wrote (suc line) answers (can_behind Wrote line (Refused number) answers can))

-- a reply prints a line at least
never_none :
    {Wrote : ℕ → ℕ → ℕ → List ℕ → Type 0} {replies : List (List ℕ)} {plan : List ℕ} {count : ℕ} → YesesPrinted Wrote replies plan count
    → replies ≡ [] → ⊥
never_none (the_sum taken kept reply said) none = nil≢cons (sym none)
never_none (yes_line line chamber start reply text said wrote later) none = nil≢cons (sym none)
never_none (no_line line reply said later) none = nil≢cons (sym none)

-- the fields of a yes and of a no do not begin with `bad`
fields_not_bad :
    {answer : Answer} {fields behind : List (List ℕ)} → AnswerFields answer fields → refusals_in answer ≡ 0 → (98 ∷ 97 ∷ 100 ∷ []) ∷ behind ≡ fields → ⊥
fields_not_bad (yes_fields chamber start house hour digits timed) none same = omega (arith, head-eq_of_cons-eq (head-eq_of_cons-eq same))
fields_not_bad no_fields none same = omega (arith, head-eq_of_cons-eq (head-eq_of_cons-eq same))
fields_not_bad (bad_fields number digits spelled_so) none same = omega (arith, none)

reply_not_bad : {line : ℕ} {answer : Answer} {reply : List ℕ} → ReplyTo line answer reply → refusals_in answer ≡ 0 → SaysBad reply → ⊥
reply_not_bad to none said = fields_not_bad to.answered none (tail-eq_of_cons-eq (one_split said.splits to.splits))

-- so where yeses, noes and the sum are printed no line says `bad`
none_says_bad :
    {Wrote : ℕ → ℕ → ℕ → List ℕ → Type 0} {replies : List (List ℕ)} {plan : List ℕ} {count : ℕ} → YesesPrinted Wrote replies plan count
    → Each (λ reply. SaysBad reply → ⊥) replies
none_says_bad (the_sum taken kept reply said) = each_before (sum_not_bad said) each_none
none_says_bad (yes_line line chamber start reply text said wrote later) = each_before (reply_not_bad said refl) (none_says_bad later)
none_says_bad (no_line line reply said later) = each_before (reply_not_bad said refl) (none_says_bad later)

-- and the list is clean
pub printed_clean :
    (list : List ℕ) → Each (λ reply. SaysBad reply → ⊥) (lines_of (reply_of list))
    → (heading : Heading) × (orders : List Order) × CleanList list heading orders
printed_clean list none = by (opening list) refl
  where
    by : (opened : Read Book) → opening list ≡ opened → (heading : Heading) × (orders : List Order) × CleanList list heading orders
    by (wrong number) e = absurd (never_refused list none number e)
    by (right book) e =
        let cut = (first_and_further list (line_at list 0) (order_lines list)).1 (refl, refl) in
        let headed = ((opening_right list (line_at list 0) (order_lines list) cut book).0 e).1 in
        let clean = prints_clean list headed.0 ((heading_reads (line_at list 0) headed.0).1 headed.1) none in
        (headed.0, clean.0, clean.1)

-- every start that the desk gives can be written
starts_in_range : (book : Book) (lines : List (List ℕ)) → Each (λ answer. start_in_range answer ≡ true) (answers_from book lines)
unfolding answers_from
starts_in_range book [] = each_none
starts_in_range book (line ∷ lines) = each_before (start_in_range_lem book (order_of line)) (starts_in_range (book_past book (order_of line)) lines)

-- The yeses that replies to answers print, and behind them the sum, are those of the answers,
printed_yeses :
    {Wrote : ℕ → ℕ → ℕ → List ℕ → Type 0} {replies : List (List ℕ)} {plan : List ℕ} {count : ℕ} → YesesPrinted Wrote replies plan count
    → (line : ℕ) (answers : List Answer) (sum : List ℕ) → Each (λ answer. start_in_range answer ≡ true) answers
    → replies ≡ numbered line answers ++ sum ∷ [] → YesesWritten Wrote line answers plan × (count ≡ yeses answers)
unfolding numbered yeses
printed_yeses (the_sum taken kept reply said) line [] sum each same = (none_left, refl)
printed_yeses (the_sum taken kept reply said) line (answer ∷ answers) sum each same =
    absurd (never_among (numbered (suc line) answers) sum [] (tail-eq_of_cons-eq same))
printed_yeses (yes_line number chamber start reply text said wrote later) line [] sum each same =
    absurd (never_none later (tail-eq_of_cons-eq same))
printed_yeses {Wrote} (yes_line number chamber start reply text said wrote later) line (answer ∷ answers) sum each same =
    let rest = printed_yeses later (suc line) answers sum (each_rest each) (tail-eq_of_cons-eq same) in
    let once = reply_line_once reply number line (Yes chamber start) answer said (rw (head-eq_of_cons-eq same) (reply_fields line answer (each_first each))) in
    let here : Wrote line chamber start text = rw once.0 at wrote in
    rw (← once.1) (with_yes text here rest.0, omega (arith, rest.1))
printed_yeses (no_line number reply said later) line [] sum each same = absurd (never_none later (tail-eq_of_cons-eq same))
printed_yeses (no_line number reply said later) line (answer ∷ answers) sum each same =
    let rest = printed_yeses later (suc line) answers sum (each_rest each) (tail-eq_of_cons-eq same) in
    let once = reply_line_once reply number line No answer said (rw (head-eq_of_cons-eq same) (reply_fields line answer (each_first each))) in
    rw (← once.1) (with_no rest.0, omega (arith, rest.1))

-- and those of the answers are printed
yeses_printed :
    {Wrote : ℕ → ℕ → ℕ → List ℕ → Type 0} (taken kept : ℕ) {line : ℕ} {answers : List Answer} {plan : List ℕ} → YesesWritten Wrote line answers plan
    → Each (λ answer. start_in_range answer ≡ true) answers → refusals answers ≡ 0
    → YesesPrinted Wrote (numbered line answers ++ sum_line taken kept ∷ []) plan (yeses answers)
unfolding numbered yeses refusals
yeses_printed taken kept none_left each none = the_sum taken kept (sum_line taken kept) (sum_line_says taken kept)
yeses_printed taken kept (with_yes {line} {chamber} {start} {answers} text wrote later) each none =
    let one_more : 1 + yeses answers ≡ suc (yeses answers) = omega arith in
    rw one_more
    (yes_line line chamber start (reply_line line (Yes chamber start)) text (reply_fields line (Yes chamber start) (each_first each)) wrote
    (yeses_printed taken kept later (each_rest each) (omega (arith, none))))
yeses_printed taken kept (with_no {line} {answers} later) each none =
    let as_many : 0 + yeses answers ≡ yeses answers = omega arith in
    rw as_many (no_line line (reply_line line No) (reply_fields line No refl) (yeses_printed taken kept later (each_rest each) (omega (arith, none))))
yeses_printed taken kept (with_refused later) each none = absurd (omega (arith, none))

-- so of a clean list the yeses that are printed are its own
pub clean_yeses :
    (list : List ℕ) (heading : Heading) (orders : List Order) → CleanList list heading orders
    → (Wrote : ℕ → ℕ → ℕ → List ℕ → Type 0) (plan : List ℕ) (count : ℕ)
    → let answers = answers_from (book_for heading) (order_lines list) in
    YesesPrinted Wrote (lines_of (reply_of list)) plan count ↔ (YesesWritten Wrote 2 answers plan × (count ≡ yeses answers))
clean_yeses list heading orders clean Wrote plan count =
    let answers : List Answer = answers_from (book_for heading) (order_lines list) in
    let reply = clean_reply list heading orders clean in
    let each = starts_in_range (book_for heading) (order_lines list) in (
      λ printed. printed_yeses printed 2 answers (sum_line (length (order_lines list)) (yeses answers)) each reply,
      λ written.
          rw (reply, written.1)
          (yeses_printed (length (order_lines list)) (yeses answers) written.0 each ((clean_exactly list heading).1 (orders, clean)).1),
    )

-- and no line of its reply says `bad`
pub clean_none_bad :
    (list : List ℕ) (heading : Heading) (orders : List Order) → CleanList list heading orders → Each (λ reply. SaysBad reply → ⊥) (lines_of (reply_of list))
clean_none_bad list heading orders clean =
    let answers : List Answer = answers_from (book_for heading) (order_lines list) in
    none_says_bad
    ((clean_yeses list heading orders clean (λ order chamber start text. text ≡ plan_text order chamber start) (yes_plan 2 answers) (yeses answers)).1
    (plan_written_lem 2 answers, refl))

-- the yeses of any reply that has no other lines but noes and the sum are those of a clean list
pub yeses_of_clean :
    (list : List ℕ) {Wrote : ℕ → ℕ → ℕ → List ℕ → Type 0} {plan : List ℕ} {count : ℕ} → YesesPrinted Wrote (lines_of (reply_of list)) plan count
    → (heading : Heading) × (orders : List Order) × CleanList list heading orders
yeses_of_clean list printed = printed_clean list (none_says_bad printed)
