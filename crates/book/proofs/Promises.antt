-- What this room promises: of whatever its contracts admit, and of the definitions that they cite. Each is a line over a law of this
-- folder. Assumes nothing.
use Prim.Native.Nat.{ℕ, ◌+◌, ◌≤◌, ◌<◌}
use mathlib.Core.Path.{◌≡◌, refl, sym, ap, ◌∙◌}
use mathlib.Core.Logic.{◌⊎◌, ⊎_elim, ◌↔◌}
use mathlib.Core.List.{List, [], ◌∷◌, map}
use lib.ListN.{length}
use native.Mathlib.Omega.{arith}
use contract.Lifetimes.{Lfts}
use Rattle.ground.specs.Refusal.{Read, wrong, right, refusal_number}
use Rattle.ground.specs.declared.Refusal.{Refusal}
use Rattle.ground.specs.declared.Refusal.TheVariants.{OutOfRange}
use Rattle.ground.specs.Outcome.{Injective, Single}
use Rattle.ground.proofs.Outcome.{single_value}
use Rattle.book.specs.Soundness.{fresh_book, number_told, opened}
use Rattle.book.specs.Taking.{hold, decided, next_book, Word, yes, no, refused, Told, told, answer_of}
use Rattle.book.specs.Meaning.{Sound, Openable, Fresh, Admitted, BookRefuses, BestChamber, NoChamber, AfterYes, AfterNo, RightAnswer}
use Rattle.book.specs.History.{OrderHours, GivenOrder, OneAfterAnother, last_book, loads_kept, readies_taken, last_hour_of, Completes, BusyUntil, SourceRejects, LowestSourceChoice}
use Rattle.book.specs.declared.Book.{Book}
use Rattle.book.specs.declared.Opened.{Opened}
use Rattle.book.specs.declared.Taken.{Taken}
use Rattle.book.specs.declared.Answer.{Answer}
use Rattle.book.specs.declared.Answer.TheVariants.{Yes, No, Refused}
use Rattle.choice.specs.BestFit.{chamber_at}
use Rattle.choice.specs.Meaning.{hour_for}
use Rattle.std.specs.Prelude.{Option, Some, None}
use Rattle.choice.specs.declared.Offer.{Offer}
use Rattle.choice.proofs.Fitting.{right_only}
use Rattle.book.proofs.Soundness.{fresh_book_lem, fresh_sound}
use Rattle.book.proofs.Opening.{opened_either, opened_within, opened_outside}
use Rattle.book.proofs.Refusals as refusals
use Rattle.book.proofs.Steps as steps
use Rattle.book.proofs.Counting as counting
use Rattle.book.proofs.Source as source
use Rattle.book.proofs.Book.«open».Reads as opening
use Rattle.book.proofs.Book.take.Reads as take
use Rattle.book.proofs.Book.hold.Reads as holding
use Rattle.book.specs.declared.TheConstants.Book.{CHAMBERS, ORDERS, LAST_HOUR}
use Rattle.book.proofs.yes_numbers.Reads as yes_numbers

-- The paper's word and numbers for each case of the answer.

pub told_yes : (chamber start : ℕ) → told (Yes chamber start) ≡ record { word = yes; refusal = 0; chamber = chamber; start = start }
told_yes chamber start = refl

pub told_no : told No ≡ record { word = no; refusal = 0; chamber = 0; start = 0 }
told_no = refl

pub told_refused : (number : ℕ) → told (Refused number) ≡ record { word = refused; refusal = number; chamber = 0; start = 0 }
told_refused number = refl

-- and the answer to what is decided
pub answer_of_choice : (chamber start : ℕ) → answer_of (right (chamber_at chamber start)) ≡ Yes chamber start
answer_of_choice chamber start = refl

pub answer_of_nothing : answer_of (right None) ≡ No
answer_of_nothing = refl

pub answer_of_refusal : (number : ℕ) → answer_of (wrong number) ≡ Refused number
answer_of_refusal number = refl

-- the words are three
abbrev place : Word → ℕ
place yes = 0
place no = 1
place refused = 2

same_place : {one other : Told} → one ≡ other → place one.word ≡ place other.word
same_place = ap (λ answer. place answer.word)

-- the paper's word and numbers tell the cases of an answer apart
pub answer_told : Injective told
answer_told (Yes chamber start) (Yes other begins) same = rw (ap (λ answer. answer.chamber) same, ap (λ answer. answer.start) same)
answer_told (Yes chamber start) No same = absurd (omega (arith, same_place same))
answer_told (Yes chamber start) (Refused number) same = absurd (omega (arith, same_place same))
answer_told No (Yes chamber start) same = absurd (omega (arith, same_place same))
answer_told No No same = refl
answer_told No (Refused number) same = absurd (omega (arith, same_place same))
answer_told (Refused number) (Yes chamber start) same = absurd (omega (arith, same_place same))
answer_told (Refused number) No same = absurd (omega (arith, same_place same))
answer_told (Refused number) (Refused other) same = ap Refused (ap (λ answer. answer.refusal) same)

-- what is decided may be read from its answer
abbrev decision_of : Answer → Read (Option Offer)
decision_of (Yes chamber start) = right (chamber_at chamber start)
decision_of No = right None
decision_of (Refused number) = wrong number

decision_back : (decision : Read (Option Offer)) → decision_of (answer_of decision) ≡ decision
decision_back (wrong number) = refl
decision_back (right None) = refl
decision_back (right (Some offer)) = refl

-- "associated constants for 8, 512 and 999,999"
pub limits_given : (CHAMBERS ≡ 8) × (ORDERS ≡ 512) × (LAST_HOUR ≡ 999_999)
limits_given = (refl, refl, refl)

-- the two numbers of a yes by the names that its case gives them: the chamber, then the start
pub yes_named :
    (κs : Lfts 0) (chamber start : ℕ) (numbers : List ℕ) (after : _) → yes_numbers.Learnt κs (Yes chamber start, tt) numbers after
    → numbers ≡ chamber ∷ start ∷ []
yes_named κs chamber start numbers after learnt = learnt

-- the number told of an opening is the paper's of its refusal, and 0 where it is not refused
pub number_told_exactly : (number_told None ≡ 0) × ((refusal : Refusal) → number_told (Some refusal) ≡ refusal_number refusal)
number_told_exactly = (refl, λ refusal. refl)

-- Opening a book with these numbers, and whatever comes of it.
module _ (κs : Lfts 0) (chambers run : ℕ) (outcome : Opened) (after : _) (learnt : opening.Learnt κs (chambers, (run, tt)) outcome after) where
  -- 1b: it is refused by 4 exactly when chambers is not 1 to 8 or run not 1 to 9,999
  pub opening_refused : (number_told outcome.refusal ≡ 4) ↔ (Openable chambers run → ⊥)
  opening_refused =
      rw learnt (
        λ e. ⊎_elim (λ p. absurd (omega (arith, ap (λ opened. number_told opened.refusal) p.1))) (λ p. p.0) (opened_either chambers run),
        λ out. ap (λ opened. number_told opened.refusal) (opened_outside chambers run out),
      )

  -- and so of the refusal itself
  pub opening_refused_exactly : (outcome.refusal ≡ Some OutOfRange) ↔ (Openable chambers run → ⊥)
  opening_refused_exactly = (
    λ e. opening_refused.0 (ap number_told e),
    λ out. ap (λ opened. opened.refusal) (learnt ∙ opened_outside chambers run out),
  )

  -- 1c: and then the book has every field 0
  pub opening_refused_zeros : number_told outcome.refusal ≡ 4 → Fresh 0 0 outcome.book
  opening_refused_zeros e = rw (learnt ∙ opened_outside chambers run (opening_refused.0 e)) (fresh_book_lem 0 0)

  -- else its number is 0, and the book is fresh, with these chambers and this run
  pub opening_unrefused : (number_told outcome.refusal ≡ 0) ↔ Openable chambers run
  opening_unrefused =
      rw learnt (
        λ e. ⊎_elim (λ p. p.0) (λ p. absurd (omega (arith, ap (λ opened. number_told opened.refusal) p.1))) (opened_either chambers run),
        λ inside. ap (λ opened. number_told opened.refusal) (opened_within chambers run inside),
      )

  -- and so of the refusal itself: there is none
  pub opening_unrefused_exactly : (outcome.refusal ≡ None) ↔ Openable chambers run
  opening_unrefused_exactly = (
    λ e. opening_unrefused.0 (ap number_told e),
    λ inside. ap (λ opened. opened.refusal) (learnt ∙ opened_within chambers run inside),
  )

  pub opening_fresh : Openable chambers run → Fresh chambers run outcome.book
  opening_fresh inside = rw (learnt ∙ opened_within chambers run inside) (fresh_book_lem chambers run)

  -- and nothing else comes of it than the number and the book
  pub opening_whole : outcome ≡ record { refusal = outcome.refusal; book = outcome.book }
  opening_whole = refl

-- the definition of a fresh book is the paper's, for any numbers
pub fresh_book_fresh : (chambers run : ℕ) → Fresh chambers run (fresh_book chambers run)
fresh_book_fresh = fresh_book_lem

-- a load takes its chamber for as long as it runs: so says the definition, and so does the function, and nothing else
pub hold_is_run : (book : Book) → hold book ≡ book.run
hold_is_run book = refl

pub hold_exactly : (κs : Lfts 0) (book : Book) (hours : ℕ) (after : _) → holding.Learnt κs (book, tt) hours after → hours ≡ book.run
hold_exactly κs book hours after learnt = learnt

pub hold_single : (κs : Lfts 0) (book : Book) (after : _) → Single (λ hours. holding.Learnt κs (book, tt) hours after)
hold_single κs book after = single_value (hold book)

-- a book that is opened so is sound
pub opened_fresh :
    (chambers run : ℕ) → Openable chambers run
    → (number_told (opened chambers run).refusal ≡ 0) × ((opened chambers run).book ≡ fresh_book chambers run) × Sound (opened chambers run).book
opened_fresh chambers run inside = rw (opened_within chambers run inside) (refl, refl, fresh_sound chambers run inside)

-- and where it cannot be opened so, the definition has 4 and every field 0
pub opened_refused :
    (chambers run : ℕ) → (Openable chambers run → ⊥) → (number_told (opened chambers run).refusal ≡ 4) × Fresh 0 0 (opened chambers run).book
opened_refused chambers run out = rw (opened_outside chambers run out) (refl, fresh_book_lem 0 0)

-- Any book, sound or not, an order with any hours, and whatever `take` admits: an answer and the next book.
module _ (κs : Lfts 0) (book : Book) (ready due : ℕ) (outcome : Taken) (after : _) (learnt : take.Learnt κs (book, (ready, (due, tt))) outcome after) where
  -- it is the answer to what is decided
  its_answer : outcome.answer ≡ answer_of (decided book ready due)
  its_answer = answer_told outcome.answer (answer_of (decided book ready due)) learnt.said

  answer_exactly : (decision : Read (Option Offer)) → (outcome.answer ≡ answer_of decision) ↔ (decided book ready due ≡ decision)
  answer_exactly decision = (
    λ e. sym (decision_back (decided book ready due)) ∙ ap decision_of (sym its_answer ∙ e) ∙ decision_back decision,
    λ e. its_answer ∙ ap answer_of e,
  )

  -- answer and next book are what the paper says
  pub take_right : RightAnswer book ready due outcome.book outcome.answer
  take_right = rw (its_answer, learnt.next) (steps.right_answer book ready due (decided book ready due) refl)

  -- and nothing else comes back
  pub taken_whole : outcome ≡ record { answer = outcome.answer; book = outcome.book }
  taken_whole = refl

  -- so orders taken one after another are a history
  pub taken_before :
      (later : List GivenOrder) → OneAfterAnother outcome.book later
      → OneAfterAnother book (record { order = record { ready = ready; due = due }; taken = outcome } ∷ later)
  unfolding OneAfterAnother
  taken_before later answered = (take_right, answered)

  -- 2a: a yes exactly when nothing is wrong with the order and the rule describes that chamber and that start
  pub take_yes :
      (chamber start : ℕ) → (outcome.answer ≡ Yes chamber start) ↔ (Admitted book ready due × BestChamber book ready due chamber start)
  take_yes chamber start =
      let said = answer_exactly (right (chamber_at chamber start)) in
      let means = steps.yes_exactly book ready due chamber start in
      (λ e. means.0 (said.0 e), λ p. said.1 (means.1 p))

  -- 2b: a no exactly when nothing is wrong with it and no chamber fits
  pub take_no : (outcome.answer ≡ No) ↔ (Admitted book ready due × NoChamber book ready due)
  take_no =
      let said = answer_exactly (right None) in
      let means = steps.no_exactly book ready due in
      (λ e. means.0 (said.0 e), λ p. said.1 (means.1 p))

  -- 1b: a refusal exactly by the first of 8, 4, 4, 6 and 5 that applies
  pub take_refused : (number : ℕ) → (outcome.answer ≡ Refused number) ↔ BookRefuses book ready due number
  take_refused number =
      let said = answer_exactly (wrong number) in
      let means = refusals.by_first_fault book ready due number in
      (λ e. means.0 (said.0 e), λ p. said.1 (means.1 p))

  -- 1c: a refusal leaves the book
  pub after_refusal : (number : ℕ) → outcome.answer ≡ Refused number → outcome.book ≡ book
  after_refusal number e = (rw e at take_right).1

  -- a no counts the order as taken and moves the clock
  pub after_no : outcome.answer ≡ No → AfterNo book ready outcome.book
  after_no e = (rw e at take_right).2

  -- a yes counts it as kept too, and stores one free hour
  pub after_yes : (chamber start : ℕ) → outcome.answer ≡ Yes chamber start → AfterYes book ready chamber start outcome.book
  after_yes chamber start e = (rw e at take_right).2

  -- and nothing else is what the paper says
  pub right_answer_only : (answer : Answer) (next : Book) → RightAnswer book ready due next answer → (outcome.answer ≡ answer) × (outcome.book ≡ next)
  right_answer_only (Yes chamber start) next said =
      let e = (take_yes chamber start).1 (said.0, said.1) in (e, steps.one_after_yes (after_yes chamber start e) said.2)
  right_answer_only No next said = let e = take_no.1 (said.0, said.1) in (e, steps.one_after_no (after_no e) said.2)
  right_answer_only (Refused number) next said = let e = (take_refused number).1 said.0 in (e, after_refusal number e ∙ sym said.1)

  -- a sound book stays sound, so kept never exceeds taken
  pub take_sound : Sound book → Sound outcome.book
  take_sound = steps.answer_sound book ready due outcome.book outcome.answer take_right

-- Orders given one after another to any book.
module _ (book : Book) where
  -- any can be, and each is answered
  pub orders_answered :
      (orders : List OrderHours) → (given : List GivenOrder) × (map (λ one. one.order) given ≡ orders) × OneAfterAnother book given
  orders_answered = counting.orders_answered book

  module _ (given : List GivenOrder) (answered : OneAfterAnother book given) where
    -- kept rises by the number of yeses
    pub kept_counted : (last_book book given).kept ≡ book.kept + length (loads_kept given)
    kept_counted = counting.kept_counted book given answered

    -- taken by the number not refused
    pub taken_counted : (last_book book given).taken ≡ book.taken + length (readies_taken given)
    taken_counted = counting.taken_counted book given answered

    -- and the clock is the ready hour of the last not refused, or as it was where there is none
    pub clock_last : (last_book book given).clock ≡ last_hour_of book.clock (readies_taken given)
    clock_last = counting.clock_last book given answered

-- Orders given one after another to a fresh book.
module _ (chambers run : ℕ) (book : Book) (fresh : Fresh chambers run book) (given : List GivenOrder) (answered : OneAfterAnother book given) where
  -- it has kept as many as there are loads, taken as many as were not refused, and its clock is the last of their ready hours
  pub fresh_counted :
      ((last_book book given).kept ≡ length (loads_kept given)) × ((last_book book given).taken ≡ length (readies_taken given))
      × ((last_book book given).clock ≡ last_hour_of 0 (readies_taken given))
  fresh_counted = (
    omega (arith, kept_counted book given answered, fresh.none_kept),
    omega (arith, taken_counted book given answered, fresh.none_taken),
    clock_last book given answered ∙ ap (λ hour. last_hour_of hour (readies_taken given)) fresh.clock_zero,
  )

  -- 2c: from the clock on the later of its free hour and the present is a chamber's completion time, and until then it is busy without a
  -- gap
  pub busy_without_gap :
      (present : ℕ) → (last_book book given).clock ≤ present → (chamber : ℕ) → 1 ≤ chamber
      → let time = hour_for (last_book book given).free present chamber in
      Completes run (loads_kept given) chamber present time × BusyUntil run (loads_kept given) chamber present time
  busy_without_gap present in_turn chamber counted =
      let kept = source.kept_always chambers run book fresh given answered in (
        source.committed chambers run (last_book book given) (loads_kept given) kept present in_turn chamber counted,
        source.busy_until chambers run (last_book book given) (loads_kept given) kept present in_turn chamber counted,
      )

  -- Then an order with any hours, and whatever `take` admits.
  module _ (κs : Lfts 0) (ready due : ℕ) (outcome : Taken) (after : _) (learnt : take.Learnt κs (last_book book given, (ready, (due, tt))) outcome after) where
    -- 2c: a yes is exactly what the source does with the order, by the lowest number where it leaves a tie
    pub yes_as_source :
        (chamber start : ℕ)
        → (outcome.answer ≡ Yes chamber start)
        ↔ (Admitted (last_book book given) ready due × LowestSourceChoice chambers run run (loads_kept given) ready due chamber start)
    yes_as_source chamber start =
        let kept = source.kept_always chambers run book fresh given answered in
        let as_source = source.best_as_source chambers run (last_book book given) (loads_kept given) kept ready due in
        let said = take_yes κs (last_book book given) ready due outcome after learnt chamber start in (
          λ e. let p = said.0 e in (p.0, (as_source p.0 chamber start).0 p.1),
          λ p. said.1 (p.0, (as_source p.0 chamber start).1 p.1),
        )

    -- 2c: and a no is given exactly where the source rejects it
    pub no_as_source :
        (outcome.answer ≡ No) ↔ (Admitted (last_book book given) ready due × SourceRejects chambers run run (loads_kept given) ready due)
    no_as_source =
        let kept = source.kept_always chambers run book fresh given answered in
        let as_source = source.none_as_source chambers run (last_book book given) (loads_kept given) kept ready due in
        let said = take_no κs (last_book book given) ready due outcome after learnt in (
          λ e. let p = said.0 e in (p.0, (as_source p.0).0 p.1),
          λ p. said.1 (p.0, (as_source p.0).1 p.1),
        )

-- The next book of whatever is decided: a choice of a chamber that has a free hour, nothing, or a refusal.
module _ (book : Book) (ready : ℕ) where
  pub next_of_choice :
      (chamber start : ℕ) → 1 ≤ chamber → chamber ≤ length book.free
      → AfterYes book ready chamber start (next_book book ready (right (chamber_at chamber start)))
  next_of_choice = steps.yes_stored book ready

  pub next_of_nothing : AfterNo book ready (next_book book ready (right None))
  next_of_nothing = steps.no_counted book ready

  pub next_of_refusal : (number : ℕ) → next_book book ready (wrong number) ≡ book
  next_of_refusal number = refl

-- What is decided of an order, for the rooms above, whose definitions cite it.
module _ (book : Book) (ready due : ℕ) where
  pub refused_by_eight : (decided book ready due ≡ wrong 8) ↔ (Sound book → ⊥)
  refused_by_eight = refusals.by_eight book ready due

  pub refused_by_four : (decided book ready due ≡ wrong 4) ↔ (Sound book × ((ready ≤ 999_999) × (due ≤ 999_999) → ⊥))
  refused_by_four = refusals.by_four book ready due

  pub refused_by_six : (decided book ready due ≡ wrong 6) ↔ (Sound book × (ready ≤ 999_999) × (due ≤ 999_999) × (book.taken ≡ 512))
  refused_by_six = refusals.by_six book ready due

  pub refused_by_five :
      (decided book ready due ≡ wrong 5) ↔ (Sound book × (ready ≤ 999_999) × (due ≤ 999_999) × (book.taken < 512) × (ready < book.clock))
  refused_by_five = refusals.by_five book ready due

  pub refused_by_no_other : (number : ℕ) → decided book ready due ≡ wrong number → (number ≡ 8) ⊎ (number ≡ 4) ⊎ (number ≡ 6) ⊎ (number ≡ 5)
  refused_by_no_other = refusals.by_no_other book ready due

  pub refused_order_stays : (number : ℕ) → decided book ready due ≡ wrong number → next_book book ready (decided book ready due) ≡ book
  refused_order_stays number wrongly = ap (next_book book ready) wrongly

  pub yes_exactly :
      (chamber start : ℕ) → (decided book ready due ≡ right (chamber_at chamber start)) ↔ (Admitted book ready due × BestChamber book ready due chamber start)
  yes_exactly = steps.yes_exactly book ready due

  pub no_exactly : (decided book ready due ≡ right None) ↔ (Admitted book ready due × NoChamber book ready due)
  no_exactly = steps.no_exactly book ready due

  -- the rule describes one chamber and one start
  pub best_only :
      (chamber start other_chamber other_start : ℕ) → BestChamber book ready due chamber start
      → BestChamber book ready due other_chamber other_start → (chamber ≡ other_chamber) × (start ≡ other_start)
  best_only chamber start other_chamber other_start best other =
      let one : chamber_at chamber start ≡ chamber_at other_chamber other_start = right_only ready due book.run book.free book.chambers _ _ best other in
      let same : record { chamber = chamber; start = start } ≡ record { chamber = other_chamber; start = other_start } = cc in
      (ap (λ (offer : Offer). offer.chamber) same, ap (λ (offer : Offer). offer.start) same)

  -- the next book is what the paper says, and a sound book stays sound
  pub decided_right : RightAnswer book ready due (next_book book ready (decided book ready due)) (answer_of (decided book ready due))
  decided_right = steps.right_answer book ready due (decided book ready due) refl

  pub stays_sound : Sound book → Sound (next_book book ready (decided book ready due))
  stays_sound = steps.answer_sound book ready due _ (answer_of (decided book ready due)) decided_right

  -- a start is never before ready, nor later than due less run
  pub start_in_time : (chamber start : ℕ) → decided book ready due ≡ right (chamber_at chamber start) → (ready ≤ start) × (start + book.run ≤ due)
  start_in_time = steps.start_in_time book ready due

  -- an order due before ready plus run is a no and counts as taken
  pub short_order_is_a_no :
      Admitted book ready due → due < ready + book.run
      → (decided book ready due ≡ right None) × ((next_book book ready (decided book ready due)).taken ≡ book.taken + 1)
  short_order_is_a_no admitted short =
      let declined = steps.short_order_is_a_no book ready due admitted short in (declined, ap (λ decision. (next_book book ready decision).taken) declined)

-- 1d: each public function's contract admits a single outcome
pub open_single : (κs : Lfts 0) (chambers run : ℕ) (after : _) → Single (λ outcome. opening.Learnt κs (chambers, (run, tt)) outcome after)
open_single κs chambers run after = single_value (opened chambers run)

pub take_single : (κs : Lfts 0) (book : Book) (ready due : ℕ) (after : _) → Single (λ outcome. take.Learnt κs (book, (ready, (due, tt))) outcome after)
take_single κs book ready due after one other p q =
    let answers : one.answer ≡ other.answer =
    its_answer κs book ready due one after p ∙ sym (its_answer κs book ready due other after q) in
    let books : one.book ≡ other.book = p.next ∙ sym q.next in
    λ i. record { answer = answers i; book = books i }

-- 1a: no public function asks anything of what it is passed
pub nothing_asked :
    ((κs : Lfts 0) (passed : _) → opening.Asked κs passed)
    × ((κs : Lfts 0) (passed : _) → holding.Asked κs passed)
    × ((κs : Lfts 0) (passed : _) → take.Asked κs passed)
nothing_asked = (λ κs passed. tt, λ κs passed. tt, λ κs passed. tt)
