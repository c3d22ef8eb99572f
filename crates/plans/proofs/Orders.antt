-- How the orders of a list are noted, one after another. Assumes nothing.
use Prim.Native.Nat.{ℕ, ◌+◌, ◌≤◌, ◌<◌}
use mathlib.Core.Path.{◌≡◌, refl, sym, ap, ◌∙◌}
use mathlib.Core.Bool.{false}
use mathlib.Core.List.{List, [], ◌∷◌, ◌++◌}
use lib.ListN.{length, take, set, length-set}
use lib.Seq.{take-suc-set}
use native.Mathlib.Numerals.{add-one}
use native.Mathlib.Omega.{arith}
use Rattle.std.proofs.lemmas.List.{map-append}
use Rattle.ground.specs.Refusal.{Read, wrong, right}
use Rattle.ground.specs.Limits.{most_orders, longest_text}
use Rattle.texts.specs.Lines.{line_at, past_line}
use Rattle.lines.specs.Reading.{order_of}
use Rattle.lines.specs.declared.Order.{Order}
use Rattle.book.specs.Taking.{next_book, told, answer_of}
use Rattle.book.specs.declared.Answer.TheVariants.{Refused}
use Rattle.std.specs.Prelude.{Option}
use Rattle.choice.specs.declared.Offer.{Offer}
use Rattle.book.proofs.Refusals.{by_choice}
use Rattle.book.proofs.Promises.{answer_told}
use Rattle.orders.specs.Answers.{decision, refusals_in, Stepped}
use Rattle.orders.specs.Steps.{line_after}
use Rattle.orders.specs.declared.Progress.{Progress}
use Rattle.orders.specs.declared.Step.{Step}
use Rattle.orders.proofs.Clean.{decision_right, next_counts, decided_unrefused}
use Rattle.orders.proofs.Places.{moves_on}
use Rattle.plans.specs.Judging.{ListKnown, note_order}
use Rattle.plans.specs.Meaning.{fault_of}
use Rattle.plans.specs.Steps.{orders_left, HoursAre}
use Rattle.plans.proofs.Going.{through_done, through_on, through_stops}
use Rattle.plans.proofs.Listing.{line_noted, line_refused}

-- an answer that is a refusal is that of a line that the desk refuses
refusing : (decision : Read (Option Offer)) (number : ℕ) → answer_of decision ≡ Refused number → decision ≡ wrong number
refusing (wrong other) number same = ap (λ answer. wrong (told answer).refusal) same
refusing (right choice) number same = absurd (omega (arith, ap refusals_in same, decided_unrefused choice))

-- and any other is that of a line that it decides of
deciding : (decision : Read (Option Offer)) → ((number : ℕ) → answer_of decision ≡ Refused number → ⊥) → (choice : Option Offer) × (decision ≡ right choice)
deciding (wrong number) none = absurd (none number refl)
deciding (right choice) none = (choice, refl)

-- A step through a list.
module _ (list : List ℕ) (progress : Progress) (step : Step) (stepped : Stepped list progress step) where
  -- the line at its place
  abbrev line : List ℕ
  line = line_at list progress.at

  -- what it is answered
  its_answer : step.answer ≡ answer_of (decision progress.book (order_of line))
  its_answer = answer_told step.answer (answer_of (decision progress.book (order_of line))) stepped.said

  -- the place past it
  pub past_is : step.progress.at ≡ past_line list progress.at
  past_is = ap (λ (past : Progress). past.at) stepped.next

  module _ (inside : progress.at < length list) where
    -- the place moves on
    pub further : progress.at < step.progress.at
    further = omega (arith, ap (λ (past : Progress). past.at) stepped.next, moves_on list progress inside)

    -- a line that is refused is the fault
    pub step_stops :
        (orders : List Order) (number : ℕ) → step.answer ≡ Refused number
        → orders_left list progress orders ≡ wrong (fault_of number false progress.line progress.at step.progress.at)
    step_stops orders number refuses =
        let known : ListKnown = record { book = progress.book; orders = orders } in
        let refused = refusing (decision progress.book (order_of line)) number (sym its_answer ∙ refuses) in
        rw past_is
        (through_stops note_order false progress.line progress.at known list inside number ((line_refused known line number).1 refused))

    module _ (none : (number : ℕ) → step.answer ≡ Refused number → ⊥) where
      -- else the desk decides of its order
      decided_of : (choice : Option Offer) × (decision progress.book (order_of line) ≡ right choice)
      decided_of = deciding (decision progress.book (order_of line)) (λ number refuses. none number (its_answer ∙ refuses))

      -- the book had room for it and took it
      pub step_counts : (progress.book.taken < most_orders) × (step.progress.book.taken ≡ progress.book.taken + 1)
      step_counts =
          let p = decided_of in
          let q = decision_right progress.book line p.0 p.1 in
          let order = q.0 in
          let book : step.progress.book ≡ next_book progress.book order.ready (right p.0) =
          ap (λ (past : Progress). past.book) stepped.next ∙ rw (q.1, q.2) in (
            ((by_choice progress.book order.ready order.due p.0).0 q.2).0.room,
            rw book (next_counts progress.book order.ready p.0).0,
          )

      -- the lines past it are left
      pub step_goes_on :
          progress.line ≤ progress.at + 2 → length list ≤ longest_text → (orders : List Order)
          → orders_left list progress orders ≡ orders_left list step.progress (orders ++ step.order ∷ [])
      step_goes_on low fits orders =
          let known : ListKnown = record { book = progress.book; orders = orders } in
          let p = decided_of in
          let next : line_after progress.line ≡ progress.line + 1 = omega (arith, low, fits, inside) in
          rw (stepped.next, stepped.read, next)
          (through_on note_order false progress.line progress.at known list inside _ (line_noted known line p.0 p.1))

-- an hour stored behind so many
stored : (hours : List ℕ) (count hour : ℕ) → count < length hours → take (count + 1) (set hours count hour) ≡ take count hours ++ hour ∷ []
stored hours count hour room = rw add-one (take-suc-set hours count hour room)

-- how far a list has been gone through: what is left gives what the whole gives, and the hours of the orders before stand in the buffers
pub record Gone (list : List ℕ) (begun : Progress) (readies dues : List ℕ) (progress : Progress) (count : ℕ) : Type 0 where
  pub orders : List Order
  pub whole : orders_left list progress orders ≡ orders_left list begun []
  pub hours : HoursAre orders (take count readies) (take count dues)
  pub counted : progress.book.taken ≡ count
  pub few : count ≤ most_orders
  pub low : progress.line ≤ progress.at + 2
  pub sized : (length readies ≡ most_orders) × (length dues ≡ most_orders)

-- at the top there is none
pub gone_top :
    (list : List ℕ) (begun : Progress) (readies dues : List ℕ) → (length readies ≡ most_orders) × (length dues ≡ most_orders)
    → (begun.book.taken ≡ 0) × (begun.line ≤ begun.at + 2) → Gone list begun readies dues begun 0
gone_top list begun readies dues sized fresh =
    record {
      orders = [];
      whole = refl;
      hours = record { ready_hours = refl; due_hours = refl };
      counted = fresh.0;
      few = omega arith;
      low = fresh.1;
      sized = sized;
    }

module _ {list : List ℕ} {begun : Progress} {readies dues : List ℕ} {progress : Progress} {count : ℕ} (gone : Gone list begun readies dues progress count) where
  -- past the end all stand there
  pub gone_end : length list ≤ progress.at → orders_left list begun [] ≡ right (record { book = progress.book; orders = gone.orders })
  gone_end past = sym gone.whole ∙ through_done note_order false progress.line progress.at (record { book = progress.book; orders = gone.orders }) list past

  module _ (step : Step) (stepped : Stepped list progress step) (inside : progress.at < length list) where
    -- a line that is refused is the fault
    pub gone_fault :
        (number : ℕ) → step.answer ≡ Refused number
        → orders_left list begun [] ≡ wrong (fault_of number false progress.line progress.at step.progress.at)
    gone_fault number refuses = sym gone.whole ∙ step_stops list progress step stepped inside gone.orders number refuses

    module _ (none : (number : ℕ) → step.answer ≡ Refused number → ⊥) where
      -- there is room for its hours
      pub gone_room : count < most_orders
      gone_room = omega (arith, (step_counts list progress step stepped inside none).0, gone.counted)

      -- and then they stand behind the others
      pub gone_next :
          length list ≤ longest_text → Gone list begun (set readies count step.order.ready) (set dues count step.order.due) step.progress (count + 1)
      gone_next fits =
          let order = step.order in
          let room : count < most_orders = gone_room in
          let counts = step_counts list progress step stepped inside none in
          let line : step.progress.line ≡ line_after progress.line = ap (λ (past : Progress). past.line) stepped.next in
          record {
            orders = gone.orders ++ order ∷ [];
            whole = sym (step_goes_on list progress step stepped inside none gone.low fits gone.orders) ∙ gone.whole;
            hours =
                record {
                  ready_hours =
                      stored readies count order.ready (omega (arith, room, gone.sized.0))
                      ∙ ap (λ before. before ++ order.ready ∷ []) gone.hours.ready_hours
                      ∙ sym (map-append (λ (one : Order). one.ready) gone.orders (order ∷ []));
                  due_hours =
                      stored dues count order.due (omega (arith, room, gone.sized.1))
                      ∙ ap (λ before. before ++ order.due ∷ []) gone.hours.due_hours
                      ∙ sym (map-append (λ (one : Order). one.due) gone.orders (order ∷ []));
                };
            counted = omega (arith, counts.1, gone.counted);
            few = omega (arith, room);
            low = omega (arith, line, gone.low, further list progress step stepped inside);
            sized = (length-set readies count order.ready ∙ gone.sized.0, length-set dues count order.due ∙ gone.sized.1);
          }
