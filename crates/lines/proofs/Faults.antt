-- Reading a line goes by what it means: a line of any number of fields reads exactly when it is meant to, and is refused by its first
-- fault. Assumes nothing.
use Prim.Native.Nat.{ℕ, zero, suc, ◌≤◌, ◌<◌}
use mathlib.Core.Path.{◌≡◌, refl, sym, ap, subst, ◌∙◌}
use mathlib.Core.List.{List, [], ◌∷◌}
use mathlib.Core.Logic.{◌↔◌, ◌⊎◌, inl, inr, ⊎_elim}
use lib.ListN.{length, get_or}
use native.Mathlib.Omega.{arith}
use Rattle.ground.specs.Refusal.{Read, wrong, right, ◌>>=◌}
use Rattle.ground.specs.Limits.{last_hour, most_chambers, longest_run, last_plain}
use Rattle.ground.proofs.Checks.{never_right, same_right, same_wrong}
use Rattle.fields.specs.Fields.{fields_of, shape_of}
use Rattle.fields.proofs.Promises.{splits_exactly, has_fields, shape_ways}
use Rattle.lines.specs.Reading.{last_grower, read_all, line_of, heading_readers, order_readers, load_readers}
use Rattle.lines.specs.Meaning.{Kind, the_word, FieldReads, AllRead, no_more, one_more, FirstFieldFault, here, later, Shaped, LineMakes, LineFault, misshapen, at_field, heading_kinds, order_kinds, load_kinds}
use Rattle.lines.proofs.FieldReading.{GoesBy, plain_goes, hour_goes, word_goes, fault_from}

-- readers that go by kinds, one by one
pub data AllGo : List (List ℕ → Read ℕ) → List Kind → Type 0 where
  none_go : AllGo [] []
  more_go :
      {reader : List ℕ → Read ℕ} {readers : List (List ℕ → Read ℕ)} {kind : Kind} {kinds : List Kind} → GoesBy reader kind → AllGo readers kinds
      → AllGo (reader ∷ readers) (kind ∷ kinds)

go_as_many : {readers : List (List ℕ → Read ℕ)} {kinds : List Kind} → AllGo readers kinds → length readers ≡ length kinds
go_as_many none_go = refl
go_as_many (more_go goes all) = ap suc (go_as_many all)

-- fields that read are read
fields_read :
    {readers : List (List ℕ → Read ℕ)} {kinds : List Kind} → AllGo readers kinds → {texts : List (List ℕ)} {numbers : List ℕ}
    → AllRead kinds texts numbers → read_all readers texts ≡ right numbers
unfolding read_all
fields_read none_go no_more = refl
fields_read (more_go goes all) no_more = refl
fields_read (more_go goes all) (one_more {number = number} reads rest) = rw (goes.reads _ number reads, fields_read all rest)

-- the first fault of fields refuses them
fields_fault :
    {readers : List (List ℕ → Read ℕ)} {kinds : List Kind} → AllGo readers kinds → {texts : List (List ℕ)} {number : ℕ}
    → FirstFieldFault kinds texts number → read_all readers texts ≡ wrong number
unfolding read_all
fields_fault none_go {texts = texts} {number = number} fault = elim fault [ ]
fields_fault (more_go goes all) {number = number} (here fault) = rw (goes.faults _ number fault)
fields_fault (more_go goes all) (later value reads fault) = rw (goes.reads _ value reads, fields_fault all fault)

-- and they read or have one
fields_meant :
    {readers : List (List ℕ → Read ℕ)} {kinds : List Kind} → AllGo readers kinds → (texts : List (List ℕ)) → length texts ≤ length kinds
    → ((numbers : List ℕ) × AllRead kinds texts numbers) ⊎ ((number : ℕ) × FirstFieldFault kinds texts number)
fields_meant all [] few = inl ([], no_more)
fields_meant none_go (text ∷ texts) few = absurd (omega arith)
fields_meant (more_go goes all) (text ∷ texts) few =
    ⊎_elim
    (λ one.
    ⊎_elim (λ rest. inl (one.0 ∷ rest.0, one_more one.1 rest.1)) (λ fault. inr (fault.0, later one.0 one.1 fault.1))
    (fields_meant all texts (omega arith)))
    (λ fault. inr (fault.0, here fault.1)) (goes.meant text)

-- a reading that gives what is meant, where one or the other is meant, gives it exactly then
exactly :
    {A : Type 0} (read : Read A) {Reads : A → Type 0} {Fault : ℕ → Type 0} → ((value : A) → Reads value → read ≡ right value)
    → ((number : ℕ) → Fault number → read ≡ wrong number) → ((value : A) × Reads value) ⊎ ((number : ℕ) × Fault number)
    → ((value : A) → (read ≡ right value) ↔ Reads value) × ((number : ℕ) → (read ≡ wrong number) ↔ Fault number)
exactly read {Reads} reads faults (inl meant) =
    let given = reads meant.0 meant.1 in (
      λ value. (λ e. subst Reads (same_right (sym given ∙ e)) meant.1, reads value),
      λ number. (λ e. absurd (never_right (sym e ∙ given)), faults number),
    )
exactly read {Fault = Fault} reads faults (inr meant) =
    let given = faults meant.0 meant.1 in (
      λ value. (λ e. absurd (never_right (sym given ∙ e)), reads value),
      λ number. (λ e. subst Fault (same_wrong (sym given ∙ e)) meant.1, faults number),
    )

-- A line whose fields are read by readers that go by kinds.
module _ {readers : List (List ℕ → Read ℕ)} {kinds : List Kind} (all : AllGo readers kinds) (least : ℕ) (line : List ℕ) where
  -- a line that passes has its shape
  shape_there : shape_of least (length readers) line ≡ right tt → (fields : List (List ℕ)) × Shaped least kinds line fields
  shape_there met =
      let has = (has_fields least (length readers) line).0 met in
      let enough : least ≤ length has.1.fields = omega (arith, has.1.counted, has.2) in
      let most : length has.1.fields ≤ length kinds = omega (arith, has.1.counted, has.3, go_as_many all) in
      (has.1.fields, record { splits = has.1.splits; enough = enough; most = most })

  -- and a line that has it passes, with these fields
  shape_back : (fields : List (List ℕ)) → Shaped least kinds line fields → (shape_of least (length readers) line ≡ right tt) × (fields_of line ≡ fields)
  shape_back fields shaped = (
    (has_fields least (length readers) line).1
        (length fields, record { fields = fields; splits = shaped.splits; counted = refl }, shaped.enough, omega (arith, shaped.most, go_as_many all)),
    ((splits_exactly line fields).1 shaped.splits).1,
  )

  -- its first fault refuses it
  line_fault : (number : ℕ) → LineFault least kinds line number → line_of least readers line ≡ wrong number
  unfolding line_of
  line_fault number (misshapen never) =
      ⊎_elim (λ met. let there = shape_there met in absurd (never there.0 there.1)) (λ unmet. rw unmet) (shape_ways least (length readers) line)
  line_fault number (at_field fields shaped fault) =
      let back = shape_back fields shaped in rw (back.0, back.1) (fields_fault all fault)

  -- What is made of the numbers of a line is made exactly of those that it reads as, and refused exactly by its first fault.
  pub line_exactly :
      {A : Type 0} (make : List ℕ → A)
      → ((values : A) → ((line_of least readers line >>= λ numbers. right (make numbers)) ≡ right values) ↔ LineMakes make least kinds line values)
      × ((number : ℕ) → ((line_of least readers line >>= λ numbers. right (make numbers)) ≡ wrong number) ↔ LineFault least kinds line number)
  unfolding line_of
  line_exactly make =
      exactly (line_of least readers line >>= λ numbers. right (make numbers))
      (λ values makes.
      let back = shape_back makes.reads.fields makes.reads.shaped in
      rw (back.0, back.1, fields_read all makes.reads.read, makes.made))
      (λ number fault. rw (line_fault number fault))
      (⊎_elim
      (λ met.
      let there = shape_there met in
      ⊎_elim
      (λ read. inl (make read.0, record { numbers = read.0; reads = record { fields = there.0; shaped = there.1; read = read.1 }; made = refl }))
      (λ fault. inr (fault.0, at_field there.0 there.1 fault.1)) (fields_meant all there.0 there.1.most))
      (λ unmet. inr (1, misshapen (λ fields shaped. never_right (sym unmet ∙ (shape_back fields shaped).0)))) (shape_ways least (length readers) line))

-- the readers of each line go by the kinds of its fields
pub heading_go : AllGo heading_readers heading_kinds
heading_go = more_go word_goes (more_go (plain_goes 1 most_chambers) (more_go (hour_goes 1 longest_run) none_go))

pub order_go : AllGo order_readers order_kinds
order_go = more_go (plain_goes 1 last_grower) (more_go (hour_goes 0 last_hour) (more_go (hour_goes 0 last_hour) none_go))

pub load_go : (count : ℕ) → AllGo (load_readers count) (load_kinds count)
load_go count = more_go (plain_goes 0 last_plain) (more_go (plain_goes 1 count) (more_go (hour_goes 0 last_hour) none_go))

-- What is read at a place is of the kind that stands there.
pub read_at :
    {kinds : List Kind} {fields : List (List ℕ)} {numbers : List ℕ} → AllRead kinds fields numbers → (place : ℕ) → place < length fields
    → FieldReads (get_or kinds place the_word) (get_or fields place []) (get_or numbers place 0)
read_at no_more place inside = absurd (omega arith)
read_at (one_more reads rest) zero inside = reads
read_at (one_more reads rest) (suc place) inside = read_at rest place (omega arith)

-- the first fault of fields has a number from 1 to 4
pub first_from : {kinds : List Kind} {fields : List (List ℕ)} {number : ℕ} → FirstFieldFault kinds fields number → (1 ≤ number) × (number ≤ 4)
first_from (here {kind} {field = field} fault) = fault_from kind field fault
first_from (later value reads fault) = first_from fault
