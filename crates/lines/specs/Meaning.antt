-- What it means that the fields of a line read, and which fault is its first. It is no way of reading; the readers are proved to go by it.
-- Assumes nothing.
use Rattle.std.specs.Prelude.{ℕ, ◌≤◌, ◌≡◌, List, [], ◌∷◌, length, get_or}
use Rattle.ground.specs.Spelling.{Plain, value_of}
use Rattle.hours.specs.Spelling.{Spells}
use Rattle.fields.specs.Meaning.{Splits}
use Rattle.lines.specs.declared.Heading.{Heading}
use Rattle.lines.specs.declared.Order.{Order}
use Rattle.lines.specs.declared.Load.{Load}

-- a number field reads: it is a plain number in its range
pub record PlainReads (low high : ℕ) (text : List ℕ) (number : ℕ) : Type 0 where
  pub plain : Plain text
  pub worth : number ≡ value_of text
  pub least : low ≤ number
  pub most : number ≤ high

-- or it does not: 2 where it is no plain number, then 4 where it is out of its range
pub data PlainFault (low high : ℕ) (text : List ℕ) : ℕ → Type 0 where
  unread : (Plain text → ⊥) → PlainFault low high text 2
  outside : Plain text → ((low ≤ value_of text) × (value_of text ≤ high) → ⊥) → PlainFault low high text 4

-- an hour field reads: it spells an hour in its range, with a comma (byte 44)
pub record HourReads (low high : ℕ) (text : List ℕ) (hour : ℕ) : Type 0 where
  pub spells : Spells 44 text hour
  pub least : low ≤ hour
  pub most : hour ≤ high

-- or it does not: 3 where it is no hour, then 4 where it is out of its range
pub data HourFault (low high : ℕ) (text : List ℕ) : ℕ → Type 0 where
  unread : ((hour : ℕ) → Spells 44 text hour → ⊥) → HourFault low high text 3
  outside : (hour : ℕ) → Spells 44 text hour → ((low ≤ hour) × (hour ≤ high) → ⊥) → HourFault low high text 4

-- the word `steam` of a first line
abbrev pub Steam : List ℕ → Type 0
Steam text = text ≡ 115 ∷ 116 ∷ 101 ∷ 97 ∷ 109 ∷ []

-- it stands there, for which 0 is read, or it does not
pub record WordReads (text : List ℕ) (number : ℕ) : Type 0 where
  pub word : Steam text
  pub none : number ≡ 0

pub data WordFault (text : List ℕ) : ℕ → Type 0 where
  other : (Steam text → ⊥) → WordFault text 1

-- what a field of a line has to be: the word of a first line, or a plain number or an hour in a range
pub data Kind : Type 0 where
  the_word : Kind
  plain_between : (low high : ℕ) → Kind
  hour_between : (low high : ℕ) → Kind

-- what it means that such a field reads as a number
abbrev pub FieldReads : Kind → List ℕ → ℕ → Type 0
FieldReads the_word = WordReads
FieldReads (plain_between low high) = PlainReads low high
FieldReads (hour_between low high) = HourReads low high

-- and that it is at fault: "each 2 or 3 and then 4"
abbrev pub FieldFault : Kind → List ℕ → ℕ → Type 0
FieldFault the_word = WordFault
FieldFault (plain_between low high) = PlainFault low high
FieldFault (hour_between low high) = HourFault low high

-- fields read as numbers, one as one; kinds may be left over
pub data AllRead : List Kind → List (List ℕ) → List ℕ → Type 0 where
  no_more : {kinds : List Kind} → AllRead kinds [] []
  one_more :
      {kind : Kind} {kinds : List Kind} {field : List ℕ} {fields : List (List ℕ)} {number : ℕ} {numbers : List ℕ}
      → FieldReads kind field number → AllRead kinds fields numbers → AllRead (kind ∷ kinds) (field ∷ fields) (number ∷ numbers)

-- "then its fields from the left": the fault of the first, or the first reads and the others have this fault first
pub data FirstFieldFault : List Kind → List (List ℕ) → ℕ → Type 0 where
  here :
      {kind : Kind} {kinds : List Kind} {field : List ℕ} {fields : List (List ℕ)} {number : ℕ} → FieldFault kind field number
      → FirstFieldFault (kind ∷ kinds) (field ∷ fields) number
  later :
      {kind : Kind} {kinds : List Kind} {field : List ℕ} {fields : List (List ℕ)} {number : ℕ} (value : ℕ) → FieldReads kind field value
      → FirstFieldFault kinds fields number → FirstFieldFault (kind ∷ kinds) (field ∷ fields) number

-- a line has its shape: it splits into at least so many fields, and no more than there are kinds
pub record Shaped (least : ℕ) (kinds : List Kind) (line : List ℕ) (fields : List (List ℕ)) : Type 0 where
  pub splits : Splits line fields
  pub enough : least ≤ length fields
  pub most : length fields ≤ length kinds

-- a line reads as numbers: it has its shape, and its fields read as these
pub record LineReads (least : ℕ) (kinds : List Kind) (line : List ℕ) (numbers : List ℕ) : Type 0 where
  pub fields : List (List ℕ)
  pub shaped : Shaped least kinds line fields
  pub read : AllRead kinds fields numbers

-- and it makes values of them
pub record LineMakes {A : Type 0} (make : List ℕ → A) (least : ℕ) (kinds : List Kind) (line : List ℕ) (values : A) : Type 0 where
  pub numbers : List ℕ
  pub reads : LineReads least kinds line numbers
  pub made : make numbers ≡ values

-- "A line: 1 first, then its fields from the left": the first fault of a line
pub data LineFault (least : ℕ) (kinds : List Kind) (line : List ℕ) : ℕ → Type 0 where
  misshapen : ((fields : List (List ℕ)) → Shaped least kinds line fields → ⊥) → LineFault least kinds line 1
  at_field :
      {number : ℕ} (fields : List (List ℕ)) → Shaped least kinds line fields → FirstFieldFault kinds fields number
      → LineFault least kinds line number

-- "First line: the word `steam`, the number of chambers (1 to 8), the run in hours (1 to 9,999 hundredths)"
abbrev pub heading_kinds : List Kind
heading_kinds = the_word ∷ plain_between 1 8 ∷ hour_between 1 9_999 ∷ []

abbrev pub HeadingReads : List ℕ → Heading → Type 0
HeadingReads = LineMakes (λ numbers. record { chambers = get_or numbers 1 0; run = get_or numbers 2 0 }) 3 heading_kinds

abbrev pub HeadingFault : List ℕ → ℕ → Type 0
HeadingFault = LineFault 3 heading_kinds

-- "Each further line is an order: grower (1 to 9,999), ready hour, due hour"
abbrev pub order_kinds : List Kind
order_kinds = plain_between 1 9_999 ∷ hour_between 0 999_999 ∷ hour_between 0 999_999 ∷ []

abbrev pub OrderReads : List ℕ → Order → Type 0
OrderReads = LineMakes (λ numbers. record { grower = get_or numbers 0 0; ready = get_or numbers 1 0; due = get_or numbers 2 0 }) 3 order_kinds

abbrev pub OrderFault : List ℕ → ℕ → Type 0
OrderFault = LineFault 3 order_kinds

-- a plan's line, for a list with so many chambers: "line number of the order in its list, chamber, start hour"
abbrev pub load_kinds : ℕ → List Kind
load_kinds count = plain_between 0 9_999 ∷ plain_between 1 count ∷ hour_between 0 999_999 ∷ []

abbrev pub LoadReads : ℕ → List ℕ → Load → Type 0
LoadReads count =
    LineMakes (λ numbers. record { order = get_or numbers 0 0; chamber = get_or numbers 1 0; start = get_or numbers 2 0 }) 3 (load_kinds count)

abbrev pub LoadFault : ℕ → List ℕ → ℕ → Type 0
LoadFault count = LineFault 3 (load_kinds count)
