-- Orders given one after another, the loads that are kept of them, and the rule of the paper's source on these loads themselves instead
-- of the book: when a chamber completes its loads, and which chamber the source takes. Assumes nothing.
use Rattle.std.specs.Prelude.{ℕ, ◌+◌, ◌≤◌, ◌<◌, ◌≡◌, ◌⊎◌, List, [], ◌∷◌, ◌++◌}
use Rattle.book.specs.Meaning.{RightAnswer}
use Rattle.book.specs.declared.Book.{Book}
use Rattle.book.specs.declared.Taken.{Taken}
use Rattle.book.specs.declared.Answer.{Answer}
use Rattle.book.specs.declared.Answer.TheVariants.{Yes, No, Refused}

-- "An order given as numbers": its ready hour and its due hour
pub record OrderHours : Type 0 where
  pub ready : ℕ
  pub due : ℕ

-- an order given to a book, and what came back: its answer and the next book
pub record GivenOrder : Type 0 where
  pub order : OrderHours
  pub taken : Taken

-- orders given one after another, the first to this book and each other to the book that came back before: each is answered rightly
unfoldable pub OneAfterAnother : Book → List GivenOrder → Type 0
OneAfterAnother book [] = Unit {0}
OneAfterAnother book (given ∷ later) =
    RightAnswer book given.order.ready given.order.due given.taken.book given.taken.answer
    × OneAfterAnother given.taken.book later

-- the book that came back last
unfoldable pub last_book : Book → List GivenOrder → Book
last_book book [] = book
last_book book (given ∷ later) = last_book given.taken.book later

-- a load that is kept: its chamber and the hour it starts
pub record KeptLoad : Type 0 where
  pub chamber : ℕ
  pub start : ℕ

-- the load of a yes; a no and a refusal have none
abbrev pub load_kept : Answer → List KeptLoad
load_kept (Yes chamber start) = record { chamber = chamber; start = start } ∷ []
load_kept No = []
load_kept (Refused number) = []

-- the loads of orders given one after another, the latest first
unfoldable pub loads_kept : List GivenOrder → List KeptLoad
loads_kept [] = []
loads_kept (given ∷ later) = loads_kept later ++ load_kept given.taken.answer

-- the ready hour of an order that is taken, which every order is that is not refused
abbrev pub ready_taken : ℕ → Answer → List ℕ
ready_taken ready (Yes chamber start) = ready ∷ []
ready_taken ready No = ready ∷ []
ready_taken ready (Refused number) = []

-- the ready hours of the orders taken
unfoldable pub readies_taken : List GivenOrder → List ℕ
readies_taken [] = []
readies_taken (given ∷ later) = ready_taken given.order.ready given.taken.answer ++ readies_taken later

-- "the clock (ready hour of the last order taken)": the last of some hours, or the hour before them where there are none
unfoldable pub last_hour_of : ℕ → List ℕ → ℕ
last_hour_of before [] = before
last_hour_of before (hour ∷ later) = last_hour_of hour later

-- a load is in a chamber at an hour: from its start on, for as long as it holds the chamber
pub record During (hold : ℕ) (load : KeptLoad) (chamber hour : ℕ) : Type 0 where
  pub its_chamber : load.chamber ≡ chamber
  pub begun : load.start ≤ hour
  pub unfinished : hour < load.start + hold

-- some load is in a chamber at an hour
unfoldable pub Runs : ℕ → List KeptLoad → ℕ → ℕ → Type 0
Runs hold [] chamber hour = ⊥
Runs hold (load ∷ loads) chamber hour = During hold load chamber hour ⊎ Runs hold loads chamber hour

-- no load is in a chamber at or after a time
abbrev pub NoneFrom : ℕ → List KeptLoad → ℕ → ℕ → Type 0
NoneFrom hold loads chamber time = (hour : ℕ) → time ≤ hour → Runs hold loads chamber hour → ⊥

-- "the completion time of machine M_i, i.e., the first time t such that no job is scheduled to run on machine M_i at or after t": the
-- first from the present on
pub record Completes (hold : ℕ) (loads : List KeptLoad) (chamber present time : ℕ) : Type 0 where
  pub not_past : present ≤ time
  pub none_from : NoneFrom hold loads chamber time
  pub first : (other : ℕ) → present ≤ other → NoneFrom hold loads chamber other → time ≤ other

-- "each machine M_i is committed to execute jobs from t until its completion time C(M_i) with no idle time inserted"
abbrev pub BusyUntil : ℕ → List KeptLoad → ℕ → ℕ → ℕ → Type 0
BusyUntil hold loads chamber present time = (hour : ℕ) → present ≤ hour → hour < time → Runs hold loads chamber hour

-- "A machine is feasible for job j if C(M_i) ≤ d_j − p": one of the chambers, its completion time, and that time plus the run at most due
pub record Feasible (chambers run hold : ℕ) (loads : List KeptLoad) (ready due chamber time : ℕ) : Type 0 where
  pub numbered : (1 ≤ chamber) × (chamber ≤ chambers)
  pub completes : Completes hold loads chamber ready time
  pub in_time : time + run ≤ due

-- "j is scheduled on a machine with largest C(M_i) among all feasible machines, to start at time C(M_i)"
pub record SourceChoice (chambers run hold : ℕ) (loads : List KeptLoad) (ready due chamber start : ℕ) : Type 0 where
  pub feasible : Feasible chambers run hold loads ready due chamber start
  pub largest : (other time : ℕ) → Feasible chambers run hold loads ready due other time → time ≤ start

-- "If no feasible machine for job j exists, the job is rejected"
abbrev pub SourceRejects : ℕ → ℕ → ℕ → List KeptLoad → ℕ → ℕ → Type 0
SourceRejects chambers run hold loads ready due = (chamber time : ℕ) → Feasible chambers run hold loads ready due chamber time → ⊥

-- the source leaves ties open; the paper takes the lowest number of its choices
pub record LowestSourceChoice (chambers run hold : ℕ) (loads : List KeptLoad) (ready due chamber start : ℕ) : Type 0 where
  pub choice : SourceChoice chambers run hold loads ready due chamber start
  pub lowest : (other time : ℕ) → SourceChoice chambers run hold loads ready due other time → chamber ≤ other
