-- What the lines of a list are and how they read, what it means that a list is clean, and which fault an order line has that follows
-- clean ones. It is no way of reading a list; the desk is proved to go by it. Assumes nothing.
use Rattle.std.specs.Prelude.{ℕ, ◌≤◌, ◌<◌, ◌≡◌, List, [], ◌∷◌, ◌++◌, length}
use Rattle.texts.specs.Meaning.{joined, AreLines}
use Rattle.lines.specs.Meaning.{HeadingReads, OrderReads, OrderFault}
use Rattle.lines.specs.declared.Heading.{Heading}
use Rattle.lines.specs.declared.Order.{Order}

-- the lines of a text
abbrev pub HasLines : List ℕ → List (List ℕ) → Type 0
HasLines text lines = AreLines lines × (joined lines ≡ text)

-- the first line of a text and "each further line"; an empty text has an empty first line and none further
pub data FirstOf : List ℕ → List ℕ → List (List ℕ) → Type 0 where
  of_none : FirstOf [] [] []
  of_lines : {text first : List ℕ} {further : List (List ℕ)} → HasLines text (first ∷ further) → FirstOf text first further

-- lines read one by one, each as one value
pub data EachReads {A : Type 0} (Reads : List ℕ → A → Type 0) : List (List ℕ) → List A → Type 0 where
  none_left : EachReads Reads [] []
  one_more :
      {line : List ℕ} {lines : List (List ℕ)} {one : A} {all : List A} → Reads line one → EachReads Reads lines all
      → EachReads Reads (line ∷ lines) (one ∷ all)

-- it holds of each of several things, wherever it stands among them
pub record Each {A : Type 0} (Holds : A → Type 0) (all : List A) : Type 0 where
  pub holds : (front : List A) (one : A) (rest : List A) → all ≡ front ++ one ∷ rest → Holds one

-- it holds of each two of them, an earlier and a later
pub record EachTwo {A : Type 0} (Holds : A → A → Type 0) (all : List A) : Type 0 where
  pub holds :
      (front : List A) (earlier : A) (middle : List A) (later : A) (rest : List A) → all ≡ front ++ earlier ∷ (middle ++ later ∷ rest)
      → Holds earlier later

-- it holds of one of them
pub record Some {A : Type 0} (Holds : A → Type 0) (all : List A) : Type 0 where
  pub front : List A
  pub one : A
  pub rest : List A
  pub among : all ≡ front ++ one ∷ rest
  pub holds : Holds one

-- lines of which none is refused: each reads as an order, there are at most 512 of them, and ready hours never fall
pub record CleanOrders (lines : List (List ℕ)) (orders : List Order) : Type 0 where
  pub read : EachReads OrderReads lines orders
  pub few : length orders ≤ 512
  pub in_turn : EachTwo (λ earlier later. earlier.ready ≤ later.ready) orders

-- "a clean list": "at most 65,536 bytes", its first line, and "Each further line is an order"
pub record CleanList (list : List ℕ) (heading : Heading) (orders : List Order) : Type 0 where
  pub first : List ℕ
  pub further : List (List ℕ)
  pub fits : length list ≤ 65_536
  pub parts : FirstOf list first further
  pub headed : HeadingReads first heading
  pub ordered : CleanOrders further orders

-- the fault of an order line that follows clean ones: "A line: 1 first, then its fields from the left", then 6, "the book has taken 512
-- orders", and 5, "ready is below the clock"
pub data OrderWrong (earlier : List Order) (line : List ℕ) : ℕ → Type 0 where
  misread : {number : ℕ} → OrderFault line number → OrderWrong earlier line number
  full : (order : Order) → OrderReads line order → length earlier ≡ 512 → OrderWrong earlier line 6
  out_of_turn :
      (order : Order) → OrderReads line order → length earlier < 512 → Some (λ before. order.ready < before.ready) earlier
      → OrderWrong earlier line 5
