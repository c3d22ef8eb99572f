-- What the line of a judgement is: "`right→N`, or `fault`, number, `orders` or `plan`, line number". It is no way of writing one; what is
-- printed is proved to be it. Assumes nothing.
use Rattle.std.specs.Prelude.{ℕ, ◌≡◌, Bool, true, false, List, [], ◌∷◌}
use Rattle.ground.specs.Spelling.{DigitsOf}
use Rattle.fields.specs.Meaning.{Splits}

-- "`right→N`": that word and the digits of the number, and no more
pub record RightLine (count : ℕ) (line : List ℕ) : Type 0 where
  pub digits : List ℕ
  pub splits : Splits line ((114 ∷ 105 ∷ 103 ∷ 104 ∷ 116 ∷ []) ∷ digits ∷ [])
  pub counted : DigitsOf count digits

-- "`orders` or `plan`": the text at fault by its word
pub record TextNamed (in_plan : Bool) (word : List ℕ) : Type 0 where
  pub as_plan : in_plan ≡ true → word ≡ 112 ∷ 108 ∷ 97 ∷ 110 ∷ []
  pub as_orders : in_plan ≡ false → word ≡ 111 ∷ 114 ∷ 100 ∷ 101 ∷ 114 ∷ 115 ∷ []

-- "`fault`, number, `orders` or `plan`, line number": that word, the digits of the fault's number, the text at fault, the digits of its
-- line's number, and no more
pub record FaultLine (number : ℕ) (in_plan : Bool) (at : ℕ) (line : List ℕ) : Type 0 where
  pub digits : List ℕ
  pub text : List ℕ
  pub place : List ℕ
  pub splits : Splits line ((102 ∷ 97 ∷ 117 ∷ 108 ∷ 116 ∷ []) ∷ digits ∷ text ∷ place ∷ [])
  pub numbered : DigitsOf number digits
  pub named : TextNamed in_plan text
  pub placed : DigitsOf at place
