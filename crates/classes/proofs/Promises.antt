-- What this room promises: the class of every byte, over the contract of `class_of` itself. Assumes nothing.
use Prim.Native.Nat.{ℕ, ◌-◌, ◌≤◌}
use mathlib.Core.Path.{◌≡◌, refl}
use mathlib.Core.Bool.{true}
use mathlib.Core.Logic.{◌↔◌}
use contract.Lifetimes.{Lfts}
use Rattle.ground.specs.Outcome.{Single}
use Rattle.classes.specs.Meaning.{OfClass}
use Rattle.classes.specs.Classes.{comma, is_digit, digit_of, class_of}
use Rattle.classes.specs.declared.Class.{Class}
use Rattle.classes.proofs.Classes as classes
use Rattle.classes.proofs.class_of.Reads as class_of

-- the decimal mark is the comma
pub mark_is_comma : comma ≡ 44
mark_is_comma = refl

-- a digit is a byte from 48 to 57, worth its byte less 48
pub digit_exactly : (byte : ℕ) → (is_digit byte ≡ true) ↔ ((48 ≤ byte) × (byte ≤ 57))
digit_exactly byte = (classes.digit_found byte, classes.digit_tested byte)

pub digit_worth : (byte : ℕ) → digit_of byte ≡ byte - 48
digit_worth byte = refl

-- a byte is sorted into a class exactly when it is of that class: a digit of this worth, the comma, the tab, the line end, or none of them
pub class_exactly : (byte : ℕ) (class : Class) → (class_of 44 byte ≡ class) ↔ OfClass byte class
class_exactly = classes.class_exactly

module _ (κs : Lfts 0) (byte : ℕ) (after : _) where
  -- 1d: the contract admits a single outcome
  pub class_of_single : Single (λ answer. class_of.Learnt κs (byte, tt) answer after)
  class_of_single one other this that = cc

  -- and it is the class that the byte is of
  pub class_of_exactly : (answer : Class) → class_of.Learnt κs (byte, tt) answer after → (class : Class) → (answer ≡ class) ↔ OfClass byte class
  class_of_exactly answer learnt class = rw learnt (class_exactly byte class)

-- 1a: the function asks nothing of what it is passed
pub nothing_asked : (κs : Lfts 0) (passed : _) → class_of.Asked κs passed
nothing_asked κs passed = tt
