-- What the line at fault is and where it lies, said of the text that it stands in. Assumes nothing.
use Prim.Native.Nat.{ℕ}
use mathlib.Core.Path.{◌≡◌, ◌∙◌}
use mathlib.Core.Bool.{true, false}
use mathlib.Core.List.{List}
use denote.Ref.{Bor}
use Rattle.texts.specs.Lines.{part_of, part_start}
use Rattle.texts.specs.Meaning.{LiesAt}
use Rattle.texts.proofs.Places.{between_places, no_places}
use Rattle.plans.specs.Judging.{shown, ShownIn}
use Rattle.plans.specs.Meaning.{PartShown}
use Rattle.plans.specs.declared.Fault.{Fault}

part_shown :
    (fault : Fault) (text part : Bor (List ℕ)) → part.now ≡ part_of text.now fault.from fault.to
    → LiesAt part text (part_start text.now fault.from fault.to) → PartShown fault text part
part_shown fault text part is lies =
    record {
      in_order = between_places text part fault.from fault.to is lies;
      else_front = no_places text part fault.from fault.to is lies;
    }

module _ (fault : Fault) (list plan part : Bor (List ℕ)) (is : part.now ≡ shown fault list.now plan.now) (lies : ShownIn fault list plan part) where
  pub shown_of_plan : fault.plan ≡ true → PartShown fault plan part
  unfolding shown
  shown_of_plan inside = part_shown fault plan part (is ∙ rw inside) (lies.in_plan inside)

  pub shown_of_list : fault.plan ≡ false → PartShown fault list part
  unfolding shown
  shown_of_list outside = part_shown fault list part (is ∙ rw outside) (lies.in_list outside)
