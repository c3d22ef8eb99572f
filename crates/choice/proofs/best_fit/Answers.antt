-- `best_fit` goes from chamber to chamber with the better so far, which comes to the choice among them.
use mathlib.Core.Path.{refl, ◌∙◌}
use borrow.Author.Tests.{tests}
use Rattle.std.specs.Prelude.{None}
use Rattle.std.proofs.Common.{rules, arith}
use Rattle.std.proofs.lemmas.Iterator.{YieldsList-from_range, YieldsList-from_slice, YieldsList-from_zip}
use Rattle.std.proofs.lemmas.Iterator.Consumers.{YieldsList-at, fold_from_yields_List}
use Rattle.choice.specs.BestFit.{better}
use Rattle.choice.proofs.Choosing.{its_offer, best_so_far}
use Rattle.choice.proofs.best_fit.Goals as goal

pub returns : goal.returns
returns c =
    let a = c.args in
    fold_from_yields_List _ (λ best placed. better best (its_offer a.ready a.due a.run placed)) None c.fold.result c.fold.ensures.ran
    (YieldsList-from_zip (YieldsList-at c.zip.ensures.first (YieldsList-from_range 0 a.count a.count refl (omega arith))) (YieldsList-from_slice a.hours.now cc))
    (λ best placed given after ran. search (rules, tests))
    ∙ best_so_far a.ready a.due a.run 0 a.count a.hours.now None
