use Rattle.upd_correct.proofs.Common.{rules, ◌≡◌, [], ap, ◌∙◌}
use Rattle.upd_correct.specs.Causes.{OfCards, conflicts}
use Rattle.upd_correct.proofs.correcting.unchecked.Goals as goal

pub returns-clause-refused : goal.returns-clause-refused
returns-clause-refused c text set taken l clean =
    let some : c.in_ok-found.found.items ≡ [] → ⊥ = search rules in
    OfCards c.in_ok-found.found.items some clean (c.in_ok-refusals.ensures ∙ ap conflicts c.deref.ensures.value)
