use Rattle.upd_partial.proofs.Common.{ap, ◌∙◌, list_any}
use Rattle.upd_partial.proofs.needs.cards_named.Goals as goal

pub returns-clause-same : goal.returns-clause-same
returns-clause-same c = λ test. c.in_ok-cards.ensures.same test ∙ ap (list_any test) (c.deref.ensures.value ∙ c.in_ok-named.ensures)
