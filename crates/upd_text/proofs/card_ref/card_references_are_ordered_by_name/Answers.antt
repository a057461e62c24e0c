use Rattle.upd_text.proofs.OrderLemmas.{is_same-is_eq, by_name-exact}
use Rattle.upd_text.proofs.card_ref.card_references_are_ordered_by_name.Goals as goal

pub returns-clause-equality : goal.returns-clause-equality
returns-clause-equality c = is_same-is_eq

pub returns-clause-exact : goal.returns-clause-exact
returns-clause-exact c = by_name-exact
