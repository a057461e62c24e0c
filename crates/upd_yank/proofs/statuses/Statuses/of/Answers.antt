use Rattle.upd_yank.proofs.Common.{sym, ◌∙◌}
use Rattle.upd_yank.proofs.RefLemmas.{status_by_order}
use Rattle.upd_yank.proofs.statuses.Statuses.of.Goals as goal

pub returns : goal.returns
returns c = rw (← c.self.view_is) (c.copied.ensures ∙ c.get.ensures.value ∙ sym (status_by_order c.self.inside.statuses c.args.card))
