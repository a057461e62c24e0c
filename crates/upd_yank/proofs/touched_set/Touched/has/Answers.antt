use Rattle.upd_yank.proofs.Common.{sym, ◌∙◌}
use Rattle.upd_yank.proofs.RefLemmas.{any_by_order}
use Rattle.upd_yank.proofs.touched_set.Touched.has.Goals as goal

pub returns : goal.returns
returns c = rw (← c.self.view_is) (c.contains.ensures ∙ sym (any_by_order c.self.inside.cards c.args.card))
