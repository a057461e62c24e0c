use Rattle.upd_yank.proofs.RefLemmas.{add_ref}
use Rattle.upd_yank.proofs.touched_set.Touched.add.Goals as goal

pub returns : goal.returns
returns c = λ r. rw (← c.self.view_is) (add_ref c.self.inside.cards c.insert.new.self c.args.card r (c.in_ok-insert.ensures.updates.0 r))
