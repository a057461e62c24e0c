use Rattle.upd_yank.proofs.RefLemmas.{put_status}
use Rattle.upd_yank.proofs.statuses.Statuses.put.Goals as goal

pub returns : goal.returns
returns c = λ r. rw (← c.self.view_is) (put_status c.self.inside.statuses c.insert.new.self c.args.card c.args.active r (c.in_ok-insert.ensures.updates.0 r))
