use Rattle.upd_core.proofs.CountedLemmas.{put_count}
use Rattle.upd_core.proofs.target_counts.TargetCounts.put.Goals as goal

pub returns : goal.returns
returns c = λ t. rw (← c.self.view_is) (put_count c.self.inside.counts c.insert.new.self c.args.target c.args.count t (c.in_ok-insert.ensures.updates.0 t))
