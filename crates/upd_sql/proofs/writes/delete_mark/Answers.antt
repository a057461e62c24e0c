use Rattle.upd_sql.proofs.Effects.{mark_gone}
use Rattle.upd_sql.proofs.writes.delete_mark.Goals as goal

pub returns : goal.returns
returns g c = record { same_reference = c.run.ensures.same_reference; does = mark_gone c.args.site.now (rw (c.site.ensures) at c.run.ensures.ran) }
