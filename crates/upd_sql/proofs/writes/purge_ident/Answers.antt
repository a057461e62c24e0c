use Rattle.upd_sql.proofs.Effects.{ident_purged}
use Rattle.upd_sql.proofs.writes.purge_ident.Goals as goal

pub returns : goal.returns
returns g c = record { same_reference = c.run.ensures.same_reference; does = ident_purged c.args.age (rw (c.number.ensures) at c.run.ensures.ran) }
