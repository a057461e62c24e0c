use Rattle.upd_migrate.proofs.Common.{state, HoldsTables, transforms_from, HasTables}
use Rattle.upd_migrate.proofs.Completed.{set_version, version_set}
use Rattle.upd_migrate.proofs.completing.set_version.Goals as goal

pub returns-clause-transforms : goal.returns-clause-transforms
returns-clause-transforms g c version it =
    let old = state g.S.Store c.args.tx.now.conn.now in
    let new = state g.S.Store c.run.new.tx.conn.now in
    transforms_from (HasTables version it) (HoldsTables it) set_version old new c.run.result c.run.ensures.ran
    (λ count ran h. version_set version it old new count ran h)
