use Rattle.upd_migrate.proofs.Common.{state, HoldsAllRows, HoldsTables, transforms_stop, transforms_then, completed, HasTables, schema_of, stored_in}
use Rattle.upd_sql.specs.Making.{no_rows}
use Rattle.upd_sql.proofs.MakingLemmas.{opened_before}
use Rattle.upd_migrate.proofs.completing.complete.Goals as goal

pub returns-clause-transforms : goal.returns-clause-transforms
returns-clause-transforms g c it =
    let v = c.args.version in
    transforms_then (HoldsAllRows (schema_of v) (stored_in v it)) (HasTables v (completed v it)) (HoldsTables (completed v it))
    (state g.S.Store c.args.tx.now.conn.now)
    (state g.S.Store c.create_missing.new.tx.conn.now) (state g.S.Store c.set_version.new.tx.conn.now) c.in_ok-create_missing.field-0 c.set_version.result
    (c.in_ok-create_missing.ensures.transforms it) (c.set_version.ensures.transforms v (completed v it))

pub returns-in_err-create_missing-clause-transforms : goal.returns-in_err-create_missing-clause-transforms
returns-in_err-create_missing-clause-transforms g c it =
    let v = c.args.version in
    transforms_stop (HoldsAllRows (schema_of v) (stored_in v it)) (HasTables v (completed v it)) (HoldsTables (completed v it))
    (state g.S.Store c.args.tx.now.conn.now)
    (state g.S.Store c.create_missing.new.tx.conn.now) c.in_err-create_missing.field-0.0 c.from_residual.result
    (c.in_err-create_missing.ensures.transforms it) c.from_residual.ensures.0

pub returns-clause-steps : goal.returns-clause-steps
returns-clause-steps g c = (returns-clause-transforms g c no_rows).steps

pub returns-in_err-create_missing-clause-steps : goal.returns-in_err-create_missing-clause-steps
returns-in_err-create_missing-clause-steps g c = (returns-in_err-create_missing-clause-transforms g c no_rows).steps

pub returns-clause-was_open : goal.returns-clause-was_open
returns-clause-was_open g c =
    opened_before (state g.S.Store c.args.tx.now.conn.now) (state g.S.Store c.create_missing.new.tx.conn.now) (state g.S.Store c.set_version.new.tx.conn.now)
    c.in_ok-create_missing.field-0 c.set_version.result (c.in_ok-create_missing.ensures.transforms no_rows).steps
    (c.set_version.ensures.transforms c.args.version no_rows).steps c.set_version.ensures.was_open
