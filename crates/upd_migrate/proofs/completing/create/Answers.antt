use Rattle.upd_migrate.proofs.Common.{◌+◌, [], ◌∷◌, ◌++◌, state, HoldsAllRows, schema_up_to, transforms_from}
use Rattle.upd_migrate.proofs.Completed.{next_made}
use Rattle.upd_migrate.proofs.completing.create.Goals as goal

pub returns-clause-transforms : goal.returns-clause-transforms
returns-clause-transforms g c n all m =
    let old = state g.S.Store c.args.tx.now.conn.now in
    let new = state g.S.Store c.run.new.tx.conn.now in
    transforms_from (HoldsAllRows (schema_up_to n) all) (HoldsAllRows (schema_up_to (n + 1)) (all ++ [] ∷ []))
    c.args.sql.now old new c.run.result c.run.ensures.ran
    (λ count ran h. next_made n c.args.sql.now m all old new count ran h)
