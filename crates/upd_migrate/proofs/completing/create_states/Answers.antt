use Rattle.upd_migrate.proofs.Common.{[], ◌∷◌, ◌++◌, state, HoldsAllRows, schema_up_to, transforms_stop, transforms_then}
use Rattle.upd_sql.proofs.MakingLemmas.{makes_states, makes_counts}
use Rattle.upd_migrate.proofs.completing.create_states.Goals as goal

pub returns-clause-transforms : goal.returns-clause-transforms
returns-clause-transforms g c all =
    transforms_then (HoldsAllRows (schema_up_to 6) all) (HoldsAllRows (schema_up_to 7) (all ++ [] ∷ []))
    (HoldsAllRows (schema_up_to 8) ((all ++ [] ∷ []) ++ [] ∷ []))
    (state g.S.Store c.args.tx.now.conn.now) (state g.S.Store c.create.new.tx.conn.now) (state g.S.Store c.create-2.new.tx.conn.now)
    c.in_ok-create.field-0 c.create-2.result (c.in_ok-create.ensures.transforms 6 all makes_states)
    (c.create-2.ensures.transforms 7 (all ++ [] ∷ []) makes_counts)

pub returns-in_err-create-clause-transforms : goal.returns-in_err-create-clause-transforms
returns-in_err-create-clause-transforms g c all =
    transforms_stop (HoldsAllRows (schema_up_to 6) all) (HoldsAllRows (schema_up_to 7) (all ++ [] ∷ []))
    (HoldsAllRows (schema_up_to 8) ((all ++ [] ∷ []) ++ [] ∷ []))
    (state g.S.Store c.args.tx.now.conn.now) (state g.S.Store c.create.new.tx.conn.now) c.in_err-create.field-0.0 c.from_residual.result
    (c.in_err-create.ensures.transforms 6 all makes_states) c.from_residual.ensures.0
