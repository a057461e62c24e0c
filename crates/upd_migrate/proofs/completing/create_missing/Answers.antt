use Rattle.upd_migrate.proofs.Common.{[], ◌∷◌, ◌++◌, sym, subst, state, HoldsAllRows, schema_up_to, Transforms, transforms_stop, transforms_then, First}
use Rattle.upd_migrate.proofs.Common.{Second, completed, HasTables, schema_of, stored_in}
use Rattle.upd_migrate.proofs.completing.create_missing.Goals as goal

pub returns-in_ok-create_states-in-First-clause-transforms : goal.returns-in_ok-create_states-in-First-clause-transforms
returns-in_ok-create_states-in-First-clause-transforms g c it =
    let old = state g.S.Store c.args.tx.now.conn.now in
    let new = state g.S.Store c.create_settled.new.tx.conn.now in
    let rows = stored_in First it in
    subst (λ v. Transforms (HoldsAllRows (schema_of v) (stored_in v it)) (HasTables v (completed v it)) old new c.create_settled.result) (sym c.in-First.is)
    (transforms_then (HoldsAllRows (schema_up_to 6) rows) (HoldsAllRows (schema_up_to 8) ((rows ++ [] ∷ []) ++ [] ∷ [])) (HasTables First (completed First it))
    old
    (state g.S.Store c.create_states.new.tx.conn.now) new c.in_ok-create_states-in-First.field-0 c.create_settled.result
    (c.in_ok-create_states-in-First.ensures.transforms rows) (c.create_settled.ensures.transforms ((rows ++ [] ∷ []) ++ [] ∷ [])))

pub returns-in_err-create_states-in-First-clause-transforms : goal.returns-in_err-create_states-in-First-clause-transforms
returns-in_err-create_states-in-First-clause-transforms g c it =
    let old = state g.S.Store c.args.tx.now.conn.now in
    let new = state g.S.Store c.create_states.new.tx.conn.now in
    let rows = stored_in First it in
    subst (λ v. Transforms (HoldsAllRows (schema_of v) (stored_in v it)) (HasTables v (completed v it)) old new c.from_residual.result) (sym c.in-First.is)
    (transforms_stop (HoldsAllRows (schema_up_to 6) rows) (HoldsAllRows (schema_up_to 8) ((rows ++ [] ∷ []) ++ [] ∷ [])) (HasTables First (completed First it))
    old new
    c.in_err-create_states-in-First.field-0.0 c.from_residual.result (c.in_err-create_states-in-First.ensures.transforms rows) c.from_residual.ensures.0)

pub returns-in-Second-clause-transforms : goal.returns-in-Second-clause-transforms
returns-in-Second-clause-transforms g c it =
    subst (λ v. Transforms (HoldsAllRows (schema_of v) (stored_in v it)) (HasTables v (completed v it)) (state g.S.Store c.args.tx.now.conn.now)
    (state g.S.Store c.create_settled-in-Second.new.tx.conn.now) c.create_settled-in-Second.result) (sym c.in-Second.is)
    (c.create_settled-in-Second.ensures.transforms (stored_in Second it))
