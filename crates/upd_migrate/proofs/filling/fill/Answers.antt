use Rattle.upd_migrate.proofs.Common.{Ok, refl, sym, subst, state, HoldsAllRows, Transforms, HoldsTables, First, IsMigrated, HoldsAfter, completed, schema_of}
use Rattle.upd_migrate.proofs.Common.{stored_in}
use Rattle.upd_migrate.proofs.Filled.{bare_rows, first_filled}
use Rattle.upd_migrate.proofs.filling.fill.Goals as goal

pub returns-in-First-clause-transforms : goal.returns-in-First-clause-transforms
returns-in-First-clause-transforms g c l rows lib =
    let old = state g.S.Store c.args.tx.now.conn.now in
    let mid = state g.S.Store c.complete.new.tx.conn.now in
    let new = state g.S.Store c.fill_states.new.tx.conn.now in
    let complete = subst (λ v. Transforms {X = Unit {0}} (HoldsAllRows (schema_of v) (stored_in v rows)) (HoldsTables (completed v rows)) old mid
    (Ok c.in_ok-complete.field-0))
    c.in-First.is (c.in_ok-complete.ensures.transforms rows) in
    let filled = first_filled l rows old mid new c.in_ok-complete.field-0 c.fill_states.result complete
    (c.fill_states.ensures.transforms l (completed First rows) (bare_rows l rows lib) refl refl) in
    subst (λ v. Transforms (HoldsAllRows (schema_of v) (stored_in v rows)) (HoldsAfter (IsMigrated v l rows)) old new c.fill_states.result) (sym c.in-First.is)
    filled
