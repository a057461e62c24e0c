use Rattle.upd_migrate.proofs.Common.{List, map, subst, state, change_view, done_all, AllFit, Makes, HoldsTables}
use Rattle.upd_core.specs.declared.change.Change.{Change}
use Rattle.upd_migrate.proofs.Filled.{states_filled}
use Rattle.upd_migrate.proofs.filling.fill_states.Goals as goal

pub returns-clause-transforms : goal.returns-clause-transforms
returns-clause-transforms g c l it lib states counts =
    let old = state g.S.Store c.args.tx.now.conn.now in
    let mid = state g.S.Store c.library_rows_in.new.tx.conn.now in
    let new = state g.S.Store c.carry_out_all.new.tx.conn.now in
    let makes = subst (λ (xs : List Change). Makes HoldsTables (AllFit (map change_view xs)) (done_all (map change_view xs)) mid new c.carry_out_all.result)
    c.deref.ensures.value c.carry_out_all.ensures.does in
    states_filled l c.in_ok-library.library it (map change_view c.in-Ok.changes.items) old mid new c.in_ok-rows.rows c.carry_out_all.result lib
    c.in_ok-rows.ensures.does c.in_ok-library.ensures.whole (λ sound. c.in-Ok.ensures.states sound it states counts) c.in-Ok.ensures.only makes
