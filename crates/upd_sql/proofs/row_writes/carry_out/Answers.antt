use Rattle.upd_sql.proofs.Common.{sym, subst, state, done, change_view, Fits, Makes, HoldsTables}
use Rattle.upd_core.specs.declared.change.Change.{Change}
use Rattle.upd_sql.proofs.row_writes.carry_out.Goals as goal

pub returns-in-TargetsGone : goal.returns-in-TargetsGone
returns-in-TargetsGone g c = record {
  same_reference = c.remove-in-TargetsGone.ensures.same_reference;
  does =
      let old = state g.S.Store c.args.tx.now.conn.now in
      let new = state g.S.Store c.remove-in-TargetsGone.new.tx.conn.now in
      subst (λ (change : Change). Makes {X = Unit {0}} HoldsTables (Fits (change_view change))
      (done (change_view change)) old new c.remove-in-TargetsGone.result)
      (sym c.in-TargetsGone.is) c.remove-in-TargetsGone.ensures.does;
}
