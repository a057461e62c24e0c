use Rattle.upd_sql.proofs.Common.{rules, map, state, change_view, done_all}
use Rattle.upd_row_store.specs.Ranges.{without}
use Rattle.upd_sql.proofs.RemovingLemmas.{not_removed, removed}
use Rattle.upd_sql.proofs.removing.remove_together.Goals as goal

pub returns-in_ok-remove_gone-in-Some : goal.returns-in_ok-remove_gone-in-Some
returns-in_ok-remove_gone-in-Some g c = record {
  same_reference = search rules;
  does =
      removed (without c.in-Some.gone) (done_all (map change_view c.args.changes.now)) (state g.S.Store c.args.tx.now.conn.now)
      (state g.S.Store c.remove_gone.new.tx.conn.now) c.in_ok-remove_gone-in-Some.field-0 c.in-Some.ensures c.in_ok-remove_gone-in-Some.ensures.does;
}

pub returns-in_err-remove_gone-in-Some : goal.returns-in_err-remove_gone-in-Some
returns-in_err-remove_gone-in-Some g c = record {
  same_reference = search rules;
  does =
      not_removed (without c.in-Some.gone) (done_all (map change_view c.args.changes.now)) (state g.S.Store c.args.tx.now.conn.now)
      (state g.S.Store c.remove_gone.new.tx.conn.now) _ c.from_residual.result c.from_residual.ensures.0
      c.in_err-remove_gone-in-Some.ensures.does;
}
