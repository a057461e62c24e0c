use Rattle.upd_sql.proofs.Common.{rules, state, same_ref, makes_as, HoldsTables, AnyTables}
use Rattle.upd_row_store.specs.Ranges.{in_range, without_rows}
use Rattle.upd_row_store.proofs.RangeLemmas.{rows_alike}
use Rattle.upd_sql.proofs.removing.remove.Goals as goal

pub returns : goal.returns
returns g c = record {
  same_reference = search rules;
  does =
      makes_as HoldsTables AnyTables AnyTables _ (without_rows c.args.which (same_ref c.args.card.now)) (state g.S.Store c.args.tx.now.conn.now)
      (state g.S.Store c.remove_range.new.tx.conn.now) c.remove_range.result (λ it any. any)
      (λ it. rows_alike c.args.which (in_range c.of.result) (same_ref c.args.card.now) it c.of.ensures) c.remove_range.ensures.does;
}
