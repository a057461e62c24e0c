use Rattle.upd_sql.proofs.Common.{rules, state, same_ref, with_state, without_states, makes_as, HoldsTables, AnyTables}
use Rattle.upd_row_store.specs.Ranges.{in_range}
use Rattle.upd_sql.proofs.RemovingLemmas.{states_alike}
use Rattle.upd_sql.proofs.Typed.{makes_both}
use Rattle.upd_sql.proofs.row_writes.replace_state.Goals as goal

pub returns : goal.returns
returns g c = record {
  same_reference = search rules;
  does =
      let old = state g.S.Store c.args.tx.now.conn.now in
      let mid = state g.S.Store c.delete_states.new.tx.conn.now in
      let new = state g.S.Store c.insert_state.new.tx.conn.now in
      let gone = makes_as HoldsTables AnyTables AnyTables _ (without_states (same_ref c.args.card.now)) old mid _ (λ it any. any)
      (states_alike (in_range c.of.result) (same_ref c.args.card.now) c.of.ensures) c.in_ok-delete_states.ensures.does in
      makes_both (without_states (same_ref c.args.card.now)) (with_state c.args.card.now c.args.active) old mid new
      c.in_ok-delete_states.field-0 c.insert_state.result gone c.insert_state.ensures.does;
}
