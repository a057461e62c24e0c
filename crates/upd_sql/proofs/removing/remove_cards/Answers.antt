use Rattle.upd_sql.proofs.Common.{rules, state, without_card_rows, without_states}
use Rattle.upd_row_store.specs.Ranges.{in_range}
use Rattle.upd_sql.proofs.Typed.{makes_both}
use Rattle.upd_sql.proofs.removing.remove_cards.Goals as goal

pub returns : goal.returns
returns g c = record {
  same_reference = search rules;
  does =
      let gone = in_range c.args.range.now in
      makes_both (without_card_rows gone) (without_states gone) (state g.S.Store c.args.tx.now.conn.now)
      (state g.S.Store c.delete_cards.new.tx.conn.now) (state g.S.Store c.delete_states.new.tx.conn.now)
      c.in_ok-delete_cards.field-0 c.delete_states.result c.in_ok-delete_cards.ensures.does c.delete_states.ensures.does;
}
