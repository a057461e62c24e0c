use Rattle.upd_sql.proofs.Common.{rules, state}
use Rattle.upd_sql.proofs.ToldLemmas.{told_anew, told_in_place, told_last}
use Rattle.upd_sql.proofs.row_writes.set_state.Goals as goal

pub returns-then-rows-eq1 : goal.returns-then-rows-eq1
returns-then-rows-eq1 g c = record {
  same_reference = search rules;
  does =
      told_in_place c.args.card.now c.args.active (state g.S.Store c.args.tx.now.conn.now) (state g.S.Store c.update_state.new.tx.conn.now)
      c.in_ok-rows.rows tt c.in_ok-rows.ensures.makes.does c.in_ok-rows.ensures.counted c.if-rows-eq1.true;
}

pub returns-then-rows-eq0 : goal.returns-then-rows-eq0
returns-then-rows-eq0 g c = record {
  same_reference = search rules;
  does =
      told_last c.args.card.now c.args.active (state g.S.Store c.args.tx.now.conn.now) (state g.S.Store c.update_state.new.tx.conn.now)
      (state g.S.Store c.insert_state.new.tx.conn.now) c.in_ok-rows.rows c.insert_state.result c.in_ok-rows.ensures.makes.does c.in_ok-rows.ensures.counted
      c.insert_state.ensures.does c.if-rows-eq0.true;
}

pub returns : goal.returns
returns g c = record {
  same_reference = search rules;
  does =
      told_anew c.args.card.now c.args.active (state g.S.Store c.args.tx.now.conn.now) (state g.S.Store c.update_state.new.tx.conn.now)
      (state g.S.Store c.replace_state.new.tx.conn.now) c.in_ok-rows.rows c.replace_state.result c.in_ok-rows.ensures.makes.does c.in_ok-rows.ensures.counted
      c.replace_state.ensures.does c.if-rows-eq1.false;
}
