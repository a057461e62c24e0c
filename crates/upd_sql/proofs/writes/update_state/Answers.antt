use Rattle.upd_sql.proofs.Common.{state}
use Rattle.upd_sql.proofs.Effects.{state_restated, states_counted}
use Rattle.upd_sql.proofs.writes.update_state.Goals as goal

pub returns-clause-makes : goal.returns-clause-makes
returns-clause-makes g c = record {
  same_reference = c.run_counted.ensures.same_reference;
  does = state_restated (record { card = c.args.card.now; active = c.args.active })
      (rw (c.name.ensures, c.number.ensures, c.flag.ensures) at c.run_counted.ensures.ran);
}

pub returns-clause-counted : goal.returns-clause-counted
returns-clause-counted g c = states_counted (state g.S.Store c.args.tx.now.conn.now) (state g.S.Store c.run_counted.new.tx.conn.now)
    (record { card = c.args.card.now; active = c.args.active }) c.run_counted.result
    (rw (c.name.ensures, c.number.ensures, c.flag.ensures) at c.run_counted.ensures.counted)
