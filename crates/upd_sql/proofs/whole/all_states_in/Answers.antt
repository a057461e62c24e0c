use Rattle.upd_sql.proofs.Common.{map, rules, state, count_pair, state_pair, IsSame}
use Rattle.upd_row_store.specs.Tables.{AreByKey, AreRead}
use Rattle.upd_sql.proofs.WholeLemmas.{looks_more}
use Rattle.upd_sql.proofs.whole.all_states_in.Goals as goal

pub returns : goal.returns
returns g c = record {
  same_reference = search rules;
  does =
      looks_more (λ it x. IsSame x.items (map state_pair it.states)) (λ it x. IsSame x.items (map count_pair it.counts))
      (λ it found. AreRead it found × AreByKey found) (state g.S.Store c.args.tx.now.conn.now) (state g.S.Store c.states_in.new.tx.conn.now)
      (state g.S.Store c.counts_in.new.tx.conn.now) c.in_ok-states.states c.in_ok-counts.counts _ c.in_ok-states.ensures.does c.in_ok-counts.ensures.does
      (λ it p q. (c.states_by_key.ensures.read it (record { states = p; counts = q }), c.states_by_key.ensures.order));
}
