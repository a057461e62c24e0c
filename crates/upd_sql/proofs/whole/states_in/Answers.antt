use Rattle.upd_sql.proofs.Common.{map, state_pair, state}
use Rattle.upd_sql.proofs.ReadTexts.{all_states}
use Rattle.upd_sql.proofs.WholeLemmas.{states_listed}
use Rattle.upd_sql.proofs.whole.states_in.Goals as goal

pub returns : goal.returns
returns g c =
    c.all_of.ensures (λ it. map state_pair it.states) all_states.plain
    (states_listed (state g.S.Store c.args.tx.now.conn.now) (state g.S.Store c.all_of.new.tx.conn.now))
