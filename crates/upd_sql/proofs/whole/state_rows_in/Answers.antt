use Rattle.upd_sql.proofs.Common.{state}
use Rattle.upd_sql.proofs.ReadTexts.{all_states}
use Rattle.upd_sql.proofs.WholeLemmas.{state_rows_listed}
use Rattle.upd_sql.proofs.whole.state_rows_in.Goals as goal

pub returns : goal.returns
returns g c =
    c.all_of.ensures (λ it. it.states) all_states.plain
    (state_rows_listed (state g.S.Store c.args.tx.now.conn.now) (state g.S.Store c.all_of.new.tx.conn.now))
