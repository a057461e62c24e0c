use Rattle.upd_sql.proofs.Common.{map, count_pair, state}
use Rattle.upd_sql.proofs.ReadTexts.{all_counts}
use Rattle.upd_sql.proofs.WholeLemmas.{counts_listed}
use Rattle.upd_sql.proofs.whole.counts_in.Goals as goal

pub returns : goal.returns
returns g c =
    c.all_of.ensures (λ it. map count_pair it.counts) all_counts.plain
    (counts_listed (state g.S.Store c.args.tx.now.conn.now) (state g.S.Store c.all_of.new.tx.conn.now))
