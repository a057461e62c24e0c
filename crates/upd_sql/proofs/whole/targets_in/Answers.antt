use Rattle.upd_sql.proofs.Common.{state}
use Rattle.upd_sql.proofs.ReadTexts.{all_targets}
use Rattle.upd_sql.proofs.WholeLemmas.{targets_listed}
use Rattle.upd_sql.proofs.whole.targets_in.Goals as goal

pub returns : goal.returns
returns g c =
    c.all_of.ensures (λ it. it.targets) all_targets.plain
    (targets_listed (state g.S.Store c.args.tx.now.conn.now) (state g.S.Store c.all_of.new.tx.conn.now))
