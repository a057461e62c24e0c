use Rattle.upd_sql.proofs.Common.{state}
use Rattle.upd_sql.proofs.ReadTexts.{all_idents}
use Rattle.upd_sql.proofs.WholeLemmas.{idents_listed}
use Rattle.upd_sql.proofs.whole.idents_in.Goals as goal

pub returns : goal.returns
returns g c =
    c.all_of.ensures (λ it. it.idents) all_idents.plain
    (idents_listed (state g.S.Store c.args.tx.now.conn.now) (state g.S.Store c.all_of.new.tx.conn.now))
