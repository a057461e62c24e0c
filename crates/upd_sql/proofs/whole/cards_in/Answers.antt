use Rattle.upd_sql.proofs.Common.{state}
use Rattle.upd_sql.proofs.ReadTexts.{all_cards}
use Rattle.upd_sql.proofs.WholeLemmas.{cards_listed}
use Rattle.upd_sql.proofs.whole.cards_in.Goals as goal

pub returns : goal.returns
returns g c =
    c.all_of.ensures (λ it. it.cards) all_cards.plain
    (cards_listed (state g.S.Store c.args.tx.now.conn.now) (state g.S.Store c.all_of.new.tx.conn.now))
