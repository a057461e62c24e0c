use Rattle.upd_sql.proofs.Common.{◌≡◌, [], ◌∙◌, state}
use Rattle.upd_sql.proofs.Finds.{on_value}
use Rattle.upd_sql.proofs.MovingEffects.{cards_turned}
use Rattle.upd_sql.proofs.MovingTexts as text
use Rattle.upd_sql.proofs.WholeLemmas.{looked}
use Rattle.upd_sql.specs.declared.moving_texts.TheConstants as sql
use Rattle.upd_sql.proofs.many_decks.cards_in_turn.Goals as goal

pub returns : goal.returns
returns g c =
    let said = c.in_ok-rows.ensures in
    let old = state g.S.Store c.args.tx.now.conn.now in
    let new = state g.S.Store c.rows_of.new.tx.conn.now in
    record {
      same_reference = said.same_reference;
      does =
          looked (λ it found. found.items ≡ it.cards) (λ rows. rows.items) sql.CARDS_IN_TURN.now [] old new c.in_ok-rows.rows c.each.result
          text.cards_in_turn.plain said.does (λ it h shown. on_value c.each.result c.each.ensures.found
          (λ found says. says it.cards (c.deref.ensures.value ∙ cards_turned old new c.in_ok-rows.rows.items it h shown)));
    }
