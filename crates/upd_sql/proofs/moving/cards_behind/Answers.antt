use Rattle.upd_sql.proofs.Common.{◌≡◌, filter, [], ◌∷◌, ◌∙◌, state, num}
use Rattle.upd_row_store.specs.Shifts.{is_behind}
use Rattle.upd_sql.specs.declared.moving_texts.TheConstants.{CARDS_BEHIND}
use Rattle.upd_sql.proofs.Finds.{on_value}
use Rattle.upd_sql.proofs.MovingEffects.{cards_found}
use Rattle.upd_sql.proofs.MovingTexts.{cards_behind}
use Rattle.upd_sql.proofs.WholeLemmas.{looked}
use Rattle.upd_sql.proofs.moving.cards_behind.Goals as goal

pub returns : goal.returns
returns g c =
    let said = rw (c.number.ensures, c.number-2.ensures) at c.in_ok-rows.ensures in
    let deck = c.args.deck in
    let from = c.args.from in
    let old = state g.S.Store c.args.tx.now.conn.now in
    let new = state g.S.Store c.rows_of.new.tx.conn.now in
    let rows = c.in_ok-rows.rows in
    record {
      same_reference = said.same_reference;
      does =
          looked (λ it found. found.items ≡ filter (is_behind deck from) it.cards) (λ rows. rows.items) CARDS_BEHIND.now (num deck ∷ num from ∷ [])
          old new rows c.each.result cards_behind.plain said.does
          (λ it h shown. on_value c.each.result c.each.ensures.found
          (λ found says. says (filter (is_behind deck from) it.cards) (c.deref.ensures.value ∙ cards_found deck from old new rows.items it h shown)));
    }
