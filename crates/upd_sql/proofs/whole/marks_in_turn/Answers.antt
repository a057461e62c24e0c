use Rattle.upd_sql.proofs.Common.{◌≡◌, [], ◌∙◌, state}
use Rattle.upd_sql.proofs.Finds.{on_value}
use Rattle.upd_sql.proofs.ReadTexts as query
use Rattle.upd_sql.proofs.WholeLemmas.{looked, marks_turned}
use Rattle.upd_sql.specs.declared.texts.TheConstants as sql
use Rattle.upd_sql.proofs.whole.marks_in_turn.Goals as goal

pub returns : goal.returns
returns g c =
    let said = c.in_ok-rows.ensures in
    let old = state g.S.Store c.args.tx.now.conn.now in
    let new = state g.S.Store c.rows_of.new.tx.conn.now in
    record {
      same_reference = said.same_reference;
      does =
          looked (λ it found. found.items ≡ it.settled) (λ rows. rows.items) sql.MARKS_IN_TURN.now [] old new c.in_ok-rows.rows c.each.result
          query.marks_in_turn.plain said.does (λ it h shown. on_value c.each.result c.each.ensures.found
          (λ found says. says it.settled (c.deref.ensures.value ∙ marks_turned old new it h c.in_ok-rows.rows.items shown)));
    }
