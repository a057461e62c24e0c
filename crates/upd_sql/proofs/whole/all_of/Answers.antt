use Rattle.sqlite.specs.Values.{bound}
use Rattle.upd_sql.proofs.Common.{sym, subst, ◌∙◌, state, IsSame}
use Rattle.upd_sql.proofs.Finds.{on_value}
use Rattle.upd_sql.proofs.WholeLemmas.{looked}
use Rattle.upd_sql.proofs.whole.all_of.Goals as goal

pub returns : goal.returns
returns g c listed plain means =
    let said = c.in_ok-rows.ensures in
    let old = state g.S.Store c.args.tx.now.conn.now in
    let new = state g.S.Store c.rows_of.new.tx.conn.now in
    record {
      same_reference = said.same_reference;
      does =
          looked (λ it found. IsSame found.items (listed it)) (λ rows. rows.items) c.args.sql.now (bound c.args.params.now) old new
          c.in_ok-rows.rows c.each.result plain said.does (λ it h shown. on_value c.each.result c.each.ensures.found
          (λ found says. let from = means it h c.in_ok-rows.rows.items shown in
          subst (λ xs. IsSame xs (listed it)) (sym (says from.0 (c.deref.ensures.value ∙ from.1))) from.2));
    }
