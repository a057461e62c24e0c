use Rattle.upd_sql.proofs.Common.{◌≡◌, filter, [], ◌∷◌, ◌∙◌, Text, state, is_mark_of, mark_at}
use Rattle.upd_sql.specs.declared.texts.TheConstants.{MARK_OF_SITE}
use Rattle.upd_sql.proofs.Finds.{first_is_mark, marks_found, on_value}
use Rattle.upd_sql.proofs.ReadTexts.{mark_of_site}
use Rattle.upd_sql.proofs.WholeLemmas.{looked}
use Rattle.upd_sql.proofs.reads.mark_in.Goals as goal

pub returns : goal.returns
returns g c =
    let said = rw c.site.ensures at c.in_ok-rows.ensures in
    let site = c.args.site.now in
    let old = state g.S.Store c.args.tx.now.conn.now in
    let new = state g.S.Store c.rows_of.new.tx.conn.now in
    let rows = c.in_ok-rows.rows in
    record {
      same_reference = said.same_reference;
      does =
          looked (λ it mark. mark ≡ mark_at site it) (λ rows. rows.items) MARK_OF_SITE.now (Text site ∷ []) old new rows c.first_mark.result mark_of_site.plain
          said.does (λ it h shown. on_value c.first_mark.result c.first_mark.ensures.found
          (λ x says. says (filter (is_mark_of site) it.settled) (c.deref.ensures.value ∙ marks_found old new rows.items it h site shown)
          ∙ first_is_mark site it));
    }
