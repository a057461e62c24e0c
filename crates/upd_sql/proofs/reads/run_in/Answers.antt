use Rattle.upd_sql.proofs.Common.{◌≡◌, filter, [], ◌∷◌, ◌∙◌, Text, state, is_run, run_at, num}
use Rattle.upd_sql.specs.declared.texts.TheConstants.{RUN_OF_KEY}
use Rattle.upd_sql.proofs.Finds.{first_is_run, runs_found, on_value}
use Rattle.upd_sql.proofs.ReadTexts.{run_of_key}
use Rattle.upd_sql.proofs.WholeLemmas.{looked}
use Rattle.upd_sql.proofs.reads.run_in.Goals as goal

pub returns : goal.returns
returns g c =
    let said = rw (c.in_ok-number.ensures.value, c.site.ensures) at c.in_ok-rows.ensures in
    let site = c.args.site.now in
    let n = c.args.number in
    let old = state g.S.Store c.args.tx.now.conn.now in
    let new = state g.S.Store c.rows_of.new.tx.conn.now in
    let rows = c.in_ok-rows.rows in
    record {
      same_reference = said.same_reference;
      does =
          looked (λ it run. run ≡ run_at site n it) (λ rows. rows.items) RUN_OF_KEY.now (Text site ∷ num n ∷ []) old new rows c.first_run.result
          run_of_key.plain
          said.does (λ it h shown. on_value c.first_run.result c.first_run.ensures.found
          (λ x says. says (filter (is_run site n) it.runs) (c.deref.ensures.value ∙ runs_found old new rows.items it h site n shown) ∙ first_is_run site n it));
    }
