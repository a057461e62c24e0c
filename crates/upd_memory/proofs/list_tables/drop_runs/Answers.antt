use Rattle.upd_memory.proofs.Common.{Bool, not, rules, filter_same}
use Rattle.upd_records.specs.Rows.{RunView}
use Rattle.upd_row_store.specs.Tables.{is_settled}
use Rattle.upd_memory.proofs.list_tables.drop_runs.Goals as goal

pub returns : goal.returns
returns c =
    let stays : RunView → Bool = λ x. not (is_settled c.args.site.now c.args.number x) in
    filter_same _ stays _ (λ x b f k. search rules) _ _ c.retain.ensures.filtered
