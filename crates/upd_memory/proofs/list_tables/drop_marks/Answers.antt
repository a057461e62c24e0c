use Rattle.upd_memory.proofs.Common.{Bool, not, rules, filter_same, is_mark_of}
use Rattle.upd_records.specs.Rows.{MarkRow}
use Rattle.upd_memory.proofs.list_tables.drop_marks.Goals as goal

pub returns-clause-rest : goal.returns-clause-rest
returns-clause-rest c =
    let stays : MarkRow → Bool = λ x. not (is_mark_of c.args.site.now x) in
    filter_same _ stays _ (λ x b f k. search rules) _ _ c.retain.ensures.filtered
