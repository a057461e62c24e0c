use Rattle.upd_sql.proofs.Common.{IsTrue, sym, ◌∙◌, rules}
use Rattle.upd_sql.proofs.SchemaLemmas.{first_are}
use Rattle.upd_sql.proofs.schema.has_first_tables.Goals as goal

pub returns-clause-right : goal.returns-clause-right
returns-clause-right c all =
    let empty : IsTrue c.is_empty.result = search rules in
    let tables : IsTrue c.are_tables.result = search rules in
    first_are c.args.schema.now c.args.count (c.is_empty.ensures.0 empty) (sym c.as_slice.ensures ∙ c.are_tables.ensures.right tables)
    (sym c.as_slice-2.ensures ∙ c.are_indexes.ensures.right all)
