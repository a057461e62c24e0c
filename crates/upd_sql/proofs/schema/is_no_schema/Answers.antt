use Rattle.upd_sql.proofs.Common.{IsTrue, rules}
use Rattle.upd_sql.proofs.SchemaLemmas.{no_schema_is}
use Rattle.upd_sql.proofs.schema.is_no_schema.Goals as goal

pub returns-clause-right : goal.returns-clause-right
returns-clause-right c views =
    let tables : IsTrue c.is_empty.result = search rules in
    let indexes : IsTrue c.is_empty-2.result = search rules in
    no_schema_is c.args.schema.now (c.is_empty.ensures.0 tables) (c.is_empty-2.ensures.0 indexes) (c.is_empty-3.ensures.0 views)
