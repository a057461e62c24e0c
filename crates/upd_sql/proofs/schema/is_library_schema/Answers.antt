use Rattle.upd_sql.proofs.Common.{sym, ◌∙◌}
use Rattle.upd_sql.proofs.SchemaLemmas.{all_are}
use Rattle.upd_sql.proofs.schema.is_library_schema.Goals as goal

pub returns-clause-right : goal.returns-clause-right
returns-clause-right c all = c.has_first_tables.ensures.right all ∙ all_are

pub returns-clause-failed : goal.returns-clause-failed
returns-clause-failed c is = c.has_first_tables.ensures.failed (is ∙ sym all_are)
