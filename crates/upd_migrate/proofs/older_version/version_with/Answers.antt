use Rattle.upd_migrate.proofs.Common.{ap, ◌∙◌, first_tables}
use Rattle.upd_migrate.proofs.Versions.{first_is}
use Rattle.upd_migrate.proofs.older_version.version_with.Goals as goal

pub returns-then-has_first_tables-clause-schema : goal.returns-then-has_first_tables-clause-schema
returns-then-has_first_tables-clause-schema c =
    c.has_first_tables.ensures.right c.if-has_first_tables.true ∙ ap first_tables c.table_count.ensures.value ∙ first_is c.match-number.version
