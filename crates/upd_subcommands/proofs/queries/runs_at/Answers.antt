use Rattle.upd_row_store.proofs.KeepingLemmas.{memory_is_lost}
use Rattle.upd_subcommands.proofs.queries.runs_at.Goals as goal

pub returns-clause-lost : goal.returns-clause-lost
returns-clause-lost g c = memory_is_lost c.from.result c.from.ensures
