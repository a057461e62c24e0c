use Rattle.upd_row_store.proofs.KeepingLemmas.{memory_is_lost}
use Rattle.upd_subcommands.proofs.parts_command.number_used.Goals as goal

pub returns-in-Err : goal.returns-in-Err
returns-in-Err c = memory_is_lost c.from.result c.from.ensures
