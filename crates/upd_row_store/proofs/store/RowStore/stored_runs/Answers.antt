use Rattle.upd_row_store.proofs.Common.{Err, refl}
use Rattle.upd_row_store.proofs.StoreLemmas.{keeps_still, read_lost}
use Rattle.upd_row_store.proofs.store.RowStore.stored_runs.Goals as goal

pub returns-clause-leaves : goal.returns-clause-leaves
returns-clause-leaves g c = read_lost (Err c.without_line.result) _ _ c.without_line.ensures (keeps_still _) refl refl
