use Rattle.upd_memory.proofs.Common.{refl, keeps_still, read_lost}
use Rattle.upd_memory.proofs.list_store.ListStoreRowStore.stored_runs.Goals as goal

pub returns-in_err-runs-clause-leaves : goal.returns-in_err-runs-clause-leaves
returns-in_err-runs-clause-leaves c = read_lost c.from_residual.result _ _ c.from_residual.ensures.1 (keeps_still _) refl refl
