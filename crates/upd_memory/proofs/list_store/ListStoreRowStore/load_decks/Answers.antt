use Rattle.upd_memory.proofs.Common.{refl, keeps_still, load_lost}
use Rattle.upd_memory.proofs.list_store.ListStoreRowStore.load_decks.Goals as goal

pub returns-in_err-library-clause-leaves : goal.returns-in_err-library-clause-leaves
returns-in_err-library-clause-leaves c = load_lost c.from_residual.result _ _ c.from_residual.ensures.1 (keeps_still _) refl refl
