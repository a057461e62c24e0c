use Rattle.upd_memory.proofs.Common.{refl, keeps_still, read_lost}
use Rattle.upd_memory.proofs.mirror_rows.MirrorStoreRowStore.homes_of.Goals as goal

pub returns-in_err-homes-clause-leaves : goal.returns-in_err-homes-clause-leaves
returns-in_err-homes-clause-leaves g c = read_lost c.from_residual.result _ _ c.from_residual.ensures.1 (keeps_still _) refl refl
