use Rattle.upd_memory.proofs.Common.{refl, arith, inl, load_lost}
use Rattle.upd_memory.proofs.mirror_rows.MirrorStoreRowStore.load_decks.Goals as goal

pub returns-in_err-library-clause-leaves : goal.returns-in_err-library-clause-leaves
returns-in_err-library-clause-leaves g c = load_lost c.from_residual.result _ _ c.from_residual.ensures.1 (record {
  later = record { honest = λ h. h; was_open = λ h o. o; closes = λ h o. inl o; disk_counts = omega arith; counts = omega arith };
  same = λ h o. refl;
  crash = λ h i may. may;
}) refl refl
