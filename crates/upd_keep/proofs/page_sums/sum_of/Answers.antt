use Rattle.upd_keep.proofs.Common.{refl}
use Rattle.upd_keep.proofs.page_sums.sum_of.Goals as goal

pub returns : goal.returns
returns c = rw (c.to_le_bytes-a.ensures, c.to_le_bytes-b.ensures, c.checksum_of-first.ensures) refl
