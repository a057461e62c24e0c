use Rattle.upd_memory.proofs.LoadLemmas.{same_moved}
use Rattle.upd_memory.proofs.made.by_place.Goals as goal

pub returns : goal.returns
returns c = same_moved _ _ c.sort_unstable_by_key.ensures.permutation
