use Rattle.upd_correct.proofs.Common.{slice_eq-Decides}
use Rattle.upd_correct.proofs.SameLemmas.{target_Decides}
use Rattle.upd_correct.proofs.checked_cards.are_same_targets.Goals as goal

pub returns : goal.returns
returns c = slice_eq-Decides target_Decides _ _ _ c.eq.ensures
