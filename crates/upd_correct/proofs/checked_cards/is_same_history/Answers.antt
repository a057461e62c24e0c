use Rattle.upd_correct.proofs.Common.{slice_eq-Decides}
use Rattle.upd_correct.proofs.SameLemmas.{entry_Decides}
use Rattle.upd_correct.proofs.checked_cards.is_same_history.Goals as goal

pub returns : goal.returns
returns c = slice_eq-Decides entry_Decides _ _ _ c.eq.ensures
