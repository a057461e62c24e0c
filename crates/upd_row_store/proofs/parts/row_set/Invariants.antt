use Rattle.upd_row_store.proofs.Common.{take}
use Rattle.upd_row_store.proofs.PartRowLemmas.{AreCardsOf}
use Rattle.upd_row_store.proofs.parts.row_set.Given as goal

abbrev pub invariant-loop-row : goal.invariant-loop-row
invariant-loop-row l = AreCardsOf (take l.row-index l.cards) l.set
