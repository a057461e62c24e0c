use Rattle.upd_row_store.proofs.Common.{take}
use Rattle.upd_row_store.proofs.AskedLemmas.{IsSetOf}
use Rattle.upd_row_store.proofs.asked.card_set.Given as goal

abbrev pub invariant-loop-card : goal.invariant-loop-card
invariant-loop-card l = IsSetOf (take l.card-index l.cards) l.set
