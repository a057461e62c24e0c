use Rattle.upd_row_store.proofs.Common.{take}
use Rattle.upd_row_store.proofs.NamedLemmas.{AreNamesOf}
use Rattle.upd_row_store.proofs.parts.name_set.Given as goal

abbrev pub invariant-loop-row : goal.invariant-loop-row
invariant-loop-row l = AreNamesOf (take l.row-index l.cards) l.set
