use Rattle.upd_row_store.proofs.Common.{take}
use Rattle.upd_row_store.proofs.PartRowLemmas.{AreAges}
use Rattle.upd_row_store.proofs.parts.age_set.Given as goal

abbrev pub invariant-loop-age : goal.invariant-loop-age
invariant-loop-age l = AreAges (take l.age-index l.ages) l.set
