use Rattle.upd_row_store.proofs.Common.{drop}
use Rattle.upd_row_store.specs.Assembling.{AreAgesOf}
use Rattle.upd_row_store.proofs.assemble.held_ages.Given as goal

abbrev pub invariant-loop-i : goal.invariant-loop-i
invariant-loop-i l = AreAgesOf (drop l.i l.idents) l.ages
