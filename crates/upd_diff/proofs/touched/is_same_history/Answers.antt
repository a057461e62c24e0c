use Rattle.std.proofs.lemmas.Grind.{common_steps}
use Rattle.upd_diff.proofs.Common.{arith, sym}
use Rattle.upd_diff.proofs.TouchedLemmas.{other_history}
use Rattle.upd_diff.proofs.touched.is_same_history.Goals as goal

pub returns-then-history-other : goal.returns-then-history-other
returns-then-history-other c = sym (other_history _ _ c.if-history-other.true)

pub returns : goal.returns
returns c = grind (arith, common_steps)
