use Rattle.upd_diff.proofs.Common.{sym}
use Rattle.upd_diff.proofs.LoopLemmas.{too_short}
use Rattle.upd_diff.proofs.row_changes.begins.Goals as goal

pub returns-then-later-history-clause-begins : goal.returns-then-later-history-clause-begins
returns-then-later-history-clause-begins c = sym (too_short _ _ c.if-later-history.true)
