use Rattle.upd_correct.proofs.Common.{take}
use Rattle.upd_correct.proofs.TextLineLemmas.{HasNoFeed}
use Rattle.upd_correct.proofs.edited_lines.first_line.Given as goal

abbrev pub invariant-loop-index : goal.invariant-loop-index
invariant-loop-index l = HasNoFeed (take l.index l.text)
