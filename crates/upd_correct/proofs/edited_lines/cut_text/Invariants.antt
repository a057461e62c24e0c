use Rattle.upd_correct.proofs.Common.{◌≡◌, ◌++◌, map, length, lines_in}
use Rattle.upd_correct.proofs.edited_lines.cut_text.Given as goal

abbrev pub invariant-loop-rest : goal.invariant-loop-rest
invariant-loop-rest l = map (λ t. t.now) l.lines.items ++ lines_in l.rest ≡ lines_in l.text

abbrev pub decreases-loop-rest : goal.decreases-loop-rest
decreases-loop-rest l = length l.rest
