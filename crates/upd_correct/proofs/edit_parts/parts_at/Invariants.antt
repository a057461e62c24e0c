use Rattle.upd_correct.proofs.Common.{map, Follows}
use Rattle.upd_correct.proofs.edit_parts.parts_at.Given as goal

abbrev pub invariant-loop-cut : goal.invariant-loop-cut
invariant-loop-cut l = Follows l.library l.set (map (λ run. run.items) l.runs.items) l.after
