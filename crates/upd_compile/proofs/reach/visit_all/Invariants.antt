use Rattle.upd_compile.proofs.Common.{take, VisitsMore, is_in}
use Rattle.upd_compile.proofs.reach.visit_all.Given as goal

abbrev pub invariant-loop-position : goal.invariant-loop-position
invariant-loop-position l =
    VisitsMore (is_in (take l.position-index l.positions)) l.initial.flags.items l.flags.items l.initial.work.items l.work.items
