use Rattle.upd_compile.proofs.Common.{◌≡◌, [], map, replicate}
use Rattle.upd_compile.proofs.callers.empty_lists.Given as goal

abbrev pub invariant-loop-position : goal.invariant-loop-position
invariant-loop-position l = map (λ list. list.items) l.lists.items ≡ replicate l._position []
