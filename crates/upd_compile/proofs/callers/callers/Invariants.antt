use Rattle.upd_compile.proofs.Common.{◌&&◌, map, take, FollowsMore, follows, is_flagged}
use Rattle.upd_compile.proofs.callers.callers.Given as goal

abbrev pub invariant-loop-position : goal.invariant-loop-position
invariant-loop-position l =
    FollowsMore (λ c d. is_flagged (take l.position l.flags) d && follows (map (λ list. list.items) l.calls) d c)
    (map (λ list. list.items) l.initial.callers.items) (map (λ list. list.items) l.callers.items)
