use Rattle.upd_compile.proofs.Common.{◌==◌, ◌&&◌, map, take, FollowsMore, is_in}
use Rattle.upd_compile.proofs.callers.add_to_all.Given as goal

abbrev pub invariant-loop-position : goal.invariant-loop-position
invariant-loop-position l =
    FollowsMore (λ c d. is_in (take l.position-index l.positions) c && (l.caller == d)) (map (λ list. list.items) l.initial.lists.items)
    (map (λ list. list.items) l.lists.items)
