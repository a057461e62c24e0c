use Rattle.upd_apply.proofs.Common.{◌≡◌, drop, each_behind, each, range_ages}
use Rattle.upd_apply.proofs.compile.range_ages.Given as goal

abbrev pub invariant-loop-range : goal.invariant-loop-range
invariant-loop-range l = each_behind (range_ages l.library) l.found.items (drop l.range-index l.ranges) ≡ each (range_ages l.library) l.ranges
