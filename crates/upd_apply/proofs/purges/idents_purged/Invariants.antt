use Rattle.upd_apply.proofs.Common.{◌≡◌, drop, each_behind, range_idents, idents_purged}
use Rattle.upd_apply.proofs.purges.idents_purged.Given as goal

abbrev pub invariant-loop-range : goal.invariant-loop-range
invariant-loop-range l = each_behind (range_idents l.library) l.found.items (drop l.range-index l.ranges) ≡ idents_purged l.ranges l.library
