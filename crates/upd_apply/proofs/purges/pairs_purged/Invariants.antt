use Rattle.upd_apply.proofs.Common.{◌≡◌, drop, each_behind, pair_ages, pairs_purged}
use Rattle.upd_apply.proofs.purges.pairs_purged.Given as goal

abbrev pub invariant-loop-pair : goal.invariant-loop-pair
invariant-loop-pair l = each_behind (pair_ages l.library) l.found.items (drop l.pair-index l.pairs) ≡ pairs_purged l.pairs l.library
