use Rattle.upd_apply.proofs.Common.{◌≡◌, drop, each_behind, range_decks, decks_purged}
use Rattle.upd_apply.proofs.purges.decks_purged.Given as goal

abbrev pub invariant-loop-range : goal.invariant-loop-range
invariant-loop-range l = each_behind (range_decks l.library) l.found.items (drop l.range-index l.ranges) ≡ decks_purged l.ranges l.library
