use Rattle.upd_examine.proofs.Common.{◌≡◌, drop, are_yanks_from}
use Rattle.upd_examine.proofs.sound_tests.are_yanks_in_order.Given as goal

abbrev pub invariant-loop-card : goal.invariant-loop-card
invariant-loop-card l = are_yanks_from l.greatest (drop l.card-index l.yanks) ≡ are_yanks_from 0 l.yanks
