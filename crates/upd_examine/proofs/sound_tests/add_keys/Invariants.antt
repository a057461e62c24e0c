use Rattle.upd_examine.proofs.Common.{◌≡◌, ◌++◌, map, take, key_of}
use Rattle.upd_examine.proofs.sound_tests.add_keys.Given as goal

abbrev pub invariant-loop-card : goal.invariant-loop-card
invariant-loop-card l = l.keys.items ≡ l.fn.keys.items ++ map key_of (take l.card-index l.cards)
