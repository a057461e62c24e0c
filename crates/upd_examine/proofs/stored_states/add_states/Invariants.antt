use Rattle.upd_examine.proofs.Common.{◌≡◌, ◌++◌, map, take, own_state}
use Rattle.upd_examine.proofs.stored_states.add_states.Given as goal

abbrev pub invariant-loop-card : goal.invariant-loop-card
invariant-loop-card l = l.states.items ≡ l.fn.states.items ++ map (own_state l.cache.states) (take l.card-index l.cards)
