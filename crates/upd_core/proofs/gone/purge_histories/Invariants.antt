use Rattle.upd_core.proofs.Common.{◌≡◌, map, take, drop, ◌++◌, without_entries, is_gone}
use Rattle.upd_core.proofs.gone.purge_histories.Given as goal

abbrev pub invariant-loop-card : goal.invariant-loop-card
invariant-loop-card l =
    l.cards ≡ map (without_entries (is_gone l.gone)) (take l.card-index l.initial.cards) ++ drop l.card-index l.initial.cards
