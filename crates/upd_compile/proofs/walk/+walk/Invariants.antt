use Rattle.upd_compile.proofs.Common.{◌≡◌, ◌+◌, drop, after_events, walk}
use Rattle.std.proofs.Common.{◌*◌}
use Rattle.upd_compile.proofs.walk.+walk.Given as goal

abbrev pub decreases-walk : goal.decreases-walk
decreases-walk l = 2 * l.deep + 1

abbrev pub decreases-meet : goal.decreases-meet
decreases-meet l = 2 * l.deep

abbrev pub invariant-walk-loop-card : goal.invariant-walk-loop-card
invariant-walk-loop-card l =
    after_events l.source.idents (walk l.deep l.source (record l.deck { cards = drop l.card-index l.deck.cards })) l.progress
    ≡ after_events l.source.idents (walk l.deep l.source l.deck) l.initial.progress
