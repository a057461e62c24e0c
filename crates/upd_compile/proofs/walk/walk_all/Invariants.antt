use Rattle.upd_compile.proofs.Common.{◌≡◌, map, drop, flat_map, after_events, walk}
use Rattle.upd_compile.proofs.walk.walk_all.Given as goal

abbrev pub invariant-loop-deck : goal.invariant-loop-deck
invariant-loop-deck l =
    after_events l.source.idents (flat_map (walk l.deep l.source) (map (λ d. d.now) (drop l.deck-index l.decks))) l.progress
    ≡ after_events l.source.idents (flat_map (walk l.deep l.source) (map (λ d. d.now) l.decks)) l.initial.progress
