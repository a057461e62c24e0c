use Rattle.upd_compile.proofs.Common.{◌≡◌, map, take, called_positions}
use Rattle.upd_compile.proofs.chains.calls.Given as goal

abbrev pub invariant-loop-deck : goal.invariant-loop-deck
invariant-loop-deck l = map (λ list. list.items) l.calls.items ≡ map (called_positions l.source) (take l.deck-index l.decks)
