use Rattle.upd_correct.proofs.Common.{◌≡◌, map, take, new_decks}
use Rattle.upd_correct.proofs.plan.added_decks.Given as goal

abbrev pub invariant-loop-deck : goal.invariant-loop-deck
invariant-loop-deck l = map (λ d. d.now) l.added.items ≡ new_decks l.library (take l.deck-index l.decks)
