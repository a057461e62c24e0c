use Rattle.upd_core.proofs.Common.{◌≡◌, take}
use Rattle.upd_core.proofs.active_refs.ActiveDeckRef.copy.Given as goal

abbrev pub invariant-loop-card : goal.invariant-loop-card
invariant-loop-card l = (l.deck.ident ≡ l.self.ident) × (l.deck.cards ≡ take l.card-index l.self.cards)
