use Rattle.upd_diff.proofs.Common.{◌∷◌, map, drop, AreRising}
use Rattle.upd_diff.proofs.touched.are_rising.Given as goal

abbrev pub invariant-loop-deck : goal.invariant-loop-deck
invariant-loop-deck l = AreRising (l.last ∷ map (λ d. d.ident) (drop l.deck-index l.decks)) → AreRising (0 ∷ map (λ d. d.ident) l.decks)
