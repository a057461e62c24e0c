use Rattle.upd_core.proofs.Common.{◌≡◌, length, take, sum_by, capped}
use Rattle.upd_core.proofs.counts.card_count.Given as goal

abbrev pub invariant-loop-deck : goal.invariant-loop-deck
invariant-loop-deck l = l.count ≡ capped (sum_by (λ d. length d.cards) (take l.deck-index l.decks))
