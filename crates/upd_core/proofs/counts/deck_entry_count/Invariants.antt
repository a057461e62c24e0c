use Rattle.upd_core.proofs.Common.{◌≡◌, length, take, sum_by, capped}
use Rattle.upd_core.proofs.counts.deck_entry_count.Given as goal

abbrev pub invariant-loop-deck : goal.invariant-loop-deck
invariant-loop-deck l = l.count ≡ capped (sum_by (λ d. sum_by (λ c. length c.history) d.cards) (take l.deck-index l.decks))
