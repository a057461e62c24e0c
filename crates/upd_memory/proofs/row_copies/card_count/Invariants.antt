use Rattle.upd_memory.proofs.Common.{◌≡◌, ◌+◌, length, flat_map}
use Rattle.upd_memory.proofs.row_copies.card_count.Given as goal

abbrev pub invariant-loop-cards : goal.invariant-loop-cards
invariant-loop-cards l = l.count + length (flat_map (λ e. e.1.items) l.cards-iterator) ≡ length (flat_map (λ e. e.1.items) l.decks.entries)
