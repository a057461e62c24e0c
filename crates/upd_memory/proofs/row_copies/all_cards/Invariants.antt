use Rattle.upd_memory.proofs.Common.{◌≡◌, ◌++◌, flat_map}
use Rattle.upd_memory.proofs.row_copies.all_cards.Given as goal

abbrev pub invariant-loop-cards : goal.invariant-loop-cards
invariant-loop-cards l = l.rows.items ++ flat_map (λ e. e.1.items) l.cards-iterator ≡ flat_map (λ e. e.1.items) l.decks.entries
