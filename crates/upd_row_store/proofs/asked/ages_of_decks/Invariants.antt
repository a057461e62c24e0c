use Rattle.upd_row_store.proofs.Common.{◌≡◌, map, take, filter, is_asked}
use Rattle.upd_row_store.proofs.asked.ages_of_decks.Given as goal

abbrev pub invariant-loop-row : goal.invariant-loop-row
invariant-loop-row l = l.ages.items ≡ map (λ r. r.deck) (filter (λ r. is_asked l.cards r.card) (take l.row-index l.rows))
