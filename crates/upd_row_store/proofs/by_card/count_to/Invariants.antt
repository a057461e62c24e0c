use Rattle.upd_row_store.proofs.Common.{◌≡◌, ◌-◌, ◌≤◌, length, true, AllWithin, is_le, card_order}
use Rattle.upd_row_store.proofs.by_card.count_to.Given as goal

abbrev pub invariant-loop-count : goal.invariant-loop-count
invariant-loop-count g l = record {
  within : l.count ≤ length l.rows;
  front : AllWithin (λ r. is_le (card_order (g.T.OfCard.of r) l.card) ≡ true) l.rows 0 l.count;
}

abbrev pub decreases-loop-count : goal.decreases-loop-count
decreases-loop-count g l = length l.rows - l.count
