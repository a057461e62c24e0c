use Rattle.upd_row_store.proofs.Common.{rules, always_returns_same}
use Rattle.upd_row_store.proofs.sorted_rows.entries_by_card.Goals as goal

pub returns-clause-sorted : goal.returns-clause-sorted
returns-clause-sorted c = c.sort_unstable_by_key.ensures.sorted (λ r. (r.card, r.ord)) (always_returns_same _ _ _ (λ a r f k. search rules))
