use Rattle.upd_row_store.proofs.Common.{rules, always_returns_same}
use Rattle.upd_row_store.proofs.KeyLemmas.{sorted_by_key}
use Rattle.upd_row_store.proofs.asked.states_by_key.Goals as goal

pub returns-clause-order : goal.returns-clause-order
returns-clause-order c = record {
  states = c.sort_unstable_by_key.ensures.sorted (λ p. p.0) (always_returns_same _ _ _ (λ a r f k. search rules));
  counts = sorted_by_key (λ p. p.0) c.sort_unstable_by_key-2.new.self.items
      (c.sort_unstable_by_key-2.ensures.sorted (λ p. p.0) (always_returns_same _ _ _ (λ a r f k. search rules)));
}
