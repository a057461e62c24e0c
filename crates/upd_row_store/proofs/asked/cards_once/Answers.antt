use Rattle.upd_row_store.proofs.Common.{subst, dedup_is, IsPermutation, is_same_reference}
use Rattle.upd_row_store.proofs.AskedLemmas.{once_in_order, once_same}
use Rattle.upd_row_store.proofs.asked.cards_once.Goals as goal

pub returns-clause-order : goal.returns-clause-order
returns-clause-order c = once_in_order c.sort.new.self.items c.dedup.new.self.items c.in_ok-sort.ensures.sorted
    (dedup_is is_same_reference _ _ c.dedup.ensures.filtered)

pub returns-clause-same : goal.returns-clause-same
returns-clause-same c = λ test.
    once_same test c.args.cards.now c.sort.new.self.items c.dedup.new.self.items
    (subst (λ xs. IsPermutation xs c.sort.new.self.items) c.in_ok-once.ensures.items c.sort.ensures.permutation)
    (dedup_is is_same_reference _ _ c.dedup.ensures.filtered)
