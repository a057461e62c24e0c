use Rattle.upd_row_store.proofs.Common.{◌==◌, Bool, ℕ, not, rules, filter_same, dedup_is}
use Rattle.upd_row_store.proofs.HolderLemmas.{decks_found, once_by_age}
use Rattle.upd_row_store.proofs.asked.decks_by_age.Goals as goal

pub returns : goal.returns
returns c = λ cards rows l sound shown of.
    let stays : ℕ → Bool = λ x. not (x == 0) in
    let left = filter_same _ stays _ (λ x b f k. search rules) _ _ c.retain.ensures.filtered in
    decks_found cards rows l c.args.ages.items c.dedup.new.self.items sound shown of
    (once_by_age c.args.ages.items c.sort_unstable.new.self.items c.dedup.new.self.items (rw (← left) c.sort_unstable.ensures.permutation)
    c.sort_unstable.ensures.sorted (dedup_is (λ a b. a == b) _ _ c.dedup.ensures.filtered))
