use Rattle.upd_examine.proofs.Common.{sym, subst, ◌↔◌, IsTrue, AreCounts}
use Rattle.upd_examine.proofs.KeyLemmas.{exact_targets}
use Rattle.upd_examine.proofs.StateTestLemmas.{counts_tested}
use Rattle.upd_examine.proofs.stored_states.are_counts.Goals as goal

pub are_apart-apart-requires : goal.are_apart-apart-requires
are_apart-apart-requires c = exact_targets

pub returns : goal.returns
returns c =
    let counts = c.args.cache.now.counts in
    let stored = c.args.stored.now in
    let yanks = c.args.yanks.now in
    subst (λ r. IsTrue r ↔ AreCounts counts stored yanks) (sym c.all_three.ensures)
    (counts_tested counts stored _ yanks _ _ _ _ c.in_ok-counts.ensures c.in_ok-targets.ensures c.are_apart-apart.ensures
    c.are_each_right-each.ensures c.are_all_counted-all.ensures)
