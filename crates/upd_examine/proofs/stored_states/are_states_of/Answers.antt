use Rattle.upd_examine.proofs.Common.{sym, subst, ◌↔◌, IsTrue, IsSame, AreStatesOf, AreCounts, own_states}
use Rattle.upd_examine.proofs.StateTestLemmas.{states_decided}
use Rattle.upd_examine.proofs.stored_states.are_states_of.Goals as goal

pub returns-clause-ok : goal.returns-clause-ok
returns-clause-ok c = λ sound few.
    let l = c.args.library.now in
    let stored = c.args.stored.now in
    let cache = c.in_ok-cache.cache in
    let statuses : IsTrue c.in_ok-statuses.statuses ↔ IsSame stored.states.items (own_states cache.states l) =
    subst (λ xs. IsTrue c.in_ok-statuses.statuses ↔ IsSame xs (own_states cache.states l)) c.deref.ensures.value c.in_ok-statuses.ensures in
    let counts : IsTrue c.in_ok-counts.counts ↔ AreCounts cache.counts stored.counts.items l.yanks =
    subst (λ ys. IsTrue c.in_ok-counts.counts ↔ AreCounts cache.counts stored.counts.items ys) c.yanks.ensures
    (subst (λ xs. IsTrue c.in_ok-counts.counts ↔ AreCounts cache.counts xs c.yanks.result.now) c.deref-2.ensures.value c.in_ok-counts.ensures) in
    subst (λ r. IsTrue r ↔ AreStatesOf stored l) (sym c.both_hold.ensures)
    (states_decided l cache stored _ _ sound (c.in_ok-cache.ensures.right sound few) statuses counts)
