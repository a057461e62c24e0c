use Rattle.upd_yank.proofs.Common.{ap, sym, ◌∙◌, subst, count_in, count_on, is_touched, live_now, views, AreCountable}
use Rattle.upd_yank.proofs.Common.{was_active}
use Rattle.upd_yank.proofs.LeftLemmas.{left_found}
use Rattle.upd_yank.proofs.SoundCascadeLemmas.{views_are}
use Rattle.upd_yank.proofs.cascade.update_statuses.Goals as goal

pub returns-clause-counts : goal.returns-clause-counts
returns-clause-counts c = λ countable t.
    let b = c.args.before.now in
    let l = c.args.counted.now.library in
    let yanks = c.deref.ensures.value ∙ c.in_ok-yanks.ensures in
    let fits = subst AreCountable (sym (ap views yanks ∙ views_are l)) countable in
    ap (λ n. count_in n t) c.in_ok-judge_others.ensures.counts ∙ c.in_ok-found.ensures.counts fits t
    ∙ ap (λ k. count_on (live_now (is_touched b.touched.now) (was_active b.statuses.now) (count_in b.counts.now) k) t) yanks

pub returns-clause-found : goal.returns-clause-found
returns-clause-found c = λ countable.
    let b = c.args.before.now in
    let l = c.args.counted.now.library in
    let yanks = c.deref.ensures.value ∙ c.in_ok-yanks.ensures in
    let others = c.deref-2.ensures.value ∙ c.in_ok-others.ensures in
    let fits = subst AreCountable (sym (ap views yanks ∙ views_are l)) countable in
    left_found (is_touched b.touched.now) (was_active b.statuses.now) (count_in b.counts.now) l c.deref.result.now c.deref-2.result.now
    (count_in c.in_ok-found.found.counts) _ _ yanks others
    (c.in_ok-found.ensures.statuses fits) (c.in_ok-found.ensures.counts fits) c.in_ok-judge_others.ensures.statuses
