use Rattle.upd_yank.proofs.Common.{◌≡◌, true, map, ap, sym, ◌∙◌, subst, arith, list_any, AllByRecursion, change_view, done_all, ShowsStates, same_ref}
use Rattle.upd_yank.proofs.Common.{row_changes_state, CacheView, IsRunBetween, update_changes}
use Rattle.upd_yank.proofs.EnoughLemmas.{sees}
use Rattle.upd_yank.proofs.OnlyLemmas.{update_only}
use Rattle.upd_yank.proofs.RightLemmas.{least_work, updated_right, updates_found}
use Rattle.upd_yank.proofs.StatusChangeLemmas.{update_shows}
use Rattle.upd_yank.proofs.cache.Cache.settle.Goals as goal

pub returns-clause-right : goal.returns-clause-right
returns-clause-right c = λ old new enough between.
    let l = c.args.counted.now.library in
    let run = c.args.applied.now.touched.items in
    let cache : CacheView = record { states = c.self.inside.statuses; counts = c.self.inside.counts; work = c.self.inside.work } in
    let left : CacheView = record { states = c.in_ok-left.left.statuses; counts = c.in_ok-left.left.found.counts; work = c.len.result } in
    let known = subst (λ k. IsRunBetween old new k run) (sym c.self.view_is) between in
    let same = λ (r : _). c.in_ok-touched.ensures r ∙ ap (list_any (same_ref r)) c.deref.ensures.value in
    (updated_right old new l cache run c.in_ok-touched.touched c.in_ok-left.left.found.statuses.items (sees run old new l enough) known same
    c.in_ok-left.ensures.found left c.in_ok-left.ensures.counts c.in_ok-left.ensures.statuses).0

pub returns-clause-work : goal.returns-clause-work
returns-clause-work c = λ old new enough between.
    let l = c.args.counted.now.library in
    let run = c.args.applied.now.touched.items in
    let cache : CacheView = record { states = c.self.inside.statuses; counts = c.self.inside.counts; work = c.self.inside.work } in
    let left : CacheView = record { states = c.in_ok-left.left.statuses; counts = c.in_ok-left.left.found.counts; work = c.len.result } in
    let known = subst (λ k. IsRunBetween old new k run) (sym c.self.view_is) between in
    let same = λ (r : _). c.in_ok-touched.ensures r ∙ ap (list_any (same_ref r)) c.deref.ensures.value in
    let both = updated_right old new l cache run c.in_ok-touched.touched c.in_ok-left.left.found.statuses.items (sees run old new l enough) known same
    c.in_ok-left.ensures.found left c.in_ok-left.ensures.counts c.in_ok-left.ensures.statuses in
    omega (arith, c.len.ensures, c.in_ok-left.left.found.statuses.ok.0, both.1)

pub returns-clause-least : goal.returns-clause-least
returns-clause-least c = λ old new enough between.
    let more = least_work old new c.args.self.now c.args.applied.now.touched.items between in
    let is = returns-clause-work c old new enough between in
    omega (arith, more, is)

pub returns-clause-changes : goal.returns-clause-changes
returns-clause-changes c = λ old new enough between taken rows shown.
    let l = c.args.counted.now.library in
    let run = c.args.applied.now.touched.items in
    let gone = map change_view c.args.applied.now.changes.items in
    let cache : CacheView = record { states = c.self.inside.statuses; counts = c.self.inside.counts; work = c.self.inside.work } in
    let left : CacheView = record { states = c.in_ok-left.left.statuses; counts = c.in_ok-left.left.found.counts; work = c.len.result } in
    let found = c.in_ok-left.left.found.statuses.items in
    let known = subst (λ k. IsRunBetween old new k run) (sym c.self.view_is) between in
    let same = λ (r : _). c.in_ok-touched.ensures r ∙ ap (list_any (same_ref r)) c.deref.ensures.value in
    let seen = sees run old new l enough in
    let right = (updated_right old new l cache run c.in_ok-touched.touched found seen known same c.in_ok-left.ensures.found left
    c.in_ok-left.ensures.counts c.in_ok-left.ensures.statuses).0 in
    let updates = updates_found old new l cache run c.in_ok-touched.touched found seen known same c.in_ok-left.ensures.found left gone right taken in
    let row_changes = c.in_ok-changes.ensures
    ∙ ap (λ cs. update_changes cache.states found left.states (map change_view cs) cache.counts left.counts) c.deref-2.ensures.value in
    subst (λ cs. ShowsStates (done_all cs (done_all gone rows)) new) (sym row_changes)
    (update_shows old new cache.states found left.states gone cache.counts left.counts rows updates shown)

pub returns-clause-only : goal.returns-clause-only
returns-clause-only c =
    let gone = map change_view c.args.applied.now.changes.items in
    let known = c.self.inside.statuses in
    let found = c.in_ok-left.left.found.statuses.items in
    let kept = c.in_ok-left.left.statuses in
    let had = c.self.inside.counts in
    let has = c.in_ok-left.left.found.counts in
    let row_changes = c.in_ok-changes.ensures ∙ ap (λ cs. update_changes known found kept (map change_view cs) had has) c.deref-2.ensures.value in
    subst (AllByRecursion (λ c. row_changes_state c ≡ true)) (sym row_changes) (update_only known found kept gone had has)
