use Rattle.upd_yank.proofs.Common.{◌<◌, ◌^◌, length, ap, sym, ◌∙◌, subst, CountedView, LibraryView, IsSound, CacheView, IsRight}
use Rattle.upd_yank.proofs.RightLemmas.{all_touched, built_right}
use Rattle.upd_yank.proofs.cache.Cache.build.Goals as goal

pub returns-clause-right : goal.returns-clause-right
returns-clause-right c = λ sound few.
    let l = c.new-counted.result.library in
    let library = ap (λ (v : CountedView). v.library) c.new-counted.ensures in
    let yanks = c.deref.ensures.value ∙ c.in_ok-yanks.ensures in
    let others = c.deref-2.ensures.value ∙ c.in_ok-others.ensures in
    let all = all_touched l c.new-touched.result c.add_all.new.self c.add_all-2.new.self c.deref.result.now c.deref-2.result.now yanks others
    c.in_ok-add_all.ensures c.in_ok-add_all-2.ensures in
    let left : CacheView = record { states = c.in_ok-left.left.statuses; counts = c.in_ok-left.left.found.counts; work = 0 } in
    subst (λ x. IsRight x left) library (
    built_right l c.add_all-2.new.self c.new.result c.new-2.result c.in_ok-left.left.found.statuses.items left (subst IsSound (sym library) sound)
    (subst (λ (x : LibraryView). length x.yanks < 2 ^ 32) (sym library) few) c.new.ensures all c.in_ok-left.ensures.counts c.in_ok-left.ensures.found
    c.in_ok-left.ensures.statuses)
