use Rattle.upd_store.proofs.Common.{◌≡◌, ap, subst, sym, ◌∙◌, arith, IsClean, Lists, ShowsIn, Trees, View, catalog_tree, library_schema, state}
use Rattle.sqlite.specs.State.{HasCleanDisk}
use Rattle.upd_store.proofs.one_open.over_either.Goals as goal

pub returns-in-Ok-over_store-clause-above : goal.returns-in-Ok-over_store-clause-above
returns-in-Ok-over_store-clause-above g c =
    let mid = c.serves.new.store in
    let taken = c.in-Ok-over_store.ensures.taken in
    let conn = c.in-Ok-over_store.library.conn in
    record {
      clean = omega (arith, c.serves.ensures.quiet.clean, taken.clean);
      ours = taken.ours;
      trees = λ clean is_open.
          let early : IsClean (g.S.Store.view mid) = omega (arith, clean, taken.clean) in
          taken.trees clean is_open ∙ ap (λ (v : View). v.trees) (c.in-Ok.ensures.same early);
      lists = λ clean is_open.
          let early : IsClean (g.S.Store.view mid) = omega (arith, clean, taken.clean) in
          subst (λ (t : Trees). Lists (t catalog_tree) library_schema) (ap (λ (v : View). v.trees) (c.in-Ok.ensures.same early)) (taken.lists clean is_open);
    }

pub returns-then-is_served-clause-served : goal.returns-then-is_served-clause-served
returns-then-is_served-clause-served g c = λ clean it shown.
    let early : IsClean (g.S.Store.view c.args.store) = omega (arith, clean, c.serves.ensures.quiet.clean) in
    let kept = ap (λ (v : View). v.committed) (c.in-Ok.ensures.same clean) ∙ sym (c.requires early).clean in
    c.in-Ok.ensures.served clean c.if-is_served.true it (subst (λ (t : Trees). ShowsIn t it) kept shown)
