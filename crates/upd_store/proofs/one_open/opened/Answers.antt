use Rattle.upd_store.proofs.Common.{◌≡◌, ℕ, List, sym, ap, subst, ◌∙◌, arith, IsClean, Image, Lists, Trees, catalog_tree, library_schema, view, FindsTrees}
use Rattle.std.specs.Prelude.{Result, Ok, Err, IfOk, IfErr}
use Rattle.sqlite.specs.Files.{AreFoundIn, image_of}
use Rattle.upd_store.specs.OneOpen.{MayFind}
use Rattle.upd_store.proofs.one_open.opened.Goals as goal

ok_then : {T E : Type 0} (r : Result T E) {P Q : T → Type 0} → IfOk r P → ((x : T) → P x → Q x) → IfOk r Q
ok_then (Ok x) h f = f x h
ok_then (Err e) h f = tt

err_then : {T E : Type 0} (r : Result T E) {P Q : E → Type 0} → IfErr r P → ((e : E) → P e → Q e) → IfErr r Q
err_then (Ok x) h f = tt
err_then (Err e) h f = f e h

pub returns-in-Ok-stored-clause-below : goal.returns-in-Ok-stored-clause-below
returns-in-Ok-stored-clause-below g c = ok_then c.over_either.result c.over_either.ensures.below (λ l h. ok_then l h (λ s kept clean.
    let start = image_of g.D.Disk c.args.files in
    let store = c.in-Ok-stored.store in
    let early : IsClean (view store) = omega (arith, clean, kept.clean) in
    let it = c.in-Ok-stored.ensures early in
    let ours = kept.ours clean in
    let same = kept.same clean in
    (subst (FindsTrees start) (sym same) (it.finds (subst (λ (t : Trees). Lists (t catalog_tree) library_schema) same ours.lists)), ours)))

pub returns-in-Ok-stored-clause-found : goal.returns-in-Ok-stored-clause-found
returns-in-Ok-stored-clause-found g c = ok_then c.over_either.result c.over_either.ensures.above (λ l h. err_then l h (λ s taken clean is_open.
    let start = image_of g.D.Disk c.args.files in
    let store = c.in-Ok-stored.store in
    let early : IsClean (view store) = omega (arith, clean, taken.clean) in
    let it = c.in-Ok-stored.ensures early in
    let found = it.finds (taken.lists clean is_open) in
    let same = taken.trees clean is_open in
    record { holds = λ db held. same ∙ found.holds db held; reads = subst (AreFoundIn start) (sym same) found.reads }))

pub returns-in-Ok-stored-clause-ours : goal.returns-in-Ok-stored-clause-ours
returns-in-Ok-stored-clause-ours g c = ok_then c.over_either.result c.over_either.ensures.above
    (λ l h. err_then l h (λ s taken clean is_open. taken.ours clean is_open))

pub over_either-requires : goal.over_either-requires
over_either-requires g c clean = (c.in-Ok-stored.ensures clean).fresh

pub returns-in-Ok-stored-clause-only : goal.returns-in-Ok-stored-clause-only
returns-in-Ok-stored-clause-only g c =
    ok_then c.over_either.result c.over_either.ensures.below (λ l h. ok_then l h (λ s _. c.is_below.ensures c.if-not-is_below.false))
