use Rattle.upd_store.proofs.Common.{◌≡◌, sym, ap, subst₂, ◌∙◌, arith, Lists, Trees, catalog_tree, library_schema, Schema, state}
use Rattle.sqlite.specs.Effect.{Database}
use Rattle.sqlite.specs.State.{HasCleanDisk}
use Rattle.upd_store.proofs.one_open.over_store.Goals as goal

pub returns-in-Ok-adopt-clause-taken : goal.returns-in-Ok-adopt-clause-taken
returns-in-Ok-adopt-clause-taken g c =
    let conn = c.in-Ok.conn in
    let over = c.in-Ok.ensures in
    let took = c.in-Ok-adopt.ensures in
    record {
      clean = omega (arith, over.clean, took.survives.clean);
      ours = took.ours;
      trees = λ clean is_open.
          let was : HasCleanDisk (state g.S.Store conn) = omega (arith, clean, took.survives.clean) in
          ap (λ (d : Database). d.trees) (took.same clean is_open ∙ sym (over.opens was).0.clean) ∙ over.trees was;
      lists = λ clean is_open.
          let was : HasCleanDisk (state g.S.Store conn) = omega (arith, clean, took.survives.clean) in
          let first = over.opens was in
          let schema = ap (λ (d : Database). d.schema) (sym (took.same clean is_open)) ∙ took.ours clean is_open in
          let trees = ap (λ (d : Database). d.trees) (sym first.0.clean) ∙ over.trees was in
          subst₂ (λ (t : Trees) (s : Schema). Lists (t catalog_tree) s) trees schema (first.1 first.0.is_open).1.lists;
    }
