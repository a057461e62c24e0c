use Rattle.upd_row_store.proofs.Common.{◌-◌, ◌+◌, ◌<◌, length, ◌∷◌, ◌≡◌, drop, sym, ◌∙◌, subst, arith, slice_cmp, option_map, nat_cmp, held_named}
use Rattle.std.proofs.lemmas.List.{drop_more}
use Rattle.std.specs.BTreeMap as tree
use Rattle.upd_row_store.proofs.AssembleLemmas.{ages_more}
use Rattle.upd_row_store.proofs.assemble.held_ages.Goals as goal

pub loop-i-preserved-in_ok-insert : goal.loop-i-preserved-in_ok-insert
loop-i-preserved-in_ok-insert c = λ name.
    let idents = c.args.idents.now in
    let i = c.loop-i.i in
    let ident = c.index-idents-i.result in
    let within : i - 1 < length idents = omega (arith, c.loop-i-test.true, c.loop-i.auto.i) in
    let next : i - 1 + 1 ≡ i = omega (arith, c.loop-i-test.true) in
    let front : drop (i - 1) idents ≡ ident ∷ drop i idents =
    drop_more idents (i - 1) ident within ∙ λ k. sym c.index-idents-i.is k ∷ drop (next k) idents in
    subst (λ is. tree.get (slice_cmp nat_cmp) c.insert.new.self name ≡ option_map (λ j. j.age) (held_named name is)) (sym front)
    (ages_more ident (drop i idents) name (tree.get (slice_cmp nat_cmp) c.loop-i.ages name) (tree.get (slice_cmp nat_cmp) c.insert.new.self name)
    c.if-ident.true (c.in_ok-insert.ensures.updates.0 name) (c.loop-i.invariant name))
