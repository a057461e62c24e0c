use Rattle.upd_apply.proofs.Common.{◌≡◌, ◌<◌, ◌∙◌, ◌==◌, Bool, not, length, sym, ap, subst, arith, common_steps, purged_in_all, refl}
use Rattle.upd_apply.proofs.PairLemmas.{others_fewer, purged_apart}
use Rattle.upd_apply.specs.Purges.{AgesIn, idents_with}
use Rattle.upd_core.proofs.Common.{filter_same, rules}
use Rattle.upd_core.specs.Edits.{purged_among}
use Rattle.upd_apply.proofs.purges.purge_in_all.Goals as goal

pub loop-left-smaller : goal.loop-left-smaller
loop-left-smaller c =
    let d = c.behind-left.inside.deck in
    let pairs = c.loop-left.left.items in
    let first : AgesIn = record { deck = d; ident = c.behind-left.inside.ident } in
    let stays : AgesIn → Bool = λ a. not (a.deck == d) in
    let some : 0 < length pairs = grind (arith, common_steps, c.is_empty.ensures, c.loop-left-test.true) in
    let fewer = others_fewer d pairs first c.index.result.now some (c.behind-left.view_is ∙ c.index.ensures) refl in
    let left = filter_same _ stays _ (λ x b f k. search rules) _ _ c.retain.ensures.filtered in
    subst (λ xs. length xs < length pairs) (sym left) fewer

pub loop-left-preserved : goal.loop-left-preserved
loop-left-preserved c =
    let d = c.behind-left.inside.deck in
    let pairs = c.loop-left.left.items in
    let library = c.loop-left.library in
    let stays : AgesIn → Bool = λ a. not (a.deck == d) in
    let gone : c.purge_in.new.self ≡ purged_among d c.deref.result.now library = c.in_ok-purge_in.ensures.ok in
    let idents : c.deref.result.now ≡ idents_with d pairs = c.deref.ensures.value ∙ c.in_ok-idents.ensures in
    let left = filter_same _ stays _ (λ x b f k. search rules) _ _ c.retain.ensures.filtered in
    ap (purged_in_all c.retain.new.self.items) (gone ∙ ap (λ zs. purged_among d zs library) idents)
    ∙ ap (λ others. purged_in_all others (purged_among d (idents_with d pairs) library)) left
    ∙ purged_apart d pairs library ∙ c.loop-left.invariant
