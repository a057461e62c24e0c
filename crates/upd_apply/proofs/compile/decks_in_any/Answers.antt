use Rattle.upd_apply.proofs.Common.{◌&&◌, Bool, true, false, list_any, Ident, is_deck_kind, is_in}
use Rattle.upd_apply.proofs.Filtered.{filter_more}
use Rattle.upd_apply.proofs.compile.decks_in_any.Goals as goal
use Rattle.upd_apply.proofs.compile.decks_in_any.Goals.{then-is_deck_in_any+in_ok-push, else-is_deck_in_any}

pub loop-ident-preserved : goal.loop-ident-preserved
loop-ident-preserved c =
    let test : Ident → Bool = λ i. i.held && is_deck_kind i.kind && list_any (λ r. is_in r i.age) c.args.ranges.now in
    elim c.if-is_deck_in_any.branch [
      | then-is_deck_in_any+in_ok-push w ↦ filter_more (λ i. i.age) test c.args.idents.now c.loop-ident.ident-index c.ident-item.result _ _ _ true
          c.loop-ident-test.true c.ident-item.is w.if-is_deck_in_any.ensures (cc (w.in_ok-push.ensures.items)) c.loop-ident.invariant
      | else-is_deck_in_any w ↦ filter_more (λ i. i.age) test c.args.idents.now c.loop-ident.ident-index c.ident-item.result _ _ _ false
          c.loop-ident-test.true c.ident-item.is w.if-is_deck_in_any.ensures (cc) c.loop-ident.invariant
    ]
