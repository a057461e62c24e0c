use Rattle.upd_apply.proofs.Common.{◌≡◌, ◌∷◌, [], arith, Ok, common_steps, is_same, deck_targets}
use Rattle.upd_apply.proofs.OnceLemmas.{once_more, once_once}
use Rattle.upd_apply.proofs.TargetLemmas.{same_target}
use Rattle.upd_apply.proofs.yanks.decks_yanked.Goals as goal

pub loop-name-preserved : goal.loop-name-preserved
loop-name-preserved c =
    let gives : deck_targets c.args.set c.args.library.now c.name-item.result ≡ Ok (c.in_ok-target.target ∷ []) = grind (arith, common_steps) in
    record {
      named = once_more is_same same_target (deck_targets c.args.set c.args.library.now) c.args.names.now c.loop-name.name-index c.name-item.result _ _ _ _
          c.loop-name-test.true c.name-item.is gives c.in_ok-add_target.ensures c.loop-name.invariant.named;
      apart = once_once is_same same_target _ _ c.in_ok-add_target.ensures;
    }
