use Rattle.upd_apply.proofs.Common.{◌≡◌, ◌∷◌, [], arith, Ok, common_steps, is_same, pair_targets}
use Rattle.upd_apply.proofs.OnceLemmas.{once_more, once_once}
use Rattle.upd_apply.proofs.TargetLemmas.{same_target}
use Rattle.upd_apply.proofs.yanks.pairs_yanked.Goals as goal

pub loop-pair-preserved : goal.loop-pair-preserved
loop-pair-preserved c =
    let gives : pair_targets c.args.set c.args.library.now c.pair-item.result ≡ Ok (c.in_ok-target.target ∷ []) = grind (arith, common_steps) in
    record {
      named = once_more is_same same_target (pair_targets c.args.set c.args.library.now) c.args.pairs.now c.loop-pair.pair-index c.pair-item.result _ _ _ _
          c.loop-pair-test.true c.pair-item.is gives c.in_ok-add_target.ensures c.loop-pair.invariant.named;
      apart = once_once is_same same_target _ _ c.in_ok-add_target.ensures;
    }
