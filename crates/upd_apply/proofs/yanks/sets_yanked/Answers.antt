use Rattle.upd_apply.proofs.Common.{◌≡◌, map, arith, Ok, common_steps, Set, idents_in, is_same, range_targets}
use Rattle.upd_apply.proofs.OnceLemmas.{once_more, once_once}
use Rattle.upd_apply.proofs.TargetLemmas.{same_target}
use Rattle.upd_apply.proofs.yanks.sets_yanked.Goals as goal

pub loop-range-preserved : goal.loop-range-preserved
loop-range-preserved c =
    let gives : range_targets c.args.set c.args.library.now c.range-item.result ≡ Ok (map Set (idents_in c.in_ok-ages.ages c.args.library.now)) =
    grind (arith, common_steps) in
    let now = rw c.idents.ensures at c.in_ok-add_sets.ensures.sets in
    record {
      named = once_more is_same same_target (range_targets c.args.set c.args.library.now) c.args.ranges.now c.loop-range.range-index c.range-item.result _ _ _ _
          c.loop-range-test.true c.range-item.is gives now c.loop-range.invariant.named;
      apart = once_once is_same same_target _ _ now;
      marked = c.in_ok-add_sets.ensures.marked;
    }
