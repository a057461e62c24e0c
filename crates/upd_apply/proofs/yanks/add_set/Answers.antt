use Rattle.upd_apply.proofs.Common.{arith, common_steps, Set, is_same}
use Rattle.upd_apply.proofs.OnceLemmas.{one_more}
use Rattle.upd_apply.proofs.TargetLemmas.{same_target}
use Rattle.upd_apply.proofs.yanks.add_set.Goals as goal

pub returns-in_ok-push-clause-set : goal.returns-in_ok-push-clause-set
returns-in_ok-push-clause-set c =
    one_more is_same same_target _ _ (Set c.args.serial) c.requires.apart (grind (arith, common_steps, c.requires.marked c.args.serial))

pub returns-else-not-has_set-clause-set : goal.returns-else-not-has_set-clause-set
returns-else-not-has_set-clause-set c =
    one_more is_same same_target _ _ (Set c.args.serial) c.requires.apart (grind (arith, common_steps, c.requires.marked c.args.serial))
