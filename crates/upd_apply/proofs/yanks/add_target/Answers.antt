use Rattle.upd_apply.proofs.Common.{arith, common_steps, is_same}
use Rattle.upd_apply.proofs.OnceLemmas.{one_more}
use Rattle.upd_apply.proofs.TargetLemmas.{same_target}
use Rattle.upd_apply.proofs.yanks.add_target.Goals as goal

pub returns-in_ok-push : goal.returns-in_ok-push
returns-in_ok-push c = one_more is_same same_target _ _ c.args.target c.requires (grind (arith, common_steps))

pub returns-else-not-contains : goal.returns-else-not-contains
returns-else-not-contains c = one_more is_same same_target _ _ c.args.target c.requires (grind (arith, common_steps))
