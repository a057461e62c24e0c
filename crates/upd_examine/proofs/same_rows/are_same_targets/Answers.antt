use Rattle.upd_examine.proofs.Common.{refl, target_row_key}
use Rattle.upd_examine.proofs.KeyLemmas.{exact_target_keys, target_of_key}
use Rattle.upd_examine.proofs.SameLemmas.{keys_decide}
use Rattle.upd_examine.proofs.same_rows.are_same_targets.Goals as goal

pub are_same-requires : goal.are_same-requires
are_same-requires c = exact_target_keys

pub returns : goal.returns
returns c =
    keys_decide target_row_key target_of_key
    (λ r. refl) c.args.some.now c.args.others.now _ _ _ c.in_ok-target_row_keys.ensures c.in_ok-target_row_keys-2.ensures c.are_same.ensures
