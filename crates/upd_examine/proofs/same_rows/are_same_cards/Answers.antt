use Rattle.upd_examine.proofs.Common.{refl, card_key}
use Rattle.upd_examine.proofs.KeyLemmas.{exact_card_keys, card_of_key}
use Rattle.upd_examine.proofs.SameLemmas.{keys_decide}
use Rattle.upd_examine.proofs.same_rows.are_same_cards.Goals as goal

pub are_same-requires : goal.are_same-requires
are_same-requires c = exact_card_keys

pub returns : goal.returns
returns c =
    keys_decide card_key card_of_key
    (λ r. refl) c.args.some.now c.args.others.now _ _ _ c.in_ok-card_keys.ensures c.in_ok-card_keys-2.ensures c.are_same.ensures
