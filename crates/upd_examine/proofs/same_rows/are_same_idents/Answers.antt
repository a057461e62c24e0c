use Rattle.upd_examine.proofs.Common.{ident_key}
use Rattle.upd_examine.proofs.KeyLemmas.{exact_ident_keys, ident_of_key, ident_back}
use Rattle.upd_examine.proofs.SameLemmas.{keys_decide}
use Rattle.upd_examine.proofs.same_rows.are_same_idents.Goals as goal

pub are_same-requires : goal.are_same-requires
are_same-requires c = exact_ident_keys

pub returns : goal.returns
returns c =
    keys_decide ident_key ident_of_key ident_back c.args.some.now c.args.others.now _ _ _ c.in_ok-ident_keys.ensures c.in_ok-ident_keys-2.ensures
    c.are_same.ensures
