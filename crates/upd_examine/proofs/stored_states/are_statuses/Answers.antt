use Rattle.upd_examine.proofs.KeyLemmas.{exact_states}
use Rattle.upd_examine.proofs.RowsLemmas.{of_lists}
use Rattle.upd_examine.proofs.stored_states.are_statuses.Goals as goal

pub are_same-requires : goal.are_same-requires
are_same-requires c = exact_states

pub returns : goal.returns
returns c = of_lists _ _ _ _ _ c.in_ok-stored.ensures.items c.in_ok-own.ensures c.are_same.ensures
