use Rattle.upd_examine.proofs.KeyLemmas.{exact_states}
use Rattle.upd_keep.proofs.other_tables.first_other.Goals as goal

pub are_same-requires : goal.are_same-requires
are_same-requires c = exact_states
