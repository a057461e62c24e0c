use Rattle.upd_wire.proofs.LawLemmas.{spool_is_read_in_one_way, text_is_spool}
use Rattle.upd_wire.proofs.spool_laws.texts_are_spools_in_one_way.Goals as goal

pub returns-clause-some : goal.returns-clause-some
returns-clause-some c = text_is_spool

pub returns-clause-one : goal.returns-clause-one
returns-clause-one c = spool_is_read_in_one_way
