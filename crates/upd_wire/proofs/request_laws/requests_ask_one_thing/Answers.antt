use Rattle.upd_wire.proofs.SaysLemmas.{one_asked}
use Rattle.upd_wire.proofs.request_laws.requests_ask_one_thing.Goals as goal

pub returns-clause-one : goal.returns-clause-one
returns-clause-one c = one_asked
