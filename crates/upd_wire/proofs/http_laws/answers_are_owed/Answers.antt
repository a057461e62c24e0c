use Rattle.upd_wire.proofs.OwedLemmas.{told_is_owed}
use Rattle.upd_wire.proofs.http_laws.answers_are_owed.Goals as goal

pub returns : goal.returns
returns g c =
    told_is_owed g.S.Meaning
