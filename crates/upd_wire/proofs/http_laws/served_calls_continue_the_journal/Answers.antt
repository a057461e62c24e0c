use Rattle.upd_wire.proofs.ServedLemmas.{all_go_on}
use Rattle.upd_wire.proofs.http_laws.served_calls_continue_the_journal.Goals as goal

pub returns : goal.returns
returns g c =
    all_go_on g.S.Meaning
