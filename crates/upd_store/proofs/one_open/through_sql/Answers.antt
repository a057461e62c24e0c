use Rattle.upd_store.proofs.Common.{arith, file_state}
use Rattle.sqlite.specs.State.{HasCleanDisk}
use Rattle.upd_store.proofs.Opening.{found_still}
use Rattle.upd_store.proofs.one_open.through_sql.Goals as goal

pub returns-in-Ok-adopted-clause-found : goal.returns-in-Ok-adopted-clause-found
returns-in-Ok-adopted-clause-found g c = λ clean is_open.
    let conn = c.in-Ok.conn in
    let took = c.in-Ok-adopted.ensures in
    let early : HasCleanDisk (file_state conn) = omega (arith, clean, took.survives.clean) in
    let it = c.in-Ok.ensures.found early in
    found_still _ (file_state conn) (file_state c.in-Ok-adopted.library.conn) (record { holds = it.holds; reads = it.reads }) (took.same clean is_open)
