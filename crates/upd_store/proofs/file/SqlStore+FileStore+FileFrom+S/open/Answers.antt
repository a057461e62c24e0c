use Rattle.upd_store.proofs.Common.{arith, file_state}
use Rattle.upd_store.proofs.Opening.{found_still}
use Rattle.upd_store.proofs.file.SqlStore+FileStore+FileFrom+S.open.Goals as goal

pub returns-in-Ok-clause-found : goal.returns-in-Ok-clause-found
returns-in-Ok-clause-found g c = λ clean is_open.
    found_still _ (file_state c.in_ok-conn.conn) (file_state c.in-Ok.store.conn)
    (c.in_ok-conn.ensures.found (omega (arith, clean, c.in-Ok.ensures.survives.clean))) (c.in-Ok.ensures.same clean is_open)
