use Rattle.upd_store.proofs.Common.{arith, file_state}
use Rattle.upd_store.proofs.file.create.Goals as goal

pub returns-in-Ok-clause-empty : goal.returns-in-Ok-clause-empty
returns-in-Ok-clause-empty g c = λ clean. (
  (file_state c.in_ok-conn.conn).committed,
  c.in-Ok.ensures.empty clean,
  (c.in_ok-conn.ensures.found (omega (arith, clean, c.in-Ok.ensures.survives.clean))).holds,
)
