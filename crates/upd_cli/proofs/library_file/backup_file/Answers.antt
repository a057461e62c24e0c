use Rattle.std.proofs.Common.{inl}
use Rattle.std.proofs.lemmas.Result.{IfErr-weaker}
use Rattle.upd_cli.proofs.LeavingLemmas.{backup_fails, unopened_fails}
use Rattle.upd_cli.proofs.library_file.backup_file.Goals as goal

pub returns-in-Ok-clause-copies : goal.returns-in-Ok-clause-copies
returns-in-Ok-clause-copies g c = inl (
  c.into_connection.result,
  rw c.into_connection.ensures (record { found = c.in-Ok.ensures.found; ours = c.in-Ok.ensures.ours }),
  c.backup.ensures.read,
)

pub returns-in-Ok-clause-failed : goal.returns-in-Ok-clause-failed
returns-in-Ok-clause-failed g c = IfErr-weaker c.backup.result _ _ backup_fails c.backup.ensures.lost

pub returns-in-Err-clause-failed : goal.returns-in-Err-clause-failed
returns-in-Err-clause-failed g c = unopened_fails c.in-Err.fault c.in-Err.ensures.unopened
