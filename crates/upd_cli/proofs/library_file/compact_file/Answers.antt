use Rattle.std.proofs.Common.{inl}
use Rattle.std.proofs.lemmas.Result.{IfErr-weaker}
use Rattle.upd_cli.proofs.LeavingLemmas.{compact_fails, unopened_fails}
use Rattle.upd_cli.proofs.library_file.compact_file.Goals as goal

pub returns-in-Ok-clause-compacts : goal.returns-in-Ok-clause-compacts
returns-in-Ok-clause-compacts g c =
    inl (c.in-Ok.library.conn, record { found = c.in-Ok.ensures.found; ours = c.in-Ok.ensures.ours }, c.compact.ensures.made)

pub returns-in-Ok-clause-failed : goal.returns-in-Ok-clause-failed
returns-in-Ok-clause-failed g c = IfErr-weaker c.compact.result _ _ compact_fails c.compact.ensures.lost

pub returns-in-Err-clause-failed : goal.returns-in-Err-clause-failed
returns-in-Err-clause-failed g c = unopened_fails c.in-Err.fault c.in-Err.ensures.unopened
