use Rattle.std.proofs.Common.{inl}
use Rattle.std.proofs.lemmas.Result.{IfErr-weaker}
use Rattle.upd_cli.proofs.LeavingLemmas.{unopened_fails}
use Rattle.upd_cli.proofs.library_file.migrate_file.Goals as goal

pub returns-in-Ok-clause-migrates : goal.returns-in-Ok-clause-migrates
returns-in-Ok-clause-migrates g c =
    let (last, migrated, left) = c.migrate_tables-ended.ensures.migrates in
    inl (c.in-Ok.conn, c.in-Ok.ensures.found, (last, migrated, left))

pub returns-in-Ok-clause-failed : goal.returns-in-Ok-clause-failed
returns-in-Ok-clause-failed g c = IfErr-weaker c.migrate_tables-ended.result.0 _ _ unopened_fails c.migrate_tables-ended.ensures.unopened
