use Rattle.upd_cli.proofs.command.carry_out_migrate.Goals as goal

pub returns-clause-migrated : goal.returns-clause-migrated
returns-clause-migrated g c =
    (c.migrate_file-ended.result.0, c.migrate_file-ended.ensures.migrates, (c.migrate_file-ended.ensures.failed, c.finish.ensures.reported))
