use Rattle.upd_cli.proofs.library_file.migrate_tables.Goals as goal

pub returns-clause-migrates : goal.returns-clause-migrates
returns-clause-migrates g c = (
  c.migrate-ended.new.conn,
  record {
    done = c.migrate-ended.ensures.done;
    known = c.migrate-ended.ensures.known;
    present = c.migrate-ended.ensures.present;
    undone = c.migrate-ended.ensures.undone;
    version = c.migrate-ended.ensures.version;
    crash = c.migrate-ended.ensures.crash;
  },
  c.closed.ensures,
)
