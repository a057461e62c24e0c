use Rattle.upd_cli.proofs.library_file.init_file.Goals as goal

pub returns-in-Ok-clause-made : goal.returns-in-Ok-clause-made
returns-in-Ok-clause-made g c = (
  c.into_connection.result,
  rw c.into_connection.ensures (record { shows = c.in-Ok.ensures.shows; empty = c.in-Ok.ensures.empty }),
  c.closed.ensures,
)
