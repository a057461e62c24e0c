use Rattle.upd_cli.proofs.command.run_command.Goals as goal

pub returns : goal.returns
returns g c = (c.run_command_from-status.result.1, c.run_command_from-status.ensures)
