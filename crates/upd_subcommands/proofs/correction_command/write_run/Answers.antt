use Rattle.upd_subcommands.proofs.Common.{Ok, Err, refl, Appends-nil}
use Rattle.upd_subcommands.proofs.correction_command.write_run.Goals as goal

pub returns-in-Ok-clause-reports : goal.returns-in-Ok-clause-reports
returns-in-Ok-clause-reports g c = (Ok 0, (refl, c.in-Ok.ensures.ok), (refl, Appends-nil (g.E.Write.contents c.args.faults.now)))

pub returns-in-Err-clause-reports : goal.returns-in-Err-clause-reports
returns-in-Err-clause-reports g c = (Err c.in-Err.fault, (c.in-Err.ensures.err, c.in-Err.ensures.front), c.finish.ensures.reported)
