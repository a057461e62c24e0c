use Rattle.std.proofs.Common.{Err, Ok, refl}
use Rattle.std.proofs.KnownBytes.{Appends-nil}
use Rattle.upd_cli.proofs.command.carry_out_init.Goals as goal

pub returns-in-Ok-clause-made : goal.returns-in-Ok-clause-made
returns-in-Ok-clause-made g c = (Ok tt, c.in-Ok.ensures.made, (tt, (refl, Appends-nil (g.E.Write.contents c.args.faults.now))))

pub returns-in-Err-clause-made : goal.returns-in-Err-clause-made
returns-in-Err-clause-made g c = (Err c.in-Err.fault, tt, (c.in-Err.ensures.failed, c.finish.ensures.reported))
