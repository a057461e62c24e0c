use Rattle.upd_subcommands.proofs.Common.{arith, common_steps, fault_line, front_same}
use Rattle.upd_subcommands.proofs.exit_status.write_fault.Goals as goal

pub returns-clause-front : goal.returns-clause-front
returns-clause-front g c = front_same _ _ _ (fault_line c.args.fault) (grind (arith, common_steps)) c.write_parts.ensures.front
