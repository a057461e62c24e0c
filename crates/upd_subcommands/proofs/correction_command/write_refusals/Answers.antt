use Rattle.upd_subcommands.proofs.Common.{inr, subst, Fault, IsReported, exit_status, fault_line}
use Rattle.upd_subcommands.proofs.correction_command.write_refusals.Goals as goal

pub returns-clause-reported : goal.returns-clause-reported
returns-clause-reported g c =
    let IsLine : Fault → Type 0 =
    λ fault. IsReported (exit_status fault.kind) (fault_line fault) c.finish.result (g.E.Write.contents c.args.faults.now)
    (g.E.Write.contents c.finish.new.faults) in
    inr (subst IsLine c.from.ensures c.finish.ensures.reported)
