use Rattle.upd_subcommands.proofs.Common.{subst, Fault, IsReported, exit_status, fault_line}
use Rattle.upd_subcommands.proofs.exit_status.report_words.Goals as goal

pub returns-then-eq-clause-memory : goal.returns-then-eq-clause-memory
returns-then-eq-clause-memory g c = λ memory.
    let IsLine : Fault → Type 0 =
    λ fault. IsReported (exit_status fault.kind) (fault_line fault) c.finish.result (g.E.Write.contents c.args.faults.now)
    (g.E.Write.contents c.finish.new.faults) in
    subst IsLine c.from.ensures c.finish.ensures.reported
