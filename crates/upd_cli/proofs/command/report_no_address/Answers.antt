use Rattle.std.proofs.Common.{ℕ, List, subst}
use Rattle.upd_subcommands.specs.Command.{IsReported}
use Rattle.upd_cli.specs.Commands.{no_address_line}
use Rattle.upd_cli.proofs.command.report_no_address.Goals as goal

pub returns-clause-reported : goal.returns-clause-reported
returns-clause-reported g c =
    let IsRight : List ℕ → Type 0 =
    λ word. IsReported 2 (no_address_line word) c.report_unread.result (g.E.Write.contents c.args.faults.now) (g.E.Write.contents c.report_unread.new.faults) in
    subst IsRight c.as_bytes.ensures.value c.report_unread.ensures.reported
