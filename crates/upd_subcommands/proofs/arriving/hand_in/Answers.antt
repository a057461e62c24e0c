use Rattle.upd_subcommands.proofs.Common.{inr, refl, Appends-nil}
use Rattle.upd_subcommands.proofs.FailingLemmas.{passed_unread}
use Rattle.upd_subcommands.proofs.arriving.hand_in.Goals as goal

pub returns-in_err-run-clause-reports : goal.returns-in_err-run-clause-reports
returns-in_err-run-clause-reports g c =
    inr (
      refl,
      passed_unread c.from_residual.result c.in_err-run.field-0.0 c.from_residual.ensures.1 c.in_err-run.ensures.err,
      Appends-nil (g.W.Write.contents c.args.output.now),
    )
