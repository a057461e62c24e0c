use Rattle.upd_subcommands.proofs.ReportingLemmas.{if_err, if_ok, shown}
use Rattle.upd_subcommands.proofs.parts_command.correct_text_in_parts.Goals as goal

pub returns-clause-reports : goal.returns-clause-reports
returns-clause-reports g c =
    let found = c.spool_at-answer.result in
    let made = c.spool_at-answer.ensures in (
      shown found,
      record {
        spool = λ honest journal held. if_ok found _ (made.spool honest journal held);
        refused = λ honest journal held. if_err found _ (made.refused honest journal held);
        failed = if_err found _ made.failed;
        same = made.same;
      },
      c.report_correction.ensures.reports,
    )
