use Rattle.upd_subcommands.proofs.Common.{ℕ, List, ◌∙◌, subst}
use Rattle.upd_subcommands.specs.DeskCommands.{IsCorrection}
use Rattle.upd_subcommands.proofs.ReportingLemmas.{counts, if_err, shown}
use Rattle.upd_subcommands.proofs.correction_command.correct_text.Goals as goal

pub returns-clause-reports : goal.returns-clause-reports
returns-clause-reports g c =
    let found = c.correct_at-answer.result in
    let made = c.correct_at-answer.ensures in
    let IsRight : List ℕ → Type 0 =
    λ set. IsCorrection g.S.Meaning c.args.since set c.args.text.now (shown found) c.args.desk.now.store c.correct_at-answer.new.desk.store in (
      shown found,
      subst IsRight c.as_bytes.ensures.value
          (record {
            answers = made.answer;
            long = λ is. if_err found _ (made.long is);
            same = made.same;
            counts = made.failed ∙ counts found _;
          }),
      c.report_correction.ensures.reports,
    )
