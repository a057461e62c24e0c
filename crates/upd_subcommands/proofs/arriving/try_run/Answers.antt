use Rattle.upd_subcommands.proofs.Common.{ℕ, List, Ok, Err, ◌∙◌, refl, subst, Appends-nil, ending}
use Rattle.upd_subcommands.specs.Reporting.{ReportsTried}
use Rattle.upd_subcommands.proofs.FailingLemmas.{told_no_mistake}
use Rattle.upd_subcommands.proofs.TriedLemmas.{tried_as}
use Rattle.upd_subcommands.proofs.arriving.try_run.Goals as goal

pub returns-in-Ok-write_warnings-clause-reports : goal.returns-in-Ok-write_warnings-clause-reports
returns-in-Ok-write_warnings-clause-reports g c =
    let TellsAll : List ℕ → Type 0 =
    λ warnings. ReportsTried c.try_at-answer.result (Ok warnings) (ending c.write_tried.result (g.W.Write.contents c.args.output.now)
    (g.W.Write.contents c.write_tried.new.output) (g.E.Write.contents c.args.faults.now) (g.E.Write.contents c.write_tried.new.faults)) in (
      c.try_at-answer.result,
      Ok c.in-Ok.list.items,
      tried_as g.S.Meaning c.args.mode.now c.args.since c.args.run.now c.try_at-answer.result (Ok c.in-Ok.list.items)
          c.args.desk.now.store c.try_at-answer.new.desk.store c.warnings_at.new.desk.store
          c.try_at-answer.ensures.reply c.try_at-answer.ensures.same c.in-Ok.ensures.list c.in-Ok.ensures.same,
      (
        Ok c.in-Ok-write_warnings.warnings.items,
        λ none. c.in-Ok-write_warnings.ensures (c.deref.ensures.value ∙ none),
        subst TellsAll c.deref-in-Ok-write_warnings.ensures.value c.write_tried.ensures.reports,
      ),
    )

pub returns-in-Err-write_warnings-clause-reports : goal.returns-in-Err-write_warnings-clause-reports
returns-in-Err-write_warnings-clause-reports g c = (
  c.try_at-answer.result,
  Ok c.in-Ok.list.items,
  tried_as g.S.Meaning c.args.mode.now c.args.since c.args.run.now c.try_at-answer.result (Ok c.in-Ok.list.items)
      c.args.desk.now.store c.try_at-answer.new.desk.store c.warnings_at.new.desk.store
      c.try_at-answer.ensures.reply c.try_at-answer.ensures.same c.in-Ok.ensures.list c.in-Ok.ensures.same,
  (Err c.from.result, c.from.ensures, (c.finish.ensures.reported, Appends-nil (g.W.Write.contents c.args.output.now))),
)

pub returns-in-Err-clause-reports : goal.returns-in-Err-clause-reports
returns-in-Err-clause-reports g c = (
  c.try_at-answer.result,
  Err c.in-Err.fault,
  tried_as g.S.Meaning c.args.mode.now c.args.since c.args.run.now c.try_at-answer.result (Err c.in-Err.fault)
      c.args.desk.now.store c.try_at-answer.new.desk.store c.warnings_at.new.desk.store
      c.try_at-answer.ensures.reply c.try_at-answer.ensures.same c.in-Err.ensures.list c.in-Err.ensures.same,
  (Err c.in-Err.fault, refl, (c.finish-in-Err.ensures.reported, Appends-nil (g.W.Write.contents c.args.output.now))),
)

pub returns-in-Err-clause-status : goal.returns-in-Err-clause-status
returns-in-Err-clause-status g c = told_no_mistake c.in-Err.fault.kind _ _ _ _ c.finish-in-Err.ensures.reported
