use Rattle.upd_subcommands.proofs.Common.{ℕ, List, Result, Ok, Err, sym, subst, Appends-nil, EditError, Global, Refusal, Vec, ending}
use Rattle.upd_subcommands.proofs.Common.{IsRefusedBy, ReportsCorrection}
use Rattle.upd_subcommands.proofs.ReportingLemmas.{shown}
use Rattle.upd_subcommands.proofs.correction_command.report_correction.Goals as goal

pub returns-in-Ok-clause-reports : goal.returns-in-Ok-clause-reports
returns-in-Ok-clause-reports g c =
    let end = ending c.write_run.result (g.W.Write.contents c.args.output.now) (g.W.Write.contents c.write_run.new.output)
    (g.E.Write.contents c.args.faults.now) (g.E.Write.contents c.write_run.new.faults) in
    let IsReported : List ℕ → Type 0 = λ run. ReportsCorrection (Ok run) end in
    let IsAnswered : Result (Vec ℕ Global) EditError → Type 0 = λ answer. ReportsCorrection (shown answer) end in
    subst IsAnswered (sym c.in-Ok.is) (subst IsReported c.deref.ensures.value c.write_run.ensures.reports)

pub returns-in-Err-Failed-clause-reports : goal.returns-in-Err-Failed-clause-reports
returns-in-Err-Failed-clause-reports g c =
    let end = ending c.finish.result (g.W.Write.contents c.args.output.now) (g.W.Write.contents c.args.output.now)
    (g.E.Write.contents c.args.faults.now) (g.E.Write.contents c.finish.new.faults) in
    let IsAnswered : Result (Vec ℕ Global) EditError → Type 0 = λ answer. ReportsCorrection (shown answer) end in
    let IsFailed : EditError → Type 0 = λ error. IsAnswered (Err error) in
    subst IsAnswered (sym c.in-Err-Failed.is)
    (subst IsFailed (sym c.in-Err-Failed.field-0-is) (c.finish.ensures.reported, Appends-nil (g.W.Write.contents c.args.output.now)))

pub returns-in-Err-Refused-clause-reports : goal.returns-in-Err-Refused-clause-reports
returns-in-Err-Refused-clause-reports g c =
    let end = ending c.write_refusals.result (g.W.Write.contents c.args.output.now) (g.W.Write.contents c.args.output.now)
    (g.E.Write.contents c.args.faults.now) (g.E.Write.contents c.write_refusals.new.faults) in
    let IsAnswered : Result (Vec ℕ Global) EditError → Type 0 = λ answer. ReportsCorrection (shown answer) end in
    let AreRefused : EditError → Type 0 = λ error. IsAnswered (Err error) in
    let IsReported : List Refusal → Type 0 =
    λ refusals. IsRefusedBy refusals c.write_refusals.result (g.E.Write.contents c.args.faults.now)
    (g.E.Write.contents c.write_refusals.new.faults) in
    subst IsAnswered (sym c.in-Err-Refused.is) (subst AreRefused (sym c.in-Err-Refused.field-0-is)
    (subst IsReported c.deref-in-Err-Refused.ensures.value c.write_refusals.ensures.reported, Appends-nil (g.W.Write.contents c.args.output.now)))
