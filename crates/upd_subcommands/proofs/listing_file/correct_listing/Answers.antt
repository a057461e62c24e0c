use Rattle.upd_subcommands.proofs.Common.{ℕ, List, Ok, Err, inl, inr, subst, arith, Appends-nil, Fault, IsReported, ending, ReportsCorrection, exit_status}
use Rattle.upd_subcommands.proofs.Common.{fault_line}
use Rattle.upd_correct.specs.ListedRuns.{IsListedCause, IsListedRun}
use Rattle.upd_subcommands.proofs.listing_file.correct_listing.Goals as goal

pub returns-then-text-gt-MAX_TEXT_BYTES-clause-reports : goal.returns-then-text-gt-MAX_TEXT_BYTES-clause-reports
returns-then-text-gt-MAX_TEXT_BYTES-clause-reports g c =
    let IsLine : Fault → Type 0 =
    λ fault. IsReported (exit_status fault.kind) (fault_line fault) c.finish.result (g.E.Write.contents c.args.faults.now)
    (g.E.Write.contents c.finish.new.faults) in
    inr (
      omega (arith, c.if-text-gt-MAX_TEXT_BYTES.true),
      (subst IsLine c.without_line.ensures c.finish.ensures.reported, Appends-nil (g.W.Write.contents c.args.output.now)),
    )

pub returns-in-Ok-clause-reports : goal.returns-in-Ok-clause-reports
returns-in-Ok-clause-reports g c =
    let IsRight : List ℕ → Type 0 = λ set. IsListedRun c.args.listing.now set c.args.text.now c.in-Ok.run'.items in
    let IsReported : List ℕ → Type 0 =
    λ run. ReportsCorrection (Ok run) (ending c.write_run.result (g.W.Write.contents c.args.output.now) (g.W.Write.contents c.write_run.new.output)
    (g.E.Write.contents c.args.faults.now) (g.E.Write.contents c.write_run.new.faults)) in
    inl (
      omega (arith, c.if-text-gt-MAX_TEXT_BYTES.false),
      Ok c.in-Ok.run'.items,
      (subst IsRight c.as_bytes.ensures.value c.in-Ok.ensures.made, subst IsReported c.deref.ensures.value c.write_run.ensures.reports),
    )

pub returns-in-Err-clause-reports : goal.returns-in-Err-clause-reports
returns-in-Err-clause-reports g c =
    let IsRight : List ℕ → Type 0 = λ set. IsListedCause c.args.listing.now set c.args.text.now c.in-Err.error in
    inl (
      omega (arith, c.if-text-gt-MAX_TEXT_BYTES.false),
      Err c.in-Err.error,
      (
        subst IsRight c.as_bytes.ensures.value c.in-Err.ensures.refused,
        c.write_listed_error.ensures.reported,
        Appends-nil (g.W.Write.contents c.args.output.now),
      ),
    )
