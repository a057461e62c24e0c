use Rattle.upd_examine.proofs.Common.{◌+◌, ◌&&◌, drop, sym, ap, ◌∙◌, list_all, is_run_right}
use Rattle.upd_examine.proofs.RunLemmas.{all_step}
use Rattle.upd_examine.proofs.stored_runs.are_each_right.Goals as goal

pub returns-then-not-branch : goal.returns-then-not-branch
returns-then-not-branch c =
    let test = is_run_right c.args.marks.now in
    let runs = c.args.runs.now in
    let i = c.loop-run.run-index in
    let step = all_step test runs i c.run-item.result c.run-item.result c.in_ok-is_run_right.field-0 c.loop-run-test.true c.run-item.is
    c.in_ok-is_run_right.ensures in
    sym (sym c.loop-run.invariant ∙ step ∙ ap (λ b. b && list_all test (drop (i + 1) runs)) c.if-not-branch.true)

pub loop-run-preserved : goal.loop-run-preserved
loop-run-preserved c =
    let test = is_run_right c.args.marks.now in
    let runs = c.args.runs.now in
    let i = c.loop-run.run-index in
    let step = all_step test runs i c.run-item.result c.run-item.result c.in_ok-is_run_right.field-0 c.loop-run-test.true c.run-item.is
    c.in_ok-is_run_right.ensures in
    sym (step ∙ ap (λ b. b && list_all test (drop (i + 1) runs)) c.if-not-branch.false) ∙ c.loop-run.invariant
