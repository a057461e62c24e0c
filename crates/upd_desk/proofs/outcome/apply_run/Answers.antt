use Rattle.upd_desk.proofs.NeededLemmas.{run_needed}
use Rattle.upd_desk.proofs.outcome.apply_run.Goals as goal

pub returns-clause-ok : goal.returns-clause-ok
returns-clause-ok c = λ l made loaded.
    run_needed c.args.run.now l _ _ made loaded
    c.in_ok-applied.ensures.ok c.in_ok-applied.ensures.touched c.in_ok-applied.ensures.row_changes
