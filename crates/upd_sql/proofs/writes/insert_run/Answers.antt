use Rattle.upd_sql.proofs.Common.{subst, refl, state, Ran, RunView, run_row}
use Rattle.upd_sql.proofs.Typed.{makes_nothing}
use Rattle.upd_sql.proofs.Effects.{run_added}
use Rattle.upd_sql.specs.declared.texts.TheConstants.{INSERT_RUN}
use Rattle.upd_sql.proofs.writes.insert_run.Goals as goal

pub returns-clause-makes : goal.returns-clause-makes
returns-clause-makes g c = record {
  same_reference = c.run.ensures.same_reference;
  does =
      let ran = rw (
        c.in_ok-run_number.ensures.value,
        c.site.ensures,
        c.number.ensures,
        c.blob.ensures,
        c.flag.ensures,
        c.blob-2.ensures,
        c.deref.ensures,
        c.deref-2.ensures.value,
        c.deref-3.ensures.value,
      ) at c.run.ensures.ran in
      run_added c.args.row.now (subst (λ (r : RunView). Ran INSERT_RUN.now (run_row r) (state g.S.Store c.args.tx.now.conn.now)
      (state g.S.Store c.run.new.tx.conn.now) c.run.result) c.row.view_is ran);
}

pub returns-in_err-run_number-clause-makes : goal.returns-in_err-run_number-clause-makes
returns-in_err-run_number-clause-makes g c = record { same_reference = refl; does = makes_nothing _ c.from_residual.ensures.0 }
