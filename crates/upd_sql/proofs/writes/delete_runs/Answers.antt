use Rattle.upd_sql.proofs.Common.{refl}
use Rattle.upd_sql.proofs.Typed.{makes_nothing}
use Rattle.upd_sql.proofs.Effects.{runs_gone}
use Rattle.upd_sql.proofs.writes.delete_runs.Goals as goal

pub returns : goal.returns
returns g c = record {
  same_reference = c.run.ensures.same_reference;
  does = runs_gone c.args.site.now c.args.number (rw (c.in_ok-up_to.ensures.value, c.site.ensures) at c.run.ensures.ran);
}

pub returns-in_err-up_to : goal.returns-in_err-up_to
returns-in_err-up_to g c = record { same_reference = refl; does = makes_nothing _ c.from_residual.ensures.0 }
