use Rattle.upd_sql.proofs.Common.{refl}
use Rattle.upd_sql.proofs.Typed.{makes_nothing}
use Rattle.upd_sql.proofs.Effects.{mark_added}
use Rattle.upd_sql.proofs.writes.insert_mark.Goals as goal

pub returns-clause-makes : goal.returns-clause-makes
returns-clause-makes g c = record {
  same_reference = c.run.ensures.same_reference;
  does = mark_added (record { site = c.args.site.now; mark = c.args.mark }) (rw (c.in_ok-mark_value.ensures.value, c.site.ensures) at c.run.ensures.ran);
}

pub returns-in_err-mark_value-clause-makes : goal.returns-in_err-mark_value-clause-makes
returns-in_err-mark_value-clause-makes g c = record { same_reference = refl; does = makes_nothing _ c.from_residual.ensures.0 }
