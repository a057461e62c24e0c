use Rattle.upd_sql.proofs.Common.{refl}
use Rattle.upd_sql.proofs.Typed.{makes_nothing}
use Rattle.upd_sql.proofs.Effects.{cards_moved_back}
use Rattle.upd_sql.proofs.writes.move_back.Goals as goal

pub returns : goal.returns
returns g c = record {
  same_reference = c.run.ensures.same_reference;
  does = cards_moved_back c.args.deck c.args.from c.args.by
      (rw (c.in_ok-distance.ensures.value, c.number.ensures, c.number-2.ensures) at c.run.ensures.ran);
}

pub returns-in_err-distance : goal.returns-in_err-distance
returns-in_err-distance g c = record { same_reference = refl; does = makes_nothing _ c.from_residual.ensures.0 }
