use Rattle.upd_sql.proofs.Common.{refl}
use Rattle.upd_sql.proofs.Typed.{makes_nothing}
use Rattle.upd_sql.proofs.Effects.{cards_moved_of}
use Rattle.upd_sql.proofs.writes.move_back_of.Goals as goal

pub returns : goal.returns
returns g c = record {
  same_reference = c.run.ensures.same_reference;
  does = cards_moved_of (c.args.ident.now, c.args.least) c.args.deck c.args.from c.args.by
      (rw (c.in_ok-distance.ensures.value, c.name.ensures, c.number.ensures, c.number-2.ensures, c.number-3.ensures) at c.run.ensures.ran);
}

pub returns-in_err-distance : goal.returns-in_err-distance
returns-in_err-distance g c = record { same_reference = refl; does = makes_nothing _ c.from_residual.ensures.0 }
