use Rattle.upd_sql.proofs.MovingEffects.{shift_moved}
use Rattle.upd_sql.proofs.moving.move_shift.Goals as goal

pub returns : goal.returns
returns g c = record {
  same_reference = c.run.ensures.same_reference;
  does = shift_moved c.args.deck c.args.from c.args.shift.now
      (rw (c.name.ensures, c.number.ensures, c.number-2.ensures, c.number-3.ensures, c.number-4.ensures, c.signed.ensures) at c.run.ensures.ran);
}
