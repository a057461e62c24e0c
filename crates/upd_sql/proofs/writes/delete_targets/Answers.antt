use Rattle.upd_sql.proofs.Effects.{targets_gone}
use Rattle.upd_sql.proofs.writes.delete_targets.Goals as goal

pub returns : goal.returns
returns g c = record {
  same_reference = c.run.ensures.same_reference;
  does = targets_gone c.args.range.now
      (rw (c.name.ensures, c.number.ensures, c.number-2.ensures) at c.run.ensures.ran);
}
