use Rattle.upd_sql.proofs.Effects.{states_gone}
use Rattle.upd_sql.proofs.writes.delete_states.Goals as goal

pub returns : goal.returns
returns g c = record {
  same_reference = c.run.ensures.same_reference;
  does = states_gone c.args.range.now
      (rw (c.name.ensures, c.number.ensures, c.number-2.ensures) at c.run.ensures.ran);
}
