use Rattle.upd_sql.proofs.Effects.{count_gone}
use Rattle.upd_sql.proofs.writes.delete_count.Goals as goal

pub returns : goal.returns
returns g c = record {
  same_reference = c.run.ensures.same_reference;
  does = count_gone c.args.target
      (rw (c.number.ensures, c.number-2.ensures, c.number-3.ensures, c.codes_of-codes.ensures) at c.run.ensures.ran);
}
