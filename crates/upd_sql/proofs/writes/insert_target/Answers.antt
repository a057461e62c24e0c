use Rattle.upd_sql.proofs.Effects.{target_added}
use Rattle.upd_sql.proofs.writes.insert_target.Goals as goal

pub returns : goal.returns
returns g c = record {
  same_reference = c.run.ensures.same_reference;
  does = target_added (record { card = c.args.card.now; ord = c.args.ord; target = c.args.target })
      (rw (c.name.ensures, c.number.ensures, c.number-2.ensures, c.number-3.ensures, c.number-4.ensures, c.number-5.ensures, c.codes_of-codes.ensures)
      at c.run.ensures.ran);
}
