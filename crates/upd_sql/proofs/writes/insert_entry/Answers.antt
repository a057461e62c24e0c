use Rattle.upd_sql.proofs.Effects.{entry_added}
use Rattle.upd_sql.proofs.writes.insert_entry.Goals as goal

pub returns : goal.returns
returns g c = record {
  same_reference = c.run.ensures.same_reference;
  does = entry_added (record { card = c.args.card.now; ord = c.args.ord; entry = c.args.entry.now })
      (rw (c.name.ensures, c.number.ensures, c.number-2.ensures, c.number-3.ensures, c.flag.ensures) at c.run.ensures.ran);
}
