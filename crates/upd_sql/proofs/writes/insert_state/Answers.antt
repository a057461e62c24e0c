use Rattle.upd_sql.proofs.Effects.{state_added}
use Rattle.upd_sql.proofs.writes.insert_state.Goals as goal

pub returns : goal.returns
returns g c = record {
  same_reference = c.run.ensures.same_reference;
  does = state_added (record { card = c.args.card.now; active = c.args.active })
      (rw (c.name.ensures, c.number.ensures, c.flag.ensures) at c.run.ensures.ran);
}
