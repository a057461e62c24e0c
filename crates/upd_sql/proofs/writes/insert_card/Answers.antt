use Rattle.upd_sql.proofs.Effects.{card_added}
use Rattle.upd_sql.proofs.writes.insert_card.Goals as goal

pub returns : goal.returns
returns g c = record {
  same_reference = c.run.ensures.same_reference;
  does = card_added (record { card = c.args.card.now; deck = c.args.deck; pos = c.args.pos; body = c.args.body.now })
      (rw (c.name.ensures, c.number.ensures, c.number-2.ensures, c.number-3.ensures, c.text.ensures) at c.run.ensures.ran);
}
