use Rattle.upd_deck.proofs.Common.{map, each_behind-none, one_in}
use Rattle.upd_deck.proofs.fields.each_in.Goals as goal

pub loop-field-init : goal.loop-field-init
loop-field-init g c = rw c.in_ok-found.ensures.items (each_behind-none (one_in g.T.FieldValue.field_gives) (map (λ x. x.now) c.args.fields.now))
