use Rattle.upd_deck.proofs.Common.{◌≡◌, map, drop, each_behind, each_in, one_in}
use Rattle.upd_deck.proofs.fields.each_in.Given as goal

abbrev pub invariant-loop-field : goal.invariant-loop-field
invariant-loop-field g l =
    each_behind (one_in g.T.FieldValue.field_gives) l.found.items (map (λ x. x.now) (drop l.field-index l.fields))
    ≡ each_in g.T.FieldValue.field_gives (map (λ x. x.now) l.fields)
