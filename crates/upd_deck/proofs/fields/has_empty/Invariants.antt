use Rattle.upd_deck.proofs.Common.{◌≡◌, ◌==◌, length, map, drop, list_any}
use Rattle.upd_deck.proofs.fields.has_empty.Given as goal

abbrev pub invariant-loop-field : goal.invariant-loop-field
invariant-loop-field l =
    list_any (λ f. length f == 0) (map (λ x. x.now) (drop l.field-index l.fields)) ≡ list_any (λ f. length f == 0) (map (λ x. x.now) l.fields)
