use Rattle.upd_apply.proofs.Common.{◌≡◌, ◌&&◌, ◌++◌, map, drop, filter, list_any, is_deck_kind, is_in}
use Rattle.upd_apply.proofs.compile.decks_in_any.Given as goal

abbrev pub invariant-loop-ident : goal.invariant-loop-ident
invariant-loop-ident l =
    l.found.items ++ map (λ i. i.age) (filter (λ i. i.held && is_deck_kind i.kind && list_any (λ r. is_in r i.age) l.ranges) (drop l.ident-index l.idents))
    ≡ map (λ i. i.age) (filter (λ i. i.held && is_deck_kind i.kind && list_any (λ r. is_in r i.age) l.ranges) l.idents)
