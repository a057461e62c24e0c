use Rattle.upd_apply.proofs.Common.{◌≡◌, ◌&&◌, ◌++◌, map, drop, filter, is_deck_kind, is_in}
use Rattle.upd_apply.proofs.purges.add_decks.Given as goal

abbrev pub invariant-loop-ident : goal.invariant-loop-ident
invariant-loop-ident l =
    l.found.items ++ map (λ i. i.age) (filter (λ i. i.held && is_deck_kind i.kind && is_in l.ages i.age) (drop l.ident-index l.idents))
    ≡ l.initial.found.items ++ map (λ i. i.age) (filter (λ i. i.held && is_deck_kind i.kind && is_in l.ages i.age) l.idents)
