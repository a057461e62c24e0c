use Rattle.upd_examine.proofs.Common.{◌≡◌, ◌++◌, drop, flat_map, card_rows}
use Rattle.upd_examine.proofs.own_rows.card_rows_of.Given as goal

abbrev pub invariant-loop-deck : goal.invariant-loop-deck
invariant-loop-deck l =
    l.rows.items ++ flat_map (λ d. card_rows l.idents d.ident 0 d.cards) (drop l.deck-index l.decks)
    ≡ card_rows l.idents 0 0 l.yanks ++ flat_map (λ d. card_rows l.idents d.ident 0 d.cards) l.decks
