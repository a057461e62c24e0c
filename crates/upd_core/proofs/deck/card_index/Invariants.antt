use Rattle.upd_core.proofs.Common.{◌≡◌, drop, index_from, is_card}
use Rattle.upd_core.proofs.deck.card_index.Given as goal

abbrev pub invariant-loop-i : goal.invariant-loop-i
invariant-loop-i l =
    index_from (is_card l.ident l.number) l.i (drop l.i l.cards) ≡ index_from (is_card l.ident l.number) 0 l.cards
