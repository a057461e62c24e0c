use Rattle.upd_core.proofs.Common.{◌≡◌, map, take, card_in_texts}
use Rattle.upd_core.proofs.actives.shown_cards.Given as goal

abbrev pub invariant-loop-card : goal.invariant-loop-card
invariant-loop-card l = l.shown.items ≡ map (card_in_texts l.texts) (take l.card-index l.cards)
