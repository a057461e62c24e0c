use Rattle.upd_core.proofs.Common.{◌≡◌, take}
use Rattle.upd_core.proofs.card.copy_cards.Given as goal

abbrev pub invariant-loop-card : goal.invariant-loop-card
invariant-loop-card l = l.copies.items ≡ take l.card-index l.cards
