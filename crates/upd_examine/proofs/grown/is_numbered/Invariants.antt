use Rattle.upd_examine.proofs.Common.{◌≡◌, drop}
use Rattle.upd_examine.specs.Grown.{are_numbered_from}
use Rattle.upd_examine.proofs.grown.is_numbered.Given as goal

abbrev pub invariant-loop-card : goal.invariant-loop-card
invariant-loop-card l = are_numbered_from l.next l.deck.ident (drop l.card-index l.deck.cards) ≡ are_numbered_from 1 l.deck.ident l.deck.cards
