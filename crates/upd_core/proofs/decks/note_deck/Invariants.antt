use Rattle.upd_core.proofs.Common.{◌≡◌, true, take, All, StayNoted, is_home}
use Rattle.upd_core.proofs.decks.note_deck.Given as goal

abbrev pub invariant-loop-card : goal.invariant-loop-card
invariant-loop-card l =
    StayNoted l.initial.strays l.strays × All (λ c. is_home l.strays l.deck.ident c ≡ true) (take l.card-index l.deck.cards)
