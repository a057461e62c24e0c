use Rattle.upd_core.proofs.Common.{◌≡◌, drop, place_in}
use Rattle.upd_core.proofs.decks.place_at_home.Given as goal

abbrev pub invariant-loop-deck : goal.invariant-loop-deck
invariant-loop-deck l = place_in (drop l.deck-index l.decks) l.ident l.number ≡ place_in l.decks l.ident l.number
