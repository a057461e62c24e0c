use Rattle.upd_diff.proofs.Common.{List, [], drop, DeckView, Await}
use Rattle.upd_diff.proofs.deck_diffs.add_new_decks.Given as goal

abbrev pub invariant-loop-deck : goal.invariant-loop-deck
invariant-loop-deck l =
    (olds news : List DeckView) → Await olds news l.initial.found.items [] l.decks → Await olds news l.found.items [] (drop l.deck-index l.decks)
