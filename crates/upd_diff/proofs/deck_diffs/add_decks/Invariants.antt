use Rattle.upd_diff.proofs.Common.{◌≤◌, List, length, drop, DeckView, Await}
use Rattle.upd_diff.proofs.deck_diffs.add_decks.Given as goal

abbrev pub invariant-loop-deck : goal.invariant-loop-deck
invariant-loop-deck l =
    (l.next ≤ length l.after)
    × ((olds news : List DeckView) → Await olds news l.initial.found.items l.before l.after
    → Await olds news l.found.items (drop l.deck-index l.before) (drop l.next l.after))
