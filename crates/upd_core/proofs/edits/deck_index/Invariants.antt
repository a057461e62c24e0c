use Rattle.upd_core.proofs.Common.{◌≡◌, drop, index_from, is_deck}
use Rattle.upd_core.proofs.edits.deck_index.Given as goal

abbrev pub invariant-loop-i : goal.invariant-loop-i
invariant-loop-i l = index_from (is_deck l.age) l.i (drop l.i l.decks) ≡ index_from (is_deck l.age) 0 l.decks
