use Rattle.upd_compile.proofs.Common.{◌≡◌, map, take, is_changed}
use Rattle.upd_compile.proofs.changes.change_flags.Given as goal

abbrev pub invariant-loop-deck : goal.invariant-loop-deck
invariant-loop-deck l = l.flags.items ≡ map (is_changed l.before) (take l.deck-index l.decks)
