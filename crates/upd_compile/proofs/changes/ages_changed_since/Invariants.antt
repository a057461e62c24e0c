use Rattle.upd_compile.proofs.Common.{◌≡◌, map, take, filter, is_changed}
use Rattle.upd_compile.proofs.changes.ages_changed_since.Given as goal

abbrev pub invariant-loop-deck : goal.invariant-loop-deck
invariant-loop-deck l = l.ages.items ≡ map (λ d. d.ident) (filter (is_changed l.before) (take l.deck-index l.decks))
