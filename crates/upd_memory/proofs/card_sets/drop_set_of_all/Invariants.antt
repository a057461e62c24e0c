use Rattle.upd_memory.proofs.Common.{◌≡◌, ℕ, take, filter, not, if◌then◌else◌, cards_at}
use Rattle.upd_core.specs.Edits.{is_among}
use Rattle.upd_memory.specs.RowsByKey.{is_in}
use Rattle.upd_memory.proofs.card_sets.drop_set_of_all.Given as goal

abbrev pub invariant-loop-deck : goal.invariant-loop-deck
invariant-loop-deck l = (d : ℕ) → cards_at l.decks d ≡ (if is_among (take l.deck-index l.listed) d
    then filter (λ r. not (is_in l.set r.card)) (cards_at l.initial.decks d) else cards_at l.initial.decks d)
