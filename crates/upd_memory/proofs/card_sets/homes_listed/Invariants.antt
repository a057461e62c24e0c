use Rattle.upd_memory.proofs.Common.{◌≡◌, ℕ, take, list_any, is_home}
use Rattle.upd_core.specs.Edits.{is_among}
use Rattle.upd_memory.proofs.card_sets.homes_listed.Given as goal

abbrev pub invariant-loop-card : goal.invariant-loop-card
invariant-loop-card l = (d : ℕ) → is_among l.decks.items d ≡ list_any (λ c. is_home l.homes c d) (take l.card-index l.cards)
