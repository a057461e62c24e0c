use Rattle.upd_memory.proofs.Common.{◌≡◌, take, CardRef}
use Rattle.upd_row_store.specs.Ranges.{is_among}
use Rattle.upd_memory.specs.RowsByKey.{is_in}
use Rattle.upd_memory.proofs.card_sets.set_of.Given as goal

abbrev pub invariant-loop-card : goal.invariant-loop-card
invariant-loop-card l = (c : CardRef) → is_in l.set c ≡ is_among (take l.card-index l.cards) c
