use Rattle.std.proofs.Common.{◌≡◌, take}
use Rattle.upd_records.proofs.row_edits.copy_cards.Given as goal

abbrev pub invariant-loop-card : goal.invariant-loop-card
invariant-loop-card l = l.copies.items ≡ take l.card-index l.cards
