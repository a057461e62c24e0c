use Rattle.std.proofs.Common.{◌≡◌, ◌||◌, take}
use Rattle.upd_text.specs.declared.card_ref.CardRef.{CardRef}
use Rattle.upd_records.specs.Rows.{same_ref}
use Rattle.upd_row_store.specs.Ranges.{in_range, in_ranges, is_among}
use Rattle.upd_row_store.proofs.ranges.joined.Given as goal

abbrev pub invariant-loop-card : goal.invariant-loop-card
invariant-loop-card l =
    (c : CardRef) → (in_ranges l.ranges.items c || in_range l.last c) ≡ (same_ref l.first c || is_among (take l.card-index l.cards) c)
