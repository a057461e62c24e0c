use Rattle.std.proofs.Common.{◌≡◌, map, take}
use Rattle.upd_records.specs.Changes.{change_view, done_all}
use Rattle.upd_records.specs.Rows.{Rows}
use Rattle.upd_row_store.specs.Ranges.{without_cards}
use Rattle.upd_row_store.proofs.ranges.gone_cards.Given as goal

abbrev pub invariant-loop-change : goal.invariant-loop-change
invariant-loop-change l = (rows : Rows) → without_cards l.gone rows ≡ done_all (map change_view (take l.change-index l.changes)) rows
