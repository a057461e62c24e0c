-- The columns take the rows of records as they are.
use Rattle.upd_sql.proofs.Common.{◌≡◌, pos, if◌then◌else◌, refl, cast_all, Ident, Target, Set, SetIn, Deck, CardRow, EntryRow, TargetRow, RunView, StateRow}
use Rattle.upd_sql.proofs.Common.{CountRow, MarkRow, cast_int, ident_columns, card_columns, entry_columns, target_columns, run_columns, state_columns}
use Rattle.upd_sql.proofs.Common.{count_columns, mark_columns, ident_row, card_row, entry_row, target_row, run_row, state_row, count_row, mark_row}
use Rattle.upd_sql.specs.Encoded.{kind_code}

pub cast_ident : (r : Ident) → cast_all ident_columns (ident_row r) ≡ ident_row r
cast_ident r = rw (
  cast_int (pos r.age),
  cast_int (pos (kind_code r.kind)),
  cast_int (pos (if r.noprop then 1 else 0)),
  cast_int (pos (if r.held then 1 else 0)),
) refl

pub cast_card : (r : CardRow) → cast_all card_columns (card_row r) ≡ card_row r
cast_card r = rw (cast_int (pos r.card.number), cast_int (pos r.deck), cast_int (pos r.pos)) refl

pub cast_entry : (r : EntryRow) → cast_all entry_columns (entry_row r) ≡ entry_row r
cast_entry r = rw (cast_int (pos r.card.number), cast_int (pos r.ord), cast_int (pos r.entry.ident), cast_int (pos (if r.entry.active then 1 else 0))) refl

pub cast_target : (r : TargetRow) → cast_all target_columns (target_row r) ≡ target_row r
cast_target r = go r.target
  where
    go : (t : Target) → cast_all target_columns (target_row (record r { target = t })) ≡ target_row (record r { target = t })
    go (Set z) = rw (cast_int (pos r.card.number), cast_int (pos r.ord), cast_int (pos 0), cast_int (pos z)) refl
    go (SetIn z d) = rw (cast_int (pos r.card.number), cast_int (pos r.ord), cast_int (pos 1), cast_int (pos z), cast_int (pos d)) refl
    go (Deck d) = rw (cast_int (pos r.card.number), cast_int (pos r.ord), cast_int (pos 2), cast_int (pos d), cast_int (pos 0)) refl

pub cast_run : (r : RunView) → cast_all run_columns (run_row r) ≡ run_row r
cast_run r = rw (cast_int (pos r.number), cast_int (pos r.mode), cast_int (pos (if r.accepted then 1 else 0))) refl

pub cast_state : (r : StateRow) → cast_all state_columns (state_row r) ≡ state_row r
cast_state r = rw (cast_int (pos r.card.number), cast_int (pos (if r.active then 1 else 0))) refl

pub cast_count : (r : CountRow) → cast_all count_columns (count_row r) ≡ count_row r
cast_count r = go r.target
  where
    go : (t : Target) → cast_all count_columns (count_row (record r { target = t })) ≡ count_row (record r { target = t })
    go (Set z) = rw (cast_int (pos 0), cast_int (pos z), cast_int (pos r.n)) refl
    go (SetIn z d) = rw (cast_int (pos 1), cast_int (pos z), cast_int (pos d), cast_int (pos r.n)) refl
    go (Deck d) = rw (cast_int (pos 2), cast_int (pos d), cast_int (pos 0), cast_int (pos r.n)) refl

pub cast_mark : (r : MarkRow) → cast_all mark_columns (mark_row r) ≡ mark_row r
cast_mark r = rw (cast_int (pos r.mark)) refl
