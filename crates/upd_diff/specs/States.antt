-- The effect of a run's row changes on statuses and counts.
use Rattle.std.specs.Prelude.{◌≡◌, Bool, true, false, List, None, is_some}
use Rattle.std.specs.List.{list_any, AllByRecursion}
use Rattle.upd_text.specs.declared.card_ref.CardRef.{CardRef}
use Rattle.upd_core.specs.Library.{LibraryView}
use Rattle.upd_core.specs.Status.{status_of}
use Rattle.upd_records.specs.Rows.{same_ref}
use Rattle.upd_records.specs.Changes.{ChangeView, IdentNew, IdentPurged, CardNew, CardGone, CardsMoved, EntryNew, EntriesGone, TargetNew, TargetsGone}
use Rattle.upd_records.specs.Changes.{StatusNow, CountNow}

-- whether a change deletes a card, and its status with it
abbrev pub takes_card : CardRef → ChangeView → Bool
takes_card card (CardGone gone) = same_ref card gone
takes_card card (IdentNew ident) = false
takes_card card (IdentPurged age) = false
takes_card card (CardNew new deck place body) = false
takes_card card (CardsMoved deck from by) = false
takes_card card (EntryNew on ord entry) = false
takes_card card (EntriesGone of) = false
takes_card card (TargetNew on ord target) = false
takes_card card (TargetsGone of targets) = false
takes_card card (StatusNow of active) = false
takes_card card (CountNow target n) = false

-- whether a change sets a status or a count
abbrev pub row_changes_state : ChangeView → Bool
row_changes_state (StatusNow card active) = true
row_changes_state (CountNow target n) = true
row_changes_state (CardGone card) = false
row_changes_state (IdentNew ident) = false
row_changes_state (IdentPurged age) = false
row_changes_state (CardNew card deck place body) = false
row_changes_state (CardsMoved deck from by) = false
row_changes_state (EntryNew card ord entry) = false
row_changes_state (EntriesGone card) = false
row_changes_state (TargetNew card ord target) = false
row_changes_state (TargetsGone card targets) = false

-- Changes from one library to another delete each card that is no longer there, and set no status and no count.
pub record TakeGone (old new : LibraryView) (changes : List ChangeView) : Type 0 where
  pub gone : (card : CardRef) → is_some (status_of card old) ≡ true → status_of card new ≡ None → list_any (takes_card card) changes ≡ true
  pub silent : AllByRecursion (λ c. row_changes_state c ≡ false) changes
