-- The row changes of a status update: statuses that are new or differ, those of cards that were deleted and inserted again, and counts that
-- differ.
use Rattle.std.specs.Prelude.{ℕ, ◌==◌, Bool, not, ◌&&◌, if◌then◌else◌, List, [], ◌∷◌, ◌++◌, Option, Some, None}
use Rattle.std.specs.List.{flat_map}
use Rattle.upd_text.specs.declared.card_ref.CardRef.{CardRef}
use Rattle.upd_core.specs.declared.target.Target.{Target}
use Rattle.upd_records.specs.Changes.{ChangeView, IdentNew, IdentPurged, CardNew, CardGone, CardsMoved, EntryNew, EntriesGone, TargetNew, TargetsGone}
use Rattle.upd_records.specs.Changes.{StatusNow, CountNow}
use Rattle.upd_core.specs.TargetCounts.{count_in}
use Rattle.upd_yank.specs.Affected.{is_other}
use Rattle.upd_yank.specs.Right.{kept_status}

-- a status that was found, where it is new or differs from the known one
abbrev pub status_change : (CardRef → Option Bool) → CardRef × Bool → List ChangeView
status_change known p = if is_other p.1 (known p.0) then StatusNow p.0 p.1 ∷ [] else []

-- all statuses that were found
abbrev pub status_changes : (CardRef → Option Bool) → List (CardRef × Bool) → List ChangeView
status_changes known found = flat_map (status_change known) found

-- the status of a card, if it has one
abbrev pub status_of_card : CardRef → Option Bool → List ChangeView
status_of_card card None = []
status_of_card card (Some active) = StatusNow card active ∷ []

-- the status of a card that a change deleted and that exists now
abbrev pub repeated_statuses : (CardRef → Option Bool) → ChangeView → List ChangeView
repeated_statuses now (CardGone card) = status_of_card card (now card)
repeated_statuses now (IdentNew ident) = []
repeated_statuses now (IdentPurged age) = []
repeated_statuses now (CardNew card deck place body) = []
repeated_statuses now (CardsMoved deck from by) = []
repeated_statuses now (EntryNew card ord entry) = []
repeated_statuses now (EntriesGone card) = []
repeated_statuses now (TargetNew card ord target) = []
repeated_statuses now (TargetsGone card targets) = []
repeated_statuses now (StatusNow card active) = []
repeated_statuses now (CountNow target n) = []

-- the statuses of all cards that changes deleted and that exist now
abbrev pub all_repeated_statuses : (CardRef → Option Bool) → List ChangeView → List ChangeView
all_repeated_statuses now changes = flat_map (repeated_statuses now) changes

-- the count of a target, where it differs from before
abbrev pub count_changes : (Target → ℕ) → (Target → ℕ) → Target × ℕ → List ChangeView
count_changes before now p = if now p.0 == before p.0 then [] else CountNow p.0 (now p.0) ∷ []

-- the count of a target that had one and has none
abbrev pub zero_changes : (Target → ℕ) → (Target → ℕ) → Target × ℕ → List ChangeView
zero_changes before now p = if (now p.0 == 0) && not (before p.0 == 0) then CountNow p.0 0 ∷ [] else []

-- all counts that differ, of targets that are listed now and of those that were listed before
abbrev pub all_count_changes : List (Target × ℕ) → List (Target × ℕ) → List ChangeView
all_count_changes had has = flat_map (count_changes (count_in had) (count_in has)) has ++ flat_map (zero_changes (count_in had) (count_in has)) had

-- All row changes of a status update: from the known statuses, those found and those kept now; from the changes of the run; and from the counts
-- before and now.
abbrev pub update_changes : List (CardRef × Bool) → List (CardRef × Bool) → List (CardRef × Bool) → List ChangeView → List (Target × ℕ) → List (Target × ℕ) →
    List ChangeView
update_changes known found kept run had has =
    (status_changes (kept_status known) found ++ all_repeated_statuses (kept_status kept) run) ++ all_count_changes had has
