-- The row changes of a status update are only of statuses and counts.
use Rattle.upd_yank.proofs.Common.{◌≡◌, ℕ, Bool, true, false, not, ◌&&◌, if◌then◌else◌, List, [], ◌∷◌, ◌++◌, Option, Some, None, refl, AllByRecursion}
use Rattle.upd_yank.proofs.Common.{CardRef, Target, count_in, ChangeView, IdentNew, IdentPurged, CardNew, CardGone, CardsMoved, EntryNew, EntriesGone}
use Rattle.upd_yank.proofs.Common.{TargetNew, TargetsGone, StatusNow, CountNow, row_changes_state, is_other, kept_status, repeated_statuses}
use Rattle.upd_yank.proofs.Common.{all_repeated_statuses, count_changes, all_count_changes, update_changes, status_of_card, status_change, status_changes}
use Rattle.upd_yank.proofs.Common.{zero_changes}
use Rattle.std.proofs.Common.{◌==◌}
use Rattle.upd_diff.proofs.AllLemmas.{all_joined, each_flat}

abbrev StatusRowChanges : ChangeView → Type 0
StatusRowChanges c = row_changes_state c ≡ true

one_or_none : (b : Bool) (c : ChangeView) → StatusRowChanges c → AllByRecursion StatusRowChanges (if b then c ∷ [] else [])
one_or_none true c is = (is, tt)
one_or_none false c is = tt

none_or_one : (b : Bool) (c : ChangeView) → StatusRowChanges c → AllByRecursion StatusRowChanges (if b then [] else c ∷ [])
none_or_one true c is = tt
none_or_one false c is = (is, tt)

card_only : (card : CardRef) (status : Option Bool) → AllByRecursion StatusRowChanges (status_of_card card status)
card_only card None = tt
card_only card (Some active) = (refl, tt)

again_only : (now : CardRef → Option Bool) (c : ChangeView) → AllByRecursion StatusRowChanges (repeated_statuses now c)
again_only now (CardGone card) = card_only card (now card)
again_only now (IdentNew ident) = tt
again_only now (IdentPurged age) = tt
again_only now (CardNew card deck place body) = tt
again_only now (CardsMoved deck from by) = tt
again_only now (EntryNew card ord entry) = tt
again_only now (EntriesGone card) = tt
again_only now (TargetNew card ord target) = tt
again_only now (TargetsGone card targets) = tt
again_only now (StatusNow card active) = tt
again_only now (CountNow target n) = tt

pub update_only : (known found kept : List (CardRef × Bool)) (run : List ChangeView) (had has : List (Target × ℕ))
    → AllByRecursion (λ c. row_changes_state c ≡ true) (update_changes known found kept run had has)
update_only known found kept run had has =
    all_joined StatusRowChanges (status_changes (kept_status known) found ++ all_repeated_statuses (kept_status kept) run) (all_count_changes had has)
    (all_joined StatusRowChanges (status_changes (kept_status known) found) (all_repeated_statuses (kept_status kept) run)
    (each_flat StatusRowChanges (status_change (kept_status known))
    (λ p. one_or_none (is_other p.1 (kept_status known p.0)) (StatusNow p.0 p.1) refl) found)
    (each_flat StatusRowChanges (repeated_statuses (kept_status kept)) (again_only (kept_status kept)) run))
    (all_joined StatusRowChanges _ _
    (each_flat StatusRowChanges (count_changes (count_in had) (count_in has))
    (λ p. none_or_one (count_in has p.0 == count_in had p.0) (CountNow p.0 (count_in has p.0)) refl) has)
    (each_flat StatusRowChanges (zero_changes (count_in had) (count_in has))
    (λ p. one_or_none ((count_in has p.0 == 0) && not (count_in had p.0 == 0)) (CountNow p.0 0) refl) had))
