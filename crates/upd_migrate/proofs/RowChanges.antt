-- The statuses and counts of a library, as if one run had added everything.
use Rattle.upd_migrate.proofs.Common.{◌≡◌, ◌<◌, ◌^◌, List, [], ◌∷◌, length, true, false, refl, ap, ◌∙◌, AllByRecursion, LibraryView, empty, IsSound}
use Rattle.upd_migrate.proofs.Common.{ChangeView, done_all, Rows, ShowsStates, TakeGone, row_changes_state, touched, empty_sound, IsRight}
use Rattle.std.proofs.Common.{inr}
use Rattle.std.specs.List.{filter}
use Rattle.upd_text.specs.declared.card_ref.CardRef.{CardRef}
use Rattle.upd_core.specs.Counted.{CountedCardView}
use Rattle.upd_core.specs.Targets.{is_same}
use Rattle.upd_records.specs.Changes.{IdentNew, IdentPurged, CardNew, CardGone, CardsMoved, EntryNew, EntriesGone, TargetNew, TargetsGone}
use Rattle.upd_records.specs.Changes.{StatusNow, CountNow, done}
use Rattle.upd_records.specs.Rows.{same_ref}
use Rattle.upd_yank.proofs.EnoughLemmas.{part_of_none}
use Rattle.upd_yank.specs.Affected.{affected}
use Rattle.upd_yank.specs.Enough.{IsEnough}
use Rattle.upd_yank.specs.Right.{CacheView, IsRunBetween}

pub between : (l : LibraryView) (cache : CacheView) (run : List CardRef) → IsSound l → length l.yanks < 2 ^ 32 → IsRight empty cache → run ≡ touched empty l
    → IsRunBetween empty l cache run
between l cache run sound few right is = record { before = empty_sound; after = sound; goes_on = tt; right = right; touched = is; few = few }

-- nothing was there before, so that a library with decks that are not loaded is enough as well
pub enough : (l counted : LibraryView) (run : List CardRef) → counted ≡ l → IsEnough run empty l counted
enough l counted run same = inr (λ _. false, same ∙ part_of_none l, record { unaffected = all (affected run empty l); staying = λ card none. refl })
  where
    all : (ks : List CountedCardView) → AllByRecursion (λ k. false ≡ false) ks
    all [] = tt
    all (k ∷ ks) = (refl, all ks)

pub none_gone : (l : LibraryView) → TakeGone empty l []
none_gone l = record { gone = λ card some none. absurd (cc); silent = tt }

-- tables without statuses and counts show those of the empty library
pub shows_nothing : (rows : Rows) → rows.states ≡ [] → rows.counts ≡ [] → ShowsStates rows empty
shows_nothing rows states counts = record {
  states = λ card. ap (filter (λ r. same_ref card r.card)) states;
  counts = λ target. ap (filter (λ r. is_same target r.target)) counts;
}

-- all but statuses and counts are the same
abbrev stays : Rows → Rows → Type 0
stays before after = after ≡ record before { states = after.states; counts = after.counts }

-- changes of statuses and counts leave everything else
pub all_else_stays : (cs : List ChangeView) (rows : Rows) → AllByRecursion (λ c. row_changes_state c ≡ true) cs → stays rows (done_all cs rows)
all_else_stays [] rows only = refl
all_else_stays (c ∷ cs) rows only = one c only.0 (all_else_stays cs (done c rows) only.1)
  where
    one : (c : ChangeView) → row_changes_state c ≡ true → stays (done c rows) (done_all cs (done c rows)) → stays rows (done_all cs (done c rows))
    one (StatusNow card active) is h = h
    one (CountNow target n) is h = h
    one (IdentNew i) is h = absurd (cc)
    one (IdentPurged age) is h = absurd (cc)
    one (CardNew card deck place body) is h = absurd (cc)
    one (CardGone card) is h = absurd (cc)
    one (CardsMoved deck from by) is h = absurd (cc)
    one (EntryNew card ord entry) is h = absurd (cc)
    one (EntriesGone card) is h = absurd (cc)
    one (TargetNew card ord target) is h = absurd (cc)
    one (TargetsGone card targets) is h = absurd (cc)
