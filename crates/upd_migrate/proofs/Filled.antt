-- The steps that fill a file's tables, one after another.
use Rattle.upd_migrate.proofs.Common.{◌≡◌, List, Result, Ok, Err, sym, subst, true, AllByRecursion, State, LibraryView, IsSound, ChangeView, done_all, AllFit}
use Rattle.upd_migrate.proofs.Common.{Rows, ShowsStates, row_changes_state, AreRowsOf, LibraryRows, HoldsAllRows, Makes, clean_before, Looks, Transforms}
use Rattle.upd_migrate.proofs.Common.{HoldsTables, transforms_then, First, AreLibraryRows, IsMigrated, HoldsAfter, completed, schema_of, stored_in}
use Rattle.sqlite.specs.declared.error.Error.{Error}
use Rattle.upd_core.specs.Sound.{IsWhole}
use Rattle.upd_records.specs.Rows.{Shows}
use Rattle.upd_diff.proofs.FitLemmas.{states_fit}
use Rattle.upd_sqlite.proofs.Chains.{steps_then}
use Rattle.upd_migrate.specs.Migrated.{IsFilled}
use Rattle.upd_migrate.proofs.RowChanges.{all_else_stays}

-- changes are made from what is read, and carried out
pub states_filled : (l library : LibraryView) (it : Rows) (cs : List ChangeView) (old mid new : State) (rows : LibraryRows) {X : Type 0} (r : Result X Error)
    → AreLibraryRows l it → Looks AreRowsOf old mid (Ok rows)
    → ((tables : Rows) (m : LibraryView) → IsSound m → IsWhole m → Shows tables m → AreRowsOf tables rows → library ≡ m)
    → (IsSound library → ShowsStates (done_all cs it) library) → AllByRecursion (λ c. row_changes_state c ≡ true) cs
    → Makes HoldsTables (AllFit cs) (done_all cs) mid new r → Transforms (HoldsTables it) (HoldsAfter (IsFilled l it)) old new r
states_filled l library it cs old mid new rows (Ok x) lib looks assembles shows only makes = record {
  steps = steps_then old mid new rows (Ok x) looks.steps makes.steps;
  transformed = λ clean inside h.
      let early = clean_before mid new _ makes.steps.survives clean in
      let still = looks.same early h.schema_is in
      let is = assembles it l lib.sound lib.whole lib.shows (looks.found early it h) in
      let shown = subst (ShowsStates (done_all cs it)) is (shows (subst IsSound (sym is) lib.sound)) in (
        done_all cs it,
        record { same = all_else_stays cs it only; states = shown },
        makes.made clean (looks.steps.going early inside) it (states_fit cs it only) (subst (HoldsTables it) (sym still) h),
      );
}
states_filled l library it cs old mid new rows (Err e) lib looks assembles shows only makes = record {
  steps = steps_then old mid new rows (Err e) looks.steps makes.steps;
  transformed = λ clean. tt;
}

-- a file of the first version is filled once it is completed
pub first_filled : (l : LibraryView) (it : Rows) (old mid new : State) {X Y : Type 0} (x : X) (r : Result Y Error)
    → Transforms {X = X} (HoldsAllRows (schema_of First) (stored_in First it)) (HoldsTables (completed First it)) old mid (Ok x)
    → Transforms (HoldsTables (completed First it)) (HoldsAfter (IsFilled l (completed First it))) mid new r
    → Transforms (HoldsAllRows (schema_of First) (stored_in First it)) (HoldsAfter (IsMigrated First l it)) old new r
first_filled l it old mid new x r complete fill =
    transforms_then (HoldsAllRows (schema_of First) (stored_in First it)) (HoldsTables (completed First it)) (HoldsAfter (IsMigrated First l it))
    old mid new x r complete fill

-- rows of a library, without statuses, counts and settled marks
pub bare_rows : (l : LibraryView) (it : Rows) → AreLibraryRows l it → AreLibraryRows l (completed First it)
bare_rows l it lib = record {
  sound = lib.sound;
  whole = lib.whole;
  shows = record { idents = lib.shows.idents; cards = lib.shows.cards; entries = lib.shows.entries; targets = lib.shows.targets };
}
