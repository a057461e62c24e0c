-- What is read in a transaction that completes a file first.
use Rattle.upd_migrate.proofs.Common.{◌≡◌, Ok, refl, sym, subst, IsTrue, true, State, HasCleanDisk, Rows, TablesRise, AreRowsOf, LibraryRows, HoldsAllRows}
use Rattle.upd_migrate.proofs.Common.{clean_before, Looks, Transforms, HoldsTables, Version, First, Second, Third, completed, ShowsAs, schema_of, stored_in}
use Rattle.upd_sqlite.proofs.Frames.{held}

-- the rows of a library are those of the tables that a version has
as_they_were : (version : Version) (it : Rows) (rows : LibraryRows) → AreRowsOf (completed version it) rows → AreRowsOf it rows
as_they_were First it rows h = record { idents = h.idents; cards = h.cards; entries = h.entries; targets = h.targets }
as_they_were Second it rows h = record { idents = h.idents; cards = h.cards; entries = h.entries; targets = h.targets }
as_they_were Third it rows h = h

-- a transaction that has begun holds the tables of the last commit
pub begun_holds : (version : Version) (it : Rows) (old : State) → (IsTrue old.is_open → TablesRise old.now)
    → (IsTrue old.is_open → old.now ≡ old.committed) → IsTrue old.is_open → ShowsAs version it old.committed
    → HoldsAllRows (schema_of version) (stored_in version it) old.now
begun_holds version it old rise settled o shown =
    held (schema_of version) (stored_in version it) old.now (rise o) (subst (ShowsAs version it) (sym (settled o)) shown)

pub read_rows : (version : Version) (it : Rows) (old mid last : State) {X : Type 0} (x : X) (rows : LibraryRows) → (IsTrue old.is_open → TablesRise old.now)
    → (IsTrue old.is_open → old.now ≡ old.committed)
    → Transforms {X = X} (HoldsAllRows (schema_of version) (stored_in version it)) (HoldsTables (completed version it)) (record old { in_transaction = true })
    mid (Ok x)
    → Looks AreRowsOf mid last (Ok rows) → HasCleanDisk last → ShowsAs version it old.committed → AreRowsOf it rows
read_rows version it old mid last x rows rise settled transforms looks clean shown =
    let early = clean_before mid last _ looks.steps.survives clean in
    let o = (transforms.steps.kept early refl).was_open (looks.was_open clean (transforms.steps.going early refl)) in
    let stands = transforms.transformed early refl (begun_holds version it old rise settled o shown) in
    as_they_were version it rows (looks.found clean (completed version it) stands)
