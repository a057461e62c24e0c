-- The bytes that were read of a whole file are the file's, why a file isn't closed or read, and what a library is that was made anew.
use Rattle.upd_keep.proofs.Common.{◌≡◌, ◌⊎◌, inr, false, ℕ, ◌+◌, ◌<◌, Bool, ◌&&◌, IsTrue, List, [], ◌∷◌, ◌++◌, length, take, refl, sym, ap, subst, ◌∙◌, arith}
use Rattle.upd_keep.proofs.Common.{Holds, MoreFaults, Ghosts, StoreError, Error, file_state, Held, Fault, NoMemory, Store, IsLost, OfMemory, OfStore, kind_for}
use Rattle.std.proofs.Common.{slice_index}
use Rattle.std.proofs.lemmas.Grind.{same_number_lists}
use Rattle.sqlite_trees.specs.declared.error.StoreError.TheVariants as store
use Rattle.sqlite_store.specs.declared.store.FileStore.{FileStore}
use Rattle.sqlite_store.specs.FileStore.{faults, view}
use Rattle.sqlite.specs.Files.{ExcusesClose, FailsToClose}
use Rattle.sqlite.specs.State.{store_error}
use Rattle.upd_text.specs.declared.fault.FaultKind.TheVariants.{Write}
use Rattle.std.proofs.Common.{Result, Ok, Err, MatchResult}
use Rattle.sqlite_wal.specs.Reads.{AreClean}
use Rattle.sqlite_store.specs.Laws.{shut_if_dirty_at}
use Rattle.sqlite.proofs.StateLemmas.{clean_if_open}
use Rattle.upd_keep.proofs.Common.{inl}
use Rattle.sqlite.specs.State.{HasCleanDisk}
use Rattle.upd_keep.specs.Copying.{HasOnlyRows, IsMadeAnew, IsOnlyRead, IsReadWhole, ShowsOnly}
use Rattle.upd_keep.specs.declared.stored_tables.StoredTables.{StoredTables}
use Rattle.upd_store.specs.Faults.{IsUnopened}

all_read : (file bytes : List ℕ) → length bytes ≡ length file → (0 < length bytes → Holds file 0 bytes) → bytes ≡ file
all_read [] [] same held = refl
all_read (x ∷ xs) [] same held = absurd (omega (arith, same))
all_read file (y ∷ ys) same held =
    let h = held (omega arith) in
    same_number_lists (y ∷ ys) file same (λ k within. let zero : 0 + k ≡ k = omega arith in sym (h.each k within) ∙ ap (λ i. slice_index file i) zero)

taken : (front rest : List ℕ) → take (length front) (front ++ rest) ≡ front
taken [] rest = refl
taken (x ∷ xs) rest = ap (λ l. x ∷ l) (taken xs rest)

-- a buffer of the file's length was filled
pub filled : (file read rest : List ℕ) (len : ℕ) → len ≡ length read → length read ≡ length file → (0 < length read → Holds file 0 read)
    → take len (read ++ rest) ≡ file
filled file read rest len is same held =
    subst (λ n. take n (read ++ rest) ≡ file) (sym is) (taken read rest ∙ all_read file read same held)

pub both_true : (a b : Bool) → IsTrue a → IsTrue b → IsTrue (a && b)
both_true a b p q = ap (λ x. x && b) p ∙ q

module _ {D : Type 0} {g : Ghosts D} (conn : Held (FileStore D g)) (last : FileStore D g) (e : Error) (failed : kind_for e ≡ Store) where
  by_cause : (cause : StoreError) → e ≡ store_error cause → ExcusesClose conn last cause
      → ((file_state conn).is_open ≡ false) ⊎ MoreFaults (file_state conn).faults (faults last)
  by_cause store.OutOfMemory named why = absurd (let no : NoMemory ≡ Store = sym (ap kind_for named) ∙ failed in cc)
  by_cause store.Io named why = inr why
  by_cause store.Corrupt named why = inr why
  by_cause store.Full named why = inr why
  by_cause store.Broken named why = why
  by_cause store.Unstorable named why = absurd why

  pub close_fails : FailsToClose conn last e → ((file_state conn).is_open ≡ false) ⊎ MoreFaults (file_state conn).faults (faults last)
  close_fails fails = by_cause fails.0 fails.1 fails.2

-- what is lost isn't a failure to write
pub never_write : (fault : Fault) → IsLost fault → fault.kind ≡ Write → ⊥
never_write fault (OfMemory f kind at) write = let no : NoMemory ≡ Write = sym kind ∙ write in cc
never_write fault (OfStore f kind at) write = let no : Store ≡ Write = sym kind ∙ write in cc

-- a library was only read, and bytes were read whole of another with the rows that were read, from files that are honest
pub anew : {D E : Type 0} {g : Ghosts D} {h : Ghosts E} (conn seen : Held (FileStore D g)) (all : StoredTables) (made : Held (FileStore E h))
    → ((log db : E) → AreClean h log db) → IsOnlyRead (file_state conn) (file_state seen)
    → (HasCleanDisk (file_state seen) → ShowsOnly all (file_state conn).committed.trees) → HasOnlyRows all (file_state made) → IsReadWhole made
    → IsMadeAnew conn
anew conn seen all made honest only found shows (bytes, files, whole) =
    let was = whole (honest files.log files.db) in
    let clean = clean_if_open (view made.store) (shut_if_dirty_at made.store) was.0 in
    (seen, only, (all, found, (bytes, (file_state made).committed.trees, shows clean was.0, was.1)))

-- how a copy ends says this of it, and so that
pub ends_as : {P Q : Type 0} (r : Result (Unit {0}) Fault) → (P → Q) → MatchResult r (λ _. P) (λ fault. fault.kind ≡ Write → P)
    → MatchResult r (λ _. Q) (λ fault. fault.kind ≡ Write → Q)
ends_as (Ok done) so is = so is
ends_as (Err fault) so is = λ write. so (is write)

-- what isn't opened isn't a failure to write either, and what is lost isn't opened
pub unopened_never : (fault : Fault) → IsUnopened fault → fault.kind ≡ Write → ⊥
unopened_never fault (inl lost) write = never_write fault lost write
unopened_never fault (inr kind) write = let no : Store ≡ Write = sym kind ∙ write in cc

pub lost_unopened : (fault : Fault) → IsLost fault ⊎ (fault.kind ≡ Write) → IsUnopened fault ⊎ (fault.kind ≡ Write)
lost_unopened fault (inl lost) = inl (inl lost)
lost_unopened fault (inr write) = inr write
