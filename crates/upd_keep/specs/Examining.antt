-- What is said of a file that is examined.
use Rattle.std.specs.Prelude.{◌≡◌, ◌⊎◌, ℕ, List, [], ◌∷◌, Bool, ◌&&◌, codes, decimal, length, Some, Result, Ok, Err, IfErr, IfOk, IsTrue}
use Rattle.std.specs.List.{concat, count_by, fold}
use Rattle.sqlite_disk.specs.Disk.{MoreFaults}
use Rattle.sqlite_disk.specs.declared.Disk.{Ghosts}
use Rattle.sqlite_disk.specs.declared.Files.{Files}
use Rattle.sqlite_value.specs.Order.{Row}
use Rattle.sqlite_wal.specs.Recovery.{Image}
use Rattle.sqlite.specs.declared.error.Error.{Error}
use Rattle.sqlite.specs.declared.file.Leftover.{Leftover}
use Rattle.sqlite.specs.Effect.{Database}
use Rattle.sqlite.specs.Files.{IsCleanLeft, IsFullLeft, faults_left, faults_of}
use Rattle.sqlite.specs.Start.{FindsIn}
use Rattle.sqlite.specs.State.{State, HasCleanDisk, Survives}
use Rattle.upd_text.specs.declared.fault.Fault.{Fault}
use Rattle.upd_core.specs.Library.{is_deck_kind}
use Rattle.upd_core.specs.declared.ident.Ident.{Ident}
use Rattle.upd_examine.specs.Findings.{AreSoundRows}
use Rattle.upd_records.specs.Rows.{Rows, RunView}
use Rattle.upd_row_store.specs.Keeping.{IsLost}
use Rattle.upd_sql.specs.Commits.{MayKeep, WasOpen}
use Rattle.upd_sql.specs.LibraryTables.{ShowsTables}
use Rattle.upd_sql.specs.Schema.{library_schema, meta}
use Rattle.upd_sqlite.specs.Steps.{Steps}
use Rattle.upd_sqlite.specs.Stored.{HasRows}
use Rattle.upd_store.specs.Version.{HasVersion}
use Rattle.upd_views.specs.SiteLines.{add_sizes}
use Rattle.upd_keep.specs.Replaying.{AreStoredTables}
use Rattle.upd_keep.specs.Situations.{situation_at_version, situation_of}
use Rattle.upd_keep.specs.declared.stored_tables.StoredTables.{StoredTables}
use Rattle.upd_keep.specs.declared.file_examination.Examined.{Examined}
use Rattle.upd_keep.specs.declared.file_examination.Examined.TheVariants.{Sound, Unsound}
use Rattle.upd_keep.specs.declared.file_examination.Report.{Report}
use Rattle.upd_keep.specs.declared.file_examination.Report.TheVariants.{Library, Other}
use Rattle.upd_keep.specs.declared.situation.Situation.TheVariants.{Unreadable}

-- where the schema is the library's, the table of the version has one row
abbrev pub HasOneVersion : Database → Type 0
HasOneVersion db = db.schema ≡ library_schema → (rows : List Row) → HasRows db.trees meta rows → length rows ≡ 1

-- The table of the version was read inside a transaction.
pub record SeesVersion {X : Type 0} (old new : State) (r : Result X Error) : Type 0 where
  pub steps : Steps old new r
  pub was_open : WasOpen old new r
  pub one : HasCleanDisk new → IfOk r (λ _. HasOneVersion old.now)

-- whether an ident is a deck, common or not, that is not purged
abbrev pub is_held_deck : Ident → Bool
is_held_deck i = i.held && is_deck_kind i.kind

-- how many bytes the replies of stored runs have, or 2^64 - 1 where they have more
abbrev pub reply_bytes : List RunView → ℕ
reply_bytes runs = fold (λ count r. add_sizes count (length r.reply)) 0 runs

-- the line of a sound library with these numbers of decks, cards and stored runs, and of bytes of the replies and of the file
abbrev pub sound_line : ℕ → ℕ → ℕ → ℕ → ℕ → List ℕ
sound_line decks cards runs replies size =
    concat (codes "sound: decks " ∷ decimal decks ∷ codes ", cards " ∷ decimal cards ∷ codes ", runs " ∷ decimal runs ∷ codes ", replies " ∷ decimal replies
    ∷ codes ", file " ∷ decimal size ∷ codes "\n" ∷ [])

-- What was found is so of these tables: the rows that were read of them are those of a sound, whole library, and its line has their numbers, or they are not.
-- The size of the file is what the system says.
abbrev pub IsFoundIn : Rows → Examined → Type 0
IsFoundIn rows (Sound line) =
    (all : StoredTables) × AreStoredTables rows all × AreSoundRows all.library all.states all.kept.runs.items all.kept.marks.items
    × ((size : ℕ) × (line.items ≡ sound_line (count_by is_held_deck rows.idents) (length rows.cards) (length rows.runs) (reply_bytes all.kept.runs.items) size))
IsFoundIn rows (Unsound lines) =
    (all : StoredTables) × AreStoredTables rows all × (¬ AreSoundRows all.library all.states all.kept.runs.items all.kept.marks.items)

-- Calls that only read: a library that is committed stays, also after a crash.
pub record Reads (old new : State) : Type 0 where
  pub was_open : HasCleanDisk new → IsTrue new.is_open → IsTrue old.is_open
  pub same : HasCleanDisk new → IsTrue new.is_open → old.committed.schema ≡ library_schema → new.committed ≡ old.committed
  pub crash : Survives old new (MayKeep old)

-- Tables were examined, or that was lost. A library that is committed stays.
pub record Examines (answer : Result Examined Fault) (old new : State) : Type 0 where
  pub one : HasCleanDisk new → IfOk answer (λ _. HasOneVersion old.committed)
  pub found : HasCleanDisk new → IfOk answer (λ found. (rows : Rows) → ShowsTables rows old.committed → IsFoundIn rows found)
  pub reads : Reads old new
  pub lost : IfErr answer IsLost

-- The tables of a library in a database were examined.
pub record ExaminesLibrary (opened : State) (found : Examined) (old new : State) : Type 0 where
  pub clean : HasCleanDisk old → HasCleanDisk opened
  pub same : HasCleanDisk old → IsTrue old.is_open → old.committed ≡ opened.committed
  pub ours : HasCleanDisk old → IsTrue old.is_open → old.committed.schema ≡ library_schema
  pub examines : Examines (Ok found) old new

-- there is no library to examine, by the error of opening a database; or that was lost
abbrev pub SaysOpening : Error → Result Report Fault → Type 0
SaysOpening error (Ok (Library found log)) = ⊥
SaysOpening error (Ok (Other situation pages)) = situation_of error ≡ Some situation
SaysOpening error (Err fault) = IsLost fault

-- a report of a library says whether its log has frames
abbrev pub HasLog : Bool → Report → Type 0
HasLog frames (Library found log) = log ≡ frames
HasLog frames (Other situation pages) = Unit {0}

-- from these files no connection came: the disk failed once more, or they are too long
abbrev pub FailsToOpen : {D : Type 0} → Ghosts D → Files D → Type 0
FailsToOpen {D} g files = (rest : Leftover D g) × (IsCleanLeft rest → MoreFaults (faults_of g files) (faults_left rest) ⊎ IsFullLeft rest)

-- Connections, and what each of them shows.
module _ {C : Type 0} (state : C → State) where
  -- What is said of a database is so of the library that it holds. What is no library is called by its version, or has a row that can't be read.
  abbrev pub ReportsOn : C → Result Report Fault → Type 0
  ReportsOn opened (Ok (Library found log)) = (old : C) × (new : C) × ExaminesLibrary (state opened) found (state old) (state new)
  ReportsOn opened (Ok (Other situation pages)) =
      (situation ≡ Unreadable)
      ⊎ ((old : C) × (at : ℕ) × (situation ≡ situation_at_version at)
      × (HasCleanDisk (state old) → (v : ℕ) → HasVersion v (state opened).committed → (at ≡ v) ⊎ (at ≡ 0)))
  ReportsOn opened (Err fault) = IsLost fault

  -- what is said of a file is so of the library that it held
  abbrev pub ExaminesFile : Image → Result Report Fault → Type 0
  ExaminesFile held (Ok (Library found log)) =
      (opened : C) × (HasCleanDisk (state opened) → FindsIn held (state opened)) × ReportsOn opened (Ok (Library found log))
  ExaminesFile held (Ok (Other situation pages)) = Unit {0}
  ExaminesFile held (Err fault) = IsLost fault
