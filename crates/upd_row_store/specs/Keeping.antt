-- What a call of a store may do to what the store keeps, and to what a crash leaves of it.
use Rattle.std.specs.Prelude.{◌≡◌, ℕ, ◌+◌, ◌-◌, ◌^◌, ◌≤◌, ◌⊎◌, min, length, Result, Ok, Err, IfErr, IfOk, OnErr, OnOk}
use Rattle.upd_text.specs.declared.fault.Fault.{Fault}
use Rattle.upd_text.specs.declared.fault.FaultKind.{FaultKind}
use Rattle.upd_text.specs.declared.fault.FaultKind.TheVariants as fault
use Rattle.upd_core.specs.Library.{LibraryView}
use Rattle.upd_core.specs.Sound.{IsSound, IsWhole}
use Rattle.upd_records.specs.Rows.{Rows, Shows}
use Rattle.upd_row_store.specs.declared.meaning.Meaning.{Ghosts}

-- a count of failures rose, or is at its last value
abbrev pub MoreFailures : ℕ → ℕ → Type 0
MoreFailures old new = min (old + 1) (2 ^ 64 - 1) ≤ new

-- the count of failures with one more fault of this kind: a failure of the store adds one, up to the last value
abbrev pub failures_with : FaultKind → ℕ → ℕ
failures_with fault.Store failures = min (failures + 1) (2 ^ 64 - 1)
failures_with _ failures = failures

-- the count of failures after a call
abbrev pub failures_after : {A : Type 0} → Result A Fault → ℕ → ℕ
failures_after (Ok x) failures = failures
failures_after (Err fault) failures = failures_with fault.kind failures

-- how many decks are read with one more library: those that stand in it, up to the last value
abbrev pub reads_with : LibraryView → ℕ → ℕ
reads_with l reads = min (reads + length l.decks) (2 ^ 64 - 1)

-- how many decks are read after a load
abbrev pub reads_after : Result LibraryView Fault → ℕ → ℕ
reads_after (Ok l) reads = reads_with l reads
reads_after (Err fault) reads = reads

-- how many decks are read at most after a load that may read decks of which it answers only some: those of the answer
abbrev pub most_reads : Result LibraryView Fault → ℕ → ℕ
most_reads (Ok l) reads = reads + length l.decks
most_reads (Err fault) reads = reads

-- Want of memory, or a failure of the store: the faults after which an arrival counts as lost. They speak of no line, so they are at 0.
pub data IsLost : Fault → Type 0 where
  OfMemory : (f : Fault) → f.kind ≡ fault.NoMemory → f.at ≡ 0 → IsLost f
  OfStore : (f : Fault) → f.kind ≡ fault.Store → f.at ≡ 0 → IsLost f

module _ {S : Type 0} (meaning : Ghosts S) where
  open meaning use {Image, shows, image, is_open, is_honest, may_leave, failures_of, disk_failures_of, decks_read_of}

  -- the store shows these tables
  abbrev pub IsShown : Rows → S → Type 0
  IsShown rows s = shows (image s) rows

  -- an answer is right of the tables that the store showed
  abbrev pub FindsRows : {A : Type 0} → Result A Fault → S → S → (Rows → A → Type 0) → Type 0
  FindsRows result old new right = is_honest new → IfOk result (λ found. (rows : Rows) → IsShown rows old → right rows found)

  -- an answer is right of the library that these tables show
  abbrev pub FindsLibrary : {A : Type 0} → Result A Fault → S → S → (LibraryView → Rows → A → Type 0) → Type 0
  FindsLibrary result old new right = is_honest new
      → IfOk result (λ found. (l : LibraryView) → IsSound l → IsWhole l → (rows : Rows) → IsShown rows old → Shows rows l → right l rows found)

  -- after an answer the store is open
  abbrev pub OpensOk : {A : Type 0} → Result A Fault → S → Type 0
  OpensOk result new = is_honest new → OnOk result (is_open new)

  -- a call that answers Store counts one failure, up to the last value, and every other call counts none
  abbrev pub CountsFailure : {A : Type 0} → Result A Fault → S → S → Type 0
  CountsFailure result old new = failures_of new ≡ failures_after result (failures_of old)

  -- What is so after any calls: the disk was honest before them, too, and an open store was open. Only a failure of the disk closes it.
  pub record IsLater (old new : S) : Type 0 where
    pub honest : is_honest new → is_honest old
    pub was_open : is_honest new → is_open new → is_open old
    pub closes : is_honest new → is_open old → is_open new ⊎ MoreFailures (disk_failures_of old) (disk_failures_of new)
    pub disk_counts : disk_failures_of old ≤ disk_failures_of new
    pub counts : failures_of old ≤ failures_of new

  -- A call that only reads: what the store keeps stays, and a crash leaves nothing that it could not leave before.
  pub record Keeps (old new : S) : Type 0 where
    pub later : IsLater old new
    pub same : is_honest new → is_open new → image new ≡ image old
    pub crash : is_honest new → (i : Image) → may_leave new i → may_leave old i

  -- A call that tries to write: a crash leaves nothing that it could not leave before, but for what the write makes of the tables that the
  -- store kept, where these are fit for it.
  pub record Tries (fits : Rows → Type 0) (write : Rows → Rows) (old new : S) : Type 0 where
    pub later : IsLater old new
    pub crash : is_honest new → (i : Image) → may_leave new i
        → may_leave old i ⊎ (is_open old × ((rows : Rows) → shows (image old) rows → fits rows → shows i (write rows)))

  -- What a read leaves: what the store kept, and no deck more is read. A fault is a lack of memory or a failure of the store.
  pub record LeavesRead {A : Type 0} (result : Result A Fault) (old new : S) : Type 0 where
    pub opens : OpensOk result new
    pub same : Keeps old new
    pub lost : IfErr result IsLost
    pub failed : CountsFailure result old new
    pub unread : decks_read_of new ≡ decks_read_of old

  -- What a load leaves: the same, but that its decks count as read.
  pub record LeavesLoad (result : Result LibraryView Fault) (old new : S) : Type 0 where
    pub opens : OpensOk result new
    pub same : Keeps old new
    pub lost : IfErr result IsLost
    pub failed : CountsFailure result old new
    pub reads : decks_read_of new ≡ reads_after result (decks_read_of old)

  -- What the load of one deck leaves: the same, but that of a library that the store showed no more decks are read than are answered.
  pub record LeavesDeck (result : Result LibraryView Fault) (old new : S) : Type 0 where
    pub opens : OpensOk result new
    pub same : Keeps old new
    pub lost : IfErr result IsLost
    pub failed : CountsFailure result old new
    pub reads : is_honest new → (l : LibraryView) → IsSound l → IsWhole l → (is_open old → (rows : Rows) × IsShown rows old × Shows rows l)
        → decks_read_of new ≤ most_reads result (decks_read_of old)

  -- What a write in one transaction leaves: after a fault what the store kept; a crash may leave it written.
  pub record LeavesWrite {A : Type 0} (fits : Rows → Type 0) (write : Rows → Rows) (result : Result A Fault) (old new : S) : Type 0 where
    pub opens : OpensOk result new
    pub undone : is_honest new → is_open new → OnErr result (image new ≡ image old)
    pub crash : Tries fits write old new
    pub lost : IfErr result IsLost
    pub failed : CountsFailure result old new
    pub unread : decks_read_of new ≡ decks_read_of old
