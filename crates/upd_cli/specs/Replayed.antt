-- What `replay` does with the library in a file, and what it reports.
use Rattle.std.specs.Prelude.{◌⊎◌, ℕ, [], Result, Ok, Err, IsErrAnd}
use Rattle.std.specs.Io.KnownBytes.{Appends}
use Rattle.sqlite_disk.specs.declared.Disk.{Ghosts as DiskGhosts}
use Rattle.sqlite_store.specs.declared.store.FileStore.{FileStore}
use Rattle.sqlite_wal.specs.Recovery.{Image}
use Rattle.sqlite.specs.Held.{Held}
use Rattle.upd_text.specs.declared.fault.Fault.{Fault}
use Rattle.upd_keep.specs.Replaying.{Replays}
use Rattle.upd_keep.specs.declared.replaying.Replayed.{Replayed}
use Rattle.upd_keep.specs.declared.replaying.Replayed.TheVariants.{Same, Other}
use Rattle.upd_store.specs.Faults.{IsUnopened}
use Rattle.upd_subcommands.specs.Command.{Ending, IsEndOf, IsReported}
use Rattle.upd_subcommands.specs.Reporting.{Writes}
use Rattle.upd_subcommands.specs.Status.{exit_status, fault_line}
use Rattle.upd_row_store.specs.declared.meaning.Meaning.{Ghosts}
use Rattle.upd_cli.specs.Opened.{BelowSql, ThroughSql}

-- the line of the same library is on the output; that of another, or of what failed, on the fault stream
abbrev pub EndsReplay : Result Replayed Fault → Ending → Type 0
EndsReplay (Ok (Same line)) end =
    (ended : Result ℕ Fault) × Writes 0 line.items ended end.output end.output' × IsEndOf ended end.status end.faults end.faults'
EndsReplay (Ok (Other line)) end = Appends end.output end.output' [] × IsReported 1 line.items end.status end.faults end.faults'
EndsReplay (Err fault) end = Appends end.output end.output' [] × IsReported (exit_status fault.kind) (fault_line fault) end.status end.faults end.faults'

-- the stored runs of the library in a store were handed in again, of which this held when it was opened
abbrev pub ReplaysFrom : {S : Type 0} → Ghosts S → (S → Type 0) → Result Replayed Fault → Type 0
ReplaysFrom {S} meaning Held answer = (old : S) × Held old × ((last : S) × Replays meaning answer old last)

-- The stores over the file, through SQL and below it: the meaning of each, and its connection or its trees. What the file held before.
module _ {S D : Type 0} {g : DiskGhosts D} (meaning : Ghosts S) (conn_of : S → Held (FileStore D g))
    {T : Type 0} (below : Ghosts T) (store_of : T → FileStore D g) (held : Image) where
  -- the stored runs of the library in the file were handed in again; or it can't be opened
  abbrev pub ReplaysFile : Result Replayed Fault → Type 0
  ReplaysFile answer = ThroughSql meaning conn_of held (Replays meaning answer)
      ⊎ (BelowSql below store_of held (Replays below answer) ⊎ IsErrAnd answer IsUnopened)

  -- and output, fault stream and status tell how
  abbrev pub IsReplayed : Ending → Type 0
  IsReplayed end = (answer : Result Replayed Fault) × ReplaysFile answer × EndsReplay answer end
