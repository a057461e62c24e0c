-- How commands end: what they do to the library in a file, and what they leave on the output and the fault stream.
use Rattle.std.specs.Prelude.{◌≡◌, ◌≢◌, ◌⊎◌, ℕ, Bool, true, false, List, [], ◌++◌, codes, string_bytes, Option, Result, Ok, Err, IfErr, IfOk, IsSomeAnd, OnOk}
use Rattle.std.specs.Io.KnownBytes.{Appends}
use Rattle.std.specs.declared.io.ErrorKind.{ErrorKind}
use Rattle.std.specs.declared.io.ErrorKind.TheVariants.{OutOfMemory}
use Rattle.sqlite_disk.specs.declared.Disk.{Ghosts as DiskGhosts}
use Rattle.sqlite_disk.specs.declared.Files.{Files}
use Rattle.sqlite_store.specs.declared.store.FileStore.{FileStore}
use Rattle.sqlite_wal.specs.Recovery.{Image}
use Rattle.sqlite.specs.Files.{file_state}
use Rattle.sqlite.specs.Held.{Held}
use Rattle.sqlite.specs.State.{State}
use Rattle.clap.specs.Words.{Text}
use Rattle.upd_text.specs.declared.fault.Fault.{Fault}
use Rattle.upd_row_store.specs.declared.meaning.Meaning.{Ghosts}
use Rattle.upd_wire.specs.Fronts.{AppendsFront}
use Rattle.upd_wire.specs.Inputs.{IsInput}
use Rattle.upd_keep.specs.Copying.{IsMadeAnew, IsReadWhole}
use Rattle.upd_keep.specs.Examining.{ExaminesFile}
use Rattle.upd_keep.specs.Situations.{words_of}
use Rattle.upd_keep.specs.declared.file_examination.Examined.TheVariants as examined
use Rattle.upd_keep.specs.declared.file_examination.Report.{Report}
use Rattle.upd_keep.specs.declared.file_examination.Report.TheVariants as report
use Rattle.upd_subcommands.specs.Command.{Answers, Ending, IsEnd, IsEndOf, IsReported, answer_to}
use Rattle.upd_subcommands.specs.Explaining.{IsExplained}
use Rattle.upd_subcommands.specs.Inputs.{Spares}
use Rattle.upd_subcommands.specs.Status.{exit_status, fault_line, no_memory, no_words_line, write_failed}
use Rattle.upd_subcommands.specs.Streams.{Stream, after, before}
use Rattle.upd_subcommands.specs.Reporting.{Writes}
use Rattle.upd_subcommands.specs.Trial.{trial_named}
use Rattle.upd_store.specs.OpenedAgain.{Closes}
use Rattle.upd_cli.specs.Opened.{Copies, MakesLibrary, MigratesLibrary}
use Rattle.upd_cli.specs.Replayed.{IsReplayed}
use Rattle.upd_cli.specs.Works.{Leaves, ending_of}
use Rattle.upd_words.specs.Words.{IsAskedFor, IsUnasked}
use Rattle.upd_words.specs.declared.words.Command.{Command}
use Rattle.upd_words.specs.declared.words.Request.{Request}
use Rattle.upd_words.specs.declared.words.Request.TheVariants.{Trial, Init, Library, Backup, Compact, Examine, Replay, Migrate, Explain, Shown, Unread}
use Rattle.upd_words.specs.declared.words.Request.TheVariants.{NoAddress}

-- the line that comes first where the log beside a file has frames
abbrev pub log_line : Bool → List ℕ
log_line false = []
log_line true = codes "log: keep FILE-wal with the file, it may have commits that the file lacks\n"

-- the line of what there is in place of a library
abbrev pub situation_line : List ℕ → List ℕ
situation_line words = codes "upd: " ++ words ++ codes "\n"

-- A report is written: the line of a sound library to the output; what is wrong, or what there is, to the fault stream.
abbrev pub WritesReport : Report → Ending → Type 0
WritesReport (report.Library (examined.Sound line) log) end =
    (ended : Result ℕ Fault) × Writes 0 (log_line log ++ line.items) ended end.output end.output' × IsEndOf ended end.status end.faults end.faults'
WritesReport (report.Library (examined.Unsound lines) log) end =
    Appends end.output end.output' [] × IsReported 1 (log_line log ++ lines.items) end.status end.faults end.faults'
WritesReport (report.Other situation pages) end =
    Appends end.output end.output' [] × IsReported 3 (situation_line (words_of situation) ++ pages.items) end.status end.faults end.faults'

-- what is at a path is reported; or that failed, and its fault is reported
abbrev pub EndsReport : Result Report Fault → Ending → Type 0
EndsReport (Ok report) end = WritesReport report end
EndsReport (Err fault) end = Appends end.output end.output' [] × IsReported (exit_status fault.kind) (fault_line fault) end.status end.faults end.faults'

-- what is at a path was examined, over connections that show this, and output, fault stream and status tell how
abbrev pub IsExamined : {C : Type 0} → (C → State) → Image → Ending → Type 0
IsExamined state held end = (answer : Result Report Fault) × ExaminesFile state held answer × EndsReport answer end

-- the text for an ADDRESS that is not valid
abbrev pub no_address_line : List ℕ → List ℕ
no_address_line word =
    codes "error: invalid value '" ++ word ++ codes "' for '<ADDRESS>': no IP address and port\n\nFor more information, try '--help'.\n"

-- a text is on the output; or the write failed, which is reported, and at most a beginning of it is there
abbrev pub IsShown : List ℕ → Ending → Type 0
IsShown text end =
    (written : Result (Unit {0}) Fault) × OnOk written (Appends end.output end.output' text) × AppendsFront end.output end.output' text
    × IfErr written (λ fault. fault ≡ write_failed) × IsEnd written end.status end.faults end.faults'

-- a command with no answer ended: all was done, or the line of what failed is reported
abbrev pub EndsSilently : {A : Type 0} → Result A Fault → ℕ → Option (List ℕ) → Option (List ℕ) → Type 0
EndsSilently ended status faults faults' = IfErr ended (λ fault. exit_status fault.kind ≡ 3) × IsEnd ended status faults faults'

-- Connections to files, what the file held before, and the files that are left, where they are handed back.
module _ {D : Type 0} (g : DiskGhosts D) (held : Image) (left : Option (Files D)) where
  -- the files of this connection were closed, and handed back
  abbrev pub LeavesFiles : Held (FileStore D g) → Type 0
  LeavesFiles conn = IsSomeAnd left (λ these. Closes these conn)

  -- an empty library was made in the file, which is closed; or that failed
  abbrev pub IsInitialized : ℕ → Option (List ℕ) → Option (List ℕ) → Type 0
  IsInitialized status faults faults' = (ended : Result (Unit {0}) Fault)
      × IfOk ended (λ _. MakesLibrary {g = g} held LeavesFiles) × EndsSilently ended status faults faults'

  -- the file was migrated; or that failed
  abbrev pub IsMigrated : ℕ → Option (List ℕ) → Option (List ℕ) → Type 0
  IsMigrated status faults faults' =
      (ended : Result (Unit {0}) Fault) × MigratesLibrary g held ended LeavesFiles × EndsSilently ended status faults faults'

module _ {D : Type 0} (g : DiskGhosts D) (held : Image) where
  -- a copy of the library was made, as this tells; or that failed
  abbrev pub IsCopied : (Held (FileStore D g) → Type 0) → ℕ → Option (List ℕ) → Option (List ℕ) → Type 0
  IsCopied Read status faults faults' =
      (ended : Result (Unit {0}) Fault) × Copies g Read held ended × EndsSilently ended status faults faults'

-- The stores over the file, through SQL and below it: the meaning of each, and its connection or its trees. What the file held before, and the files that
-- are left, where they are handed back.
module _ {S D : Type 0} {g : DiskGhosts D} (meaning : Ghosts S) (conn_of : S → Held (FileStore D g))
    {T : Type 0} (below : Ghosts T) (store_of : T → FileStore D g) (held : Image) (left : Option (Files D))
    {R W E : Type 0} (input : Stream R) (output : Stream W) (faults : Stream E) where
  -- a command on the library in the file ended, and the fault stream and the status tell how
  abbrev pub IsCarriedOut : Command → ℕ → Type 0
  IsCarriedOut command status = (ended : Result ℕ Fault) × (mid : E)
      × Leaves meaning conn_of below store_of held left input output (record faults { new = mid }) command ended
      × IsEndOf ended status (faults.bytes mid) (after faults)

  -- nothing went to the output
  abbrev pub IsSilent : Type 0
  IsSilent = Appends (before output) (after output) []

  -- how a request was carried out over streams
  abbrev pub IsDone : Request → ℕ → Type 0
  IsDone (Trial mode) status =
      (run : List ℕ) × IsInput (before input) run × Answers (answer_to (trial_named mode.now run)) (ending_of status output faults)
  IsDone (Init file) status = IsSilent × IsInitialized g held left status (before faults) (after faults)
  IsDone (Library file command) status = IsCarriedOut command status
  IsDone (Backup file copy) status = IsSilent × IsCopied g held IsReadWhole status (before faults) (after faults)
  IsDone (Compact file copy) status = IsSilent × IsCopied g held IsMadeAnew status (before faults) (after faults)
  IsDone (Examine file) status = IsExamined (file_state {g = g}) held (ending_of status output faults)
  IsDone (Replay file) status = IsReplayed meaning conn_of below store_of held (ending_of status output faults)
  IsDone (Migrate file) status = IsSilent × IsMigrated g held left status (before faults) (after faults)
  IsDone (Explain fault) status = IsExplained fault.now (ending_of status output faults)
  IsDone (Shown text) status = ((status ≡ 0) ⊎ (status ≡ 3)) × IsShown (string_bytes text) (ending_of status output faults)
  IsDone (Unread text) status =
      IsSilent × ((status ≡ 2) ⊎ (status ≡ 3)) × IsReported 2 (string_bytes text) status (before faults) (after faults)
  IsDone (NoAddress word) status =
      IsSilent × ((status ≡ 2) ⊎ (status ≡ 3)) × IsReported 2 (no_address_line word.now) status (before faults) (after faults)

  -- the same as a record
  pub record Carries (request : Request) (status : ℕ) : Type 0 where
    pub done : IsDone request status

  -- What the words of a command line ask for was carried out, with this exit status. Or an operand is refused, or there was no memory to read the words:
  -- that is reported, and nothing else is read or written.
  abbrev pub RunsCommand : List Text → ℕ → Type 0
  RunsCommand words status =
      ((request : Request) × IsAskedFor words request × Carries request status × Spares input output faults request status)
      ⊎ ((fault : Fault) × IsUnasked words fault × IsReported (exit_status fault.kind) (fault_line fault) status (before faults) (after faults)
      × (input.new ≡ input.old) × (output.new ≡ output.old))

module _ {S D : Type 0} {g : DiskGhosts D} (meaning : Ghosts S) (conn_of : S → Held (FileStore D g))
    {T : Type 0} (below : Ghosts T) (store_of : T → FileStore D g) (held : Image)
    {R W E : Type 0} (input : Stream R) (output : Stream W) (faults : Stream E) where
  -- the process ends with the status of the command that its words ask for; or its words can't be read, and only that is reported
  abbrev pub EndsProcess : ℕ → Type 0
  EndsProcess status =
      ((words : List Text) × (left : Option (Files D)) × RunsCommand meaning conn_of below store_of held left input output faults words status)
      ⊎ ((kind : ErrorKind) × (kind ≡ OutOfMemory → IsReported 3 (fault_line no_memory) status (before faults) (after faults))
      × (kind ≢ OutOfMemory → IsReported 2 no_words_line status (before faults) (after faults)) × (input.new ≡ input.old) × (output.new ≡ output.old))
