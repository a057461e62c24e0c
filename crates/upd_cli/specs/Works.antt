-- What a command does on the library in a file, over which store, and what it leaves.
use Rattle.std.specs.Prelude.{◌≡◌, ◌⊎◌, ℕ, List, Option, Result, IsErrAnd, IsOkAnd, IsSomeAnd}
use Rattle.sqlite_disk.specs.declared.Disk.{Ghosts as DiskGhosts}
use Rattle.sqlite_disk.specs.declared.Files.{Files}
use Rattle.sqlite_store.specs.declared.store.FileStore.{FileStore}
use Rattle.sqlite_store.specs.FileStore.{view}
use Rattle.sqlite_trees.specs.View.{IsClean}
use Rattle.sqlite_wal.specs.Recovery.{Image}
use Rattle.sqlite.specs.Held.{Held}
use Rattle.upd_text.specs.declared.fault.Fault.{Fault}
use Rattle.upd_records.specs.Rows.{Rows}
use Rattle.upd_row_store.specs.declared.meaning.Meaning.{Ghosts}
use Rattle.upd_sql.specs.Commits.{ShowsIn}
use Rattle.upd_store.specs.Faults.{IsUnopened}
use Rattle.upd_store.specs.OneOpen.{IsBelow, IsServed}
use Rattle.upd_store.specs.OpenedAgain.{AreFilesOf, Closes}
use Rattle.upd_store.specs.declared.one_open.Purpose.{Purpose}
use Rattle.upd_store.specs.declared.one_open.Purpose.TheVariants as purpose
use Rattle.upd_subcommands.specs.Command.{Ending, ending}
use Rattle.upd_subcommands.specs.DeskCommands.{Does, IsUnread}
use Rattle.upd_subcommands.specs.Inputs.{Frames, IsFirstRead, ReadsFirst}
use Rattle.upd_subcommands.specs.ListingFile.{CorrectsListed}
use Rattle.upd_subcommands.specs.Streams.{Stream, after, before}
use Rattle.upd_words.specs.declared.words.Command.{Command}
use Rattle.upd_words.specs.declared.words.Command.TheVariants.{Ask, Correct, CorrectAt, CorrectParts, Run, Serve, Spool, Try}
use Rattle.upd_cli.specs.Opened.{BelowSql, IsWarmed, ThroughSql}

-- the ending with this status and these streams
abbrev pub ending_of : {W E : Type 0} → ℕ → Stream W → Stream E → Ending
ending_of status output faults = ending status (before output) (after output) (before faults) (after faults)

-- before runs are handed in the rows may be read into memory
abbrev pub Begins : {S : Type 0} → Ghosts S → Command → S → S → Type 0
Begins meaning (Run site number mode since) old begun = IsWarmed meaning old begun
Begins meaning Spool old begun = IsWarmed meaning old begun
Begins meaning (Try mode since) old begun = IsWarmed meaning old begun
Begins meaning (Serve endpoint count) old begun = IsWarmed meaning old begun
Begins meaning _ old begun = begun ≡ old

-- an edited text was answered from a listing
abbrev pub AnswersListing : Command → List ℕ → Ending → Type 0
AnswersListing (Correct set) text end = CorrectsListed set.now text end
AnswersListing _ text end = ⊥

module _ {S : Type 0} (meaning : Ghosts S) {R W E : Type 0} (input : Stream R) (output : Stream W) (faults : Stream E) where
  -- The rows were read into memory where the command may want them there, and it was carried out.
  pub record Works (command : Command) (text : List ℕ) (ended : Result ℕ Fault) (old new : S) : Type 0 where
    pub begun : S
    pub begins : Begins meaning command old begun
    pub does : Does meaning command text ended begun new input output faults

  -- A command was carried out from a store of which this held, and of the store that it left this holds.
  pub record Runs (Held Left : S → Type 0) (command : Command) (text : List ℕ) (ended : Result ℕ Fault) : Type 0 where
    pub works : (old : S) × (new : S) × Held old × Works command text ended old new × Left new
    pub frames : Frames input output faults command ended

-- what a command opens the library for
abbrev pub purpose_of : Command → Purpose
purpose_of (Run site number mode since) = purpose.Run site number
purpose_of (Correct set) = purpose.Reading
purpose_of (CorrectAt set since) = purpose.Reading
purpose_of (CorrectParts set site number mode) = purpose.Reading
purpose_of (Try mode since) = purpose.Reading
purpose_of (Ask query) = purpose.Reading
purpose_of _ = purpose.Writing

-- nothing was read or written, since the file can't be opened
abbrev pub IsUntouched : {R W E : Type 0} → Stream R → Stream W → Stream E → Result ℕ Fault → Type 0
IsUntouched input output faults ended = IsErrAnd ended IsUnopened × (input.new ≡ input.old) × (output.new ≡ output.old) × (faults.new ≡ faults.old)

-- The stores over the file, through SQL and below it: the meaning of each, and its connection or its trees. What the file held before, and the files that
-- are left, where they are handed back.
module _ {S D : Type 0} {g : DiskGhosts D} (meaning : Ghosts S) (conn_of : S → Held (FileStore D g))
    {T : Type 0} (below : Ghosts T) (store_of : T → FileStore D g) (held : Image) (left : Option (Files D))
    {R W E : Type 0} (input : Stream R) (output : Stream W) (faults : Stream E) where
  -- a command was carried out at the desk of the library in the file, through SQL, and the files were closed
  abbrev pub WorksOn : Command → List ℕ → Result ℕ Fault → Type 0
  WorksOn command text ended = ThroughSql meaning conn_of held
      (λ old new. Works meaning input output faults command text ended old new × IsSomeAnd left (λ these. Closes these (conn_of new)))

  -- the trees of this library serve a command
  abbrev pub Serves : Command → T → Type 0
  Serves command s = IsClean (view (store_of s)) → (rows : Rows) → ShowsIn (view (store_of s)).committed rows → IsServed (purpose_of command) rows

  -- a question or a repeat was carried out at a desk over the trees of the library in the file, whose files are left
  abbrev pub WorksBelow : Command → List ℕ → Result ℕ Fault → Type 0
  WorksBelow command text ended = IsBelow (purpose_of command) × BelowSql below store_of held
      (λ old new. Works below input output faults command text ended old new × Serves command old × IsSomeAnd left (λ these. AreFilesOf these (store_of new)))

  -- Over what was read first a command was carried out at a desk of the library in the file; or an edited text was answered from the listing in it; or
  -- it can't be opened.
  pub record LeavesFrom (command : Command) (text : List ℕ) (ended : Result ℕ Fault) : Type 0 where
    pub leaves : WorksOn command text ended ⊎ (WorksBelow command text ended
        ⊎ (IsOkAnd ended (λ status. AnswersListing command text (ending_of status output faults)) ⊎ IsUntouched input output faults ended))
    pub frames : Frames input output faults command ended

module _ {S D : Type 0} {g : DiskGhosts D} (meaning : Ghosts S) (conn_of : S → Held (FileStore D g))
    {T : Type 0} (below : Ghosts T) (store_of : T → FileStore D g) (held : Image) (left : Option (Files D))
    {R W E : Type 0} (input : Stream R) (output : Stream W) (faults : Stream E) where
  -- what is read first was read, and then the command left this; or it can't be read, and nothing is written
  abbrev pub Leaves : Command → Result ℕ Fault → Type 0
  Leaves command ended =
      ((text : List ℕ) × (mid : R) × IsFirstRead command (before input) (input.bytes mid) text
      × LeavesFrom meaning conn_of below store_of held left (record input { old = mid }) output faults command text ended)
      ⊎ (ReadsFirst command × IsUnread ended × (output.new ≡ output.old) × (faults.new ≡ faults.old))
