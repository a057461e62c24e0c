-- What there is in place of a library: its words, and how a version or an error says it.
use Rattle.std.specs.Prelude.{ℕ, ◌==◌, nat_lt, Bool, true, false, if◌then◌else◌, List, ◌++◌, codes, Option, Some, None, Result, Ok, Err}
use Rattle.std.specs.declared.io.ErrorKind.{ErrorKind}
use Rattle.std.specs.declared.io.ErrorKind.TheVariants as io
use Rattle.sqlite.specs.declared.error.ErrorCode.TheVariants as code
use Rattle.sqlite.specs.declared.error.Error.{Error}
use Rattle.sqlite.specs.declared.error.Error.TheVariants.{SqliteFailure}
use Rattle.upd_keep.specs.declared.situation.Situation.{Situation}
use Rattle.upd_keep.specs.declared.situation.Situation.TheVariants.{LogAlone, NoFile, NoTarget, Folder, NotRegular, SecondName, OpenFolder, ForeignLog}
use Rattle.upd_keep.specs.declared.situation.Situation.TheVariants.{ClosedLog, Empty, ForeignEmpty}
use Rattle.upd_keep.specs.declared.situation.Situation.TheVariants.{NotSqlite, NoPermission, ReadOnly, CannotOpen, InUse, Damaged, BreaksRules, NotLibrary}
use Rattle.upd_keep.specs.declared.situation.Situation.TheVariants.{OlderSchema, OtherTables, Unreadable, NewerSchema}

-- what there is, and what to do
abbrev pub words_of : Situation → List ℕ
words_of LogAlone = codes "no file, or an empty one, beside a log, FILE-wal, with commits of a library: put the file of that log back, or move the log away"
words_of NoFile = codes "there is no such file: check the path; `upd init` makes a library"
words_of NoTarget = codes "this is a link to a file that isn't there: check where it leads"
words_of Folder = codes "this is a folder, not a file: check the path"
words_of NotRegular = codes "this is no regular file: check the path"
words_of SecondName = codes "the file has a second name, a hard link: remove that name, or make it a copy"
words_of OpenFolder = codes "everybody may write its folder, and so put another file or log there: `chmod o-w` or `chmod +t` on the folder"
words_of ForeignLog = codes "the log beside it, FILE-wal, is another user's, who may be at work: once that user has run `upd spool FILE </dev/null`, remove it"
words_of ClosedLog = codes "the log beside it, FILE-wal, can't be opened: let the user read and write it; a folder, link or database there must go"
words_of Empty = codes "the file is empty: `upd init` makes a library in it"
words_of ForeignEmpty = codes "the file is empty, and another user's: remove it, and `upd init` makes a library"
words_of NotSqlite = codes "this is not a database of SQLite: check the path; after an `upd init` that was ended, call it again"
words_of NoPermission = codes "no permission to read it: let the user read and write the file and its folder"
words_of ReadOnly = codes "it can't be written, and that is needed to look at it: let the user write it and its folder, or copy it"
words_of CannotOpen = codes "it can't be opened: let the user write its folder; no link or journal may be beside it"
words_of InUse = codes "it is in use by another command or a server: try again once that has ended"
words_of Damaged = codes "the file or its log is damaged, or another program wrote to one: copy both; then move away a log of another file, "
    ++ codes "restore a backup, or use `sqlite3 COPY .dump`"
words_of BreaksRules = codes "a database with tables or rows that upd can't take, or a damaged one: check the path, or restore a backup"
words_of NotLibrary = codes "a database without a library: check the path; after an `upd init` that was ended, call it again"
words_of OlderSchema = codes "a library of an older schema: copy it, then `upd migrate`"
words_of OtherTables = codes "a library whose tables were changed or are missing: restore a backup"
words_of Unreadable = codes "a library with a row that upd can't read, or a damaged one: restore a backup"
words_of NewerSchema = codes "a library of a newer schema: use the newer upd"

-- why what is at a path can be no library, by whether it is a folder or a file, the number of its names and its bytes, and whether it is another user's
abbrev pub situation_of_kind : Bool → Bool → ℕ → ℕ → Bool → Option Situation
situation_of_kind true is_file names length foreign = Some Folder
situation_of_kind false false names length foreign = Some NotRegular
situation_of_kind false true names length foreign =
    if names == 1 then (if length == 0 then (if foreign then Some ForeignEmpty else Some Empty) else None) else Some SecondName

-- what a file with other tables is, by the version in it, 0 where it has none
abbrev pub situation_at_version : ℕ → Situation
situation_at_version v =
    if v == 0 then NotLibrary else (if nat_lt v 3 then OlderSchema else (if v == 3 then OtherTables else NewerSchema))

-- what the error of opening a database says is there, if it says so
abbrev pub situation_of : Error → Option Situation
situation_of (SqliteFailure code.DatabaseBusy) = Some InUse
situation_of (SqliteFailure code.CannotOpen) = Some CannotOpen
situation_of (SqliteFailure code.DatabaseCorrupt) = Some Damaged
situation_of (SqliteFailure code.NotADatabase) = Some BreaksRules
situation_of _ = None

-- what is at a path whose file can't be read
abbrev pub situation_unread : ErrorKind → Situation
situation_unread io.NotFound = NoFile
situation_unread io.NotADirectory = NoFile
situation_unread io.UnexpectedEof = NotSqlite
situation_unread io.PermissionDenied = NoPermission
situation_unread _ = CannotOpen

-- folder and log are looked at where there is no file, an empty one, or one with bytes
abbrev pub looks_beside : Option Situation → Bool
looks_beside None = true
looks_beside (Some NoFile) = true
looks_beside (Some Empty) = true
looks_beside (Some ForeignEmpty) = true
looks_beside (Some _) = false

-- the first situation that a path shows, by whether a log is alone there, by what is there, by its folder, and by its log
abbrev pub situation_of_path : Bool → Option Situation → Bool → Bool → Bool → Option Situation
situation_of_path log_alone kind open_folder foreign_log closed_log =
    if log_alone then Some LogAlone else (if looks_beside kind
    then (if open_folder then Some OpenFolder else (if foreign_log then Some ForeignLog else (if closed_log then Some ClosedLog else kind))) else kind)

-- what a file shows after that: by its first bytes, or the error of reading them, and then by whether it may be written
abbrev pub situation_of_bytes : Result Bool ErrorKind → Bool → Option Situation
situation_of_bytes (Ok true) writable = if writable then None else Some ReadOnly
situation_of_bytes (Ok false) writable = Some NotSqlite
situation_of_bytes (Err kind) writable = Some (situation_unread kind)
