-- How an answer of the desk is reported: by its bytes on the output and an exit status, or by a fault that the caller puts on the fault stream.
use Rattle.std.specs.Prelude.{◌≡◌, ◌⊎◌, ℕ, if◌then◌else◌, IsTrue, List, [], ◌∷◌, ◌++◌, Option, Result, Ok, Err, IsErrAnd}
use Rattle.std.specs.Io.KnownBytes.{Appends}
use Rattle.upd_text.specs.declared.fault.Fault.{Fault}
use Rattle.upd_desk.specs.ReplyTexts.{settled_text}
use Rattle.upd_desk.specs.Answers.{IsUntold, answer_line, is_answered}
use Rattle.upd_text.specs.Keys.{is_site}
use Rattle.upd_desk.specs.Outcomes.{ReplyView}
use Rattle.upd_wire.specs.Fronts.{AppendsFront}
use Rattle.upd_subcommands.specs.Command.{Ending, IsReported}
use Rattle.upd_subcommands.specs.Status.{exit_status, fault_line, no_memory, write_failed}

-- These bytes went to the output, and the command ends with this status; or the write failed, and at most a beginning of them is there.
abbrev pub Writes : ℕ → List ℕ → Result ℕ Fault → Option (List ℕ) → Option (List ℕ) → Type 0
Writes meant bytes (Ok status) output output' = (status ≡ meant) × Appends output output' bytes
Writes meant bytes (Err fault) output output' = (fault ≡ write_failed) × AppendsFront output output' bytes

-- the exit status of a run that was answered: 0 where it is accepted, and 1 where it is refused
abbrev pub run_status : Result ReplyView Fault → ℕ
run_status (Ok reply) = if reply.accepted then 0 else 1
run_status (Err fault) = 1

-- a run's reply, or the fault that refused it without one, is reported by its line; or nothing is reported
abbrev pub ReportsRun : Result ReplyView Fault → Result ℕ Fault → Option (List ℕ) → Option (List ℕ) → Type 0
ReportsRun answer result output output' =
    (IsTrue (is_answered answer) × Writes (run_status answer) (answer_line answer) result output output')
    ⊎ (IsErrAnd result (IsUntold answer) × Appends output output' [])

-- a site's mark is reported by its line, for a valid site: of another the desk has no mark
abbrev pub ReportsMark : List ℕ → Result ℕ Fault → Result ℕ Fault → Option (List ℕ) → Option (List ℕ) → Type 0
ReportsMark site (Ok mark) result output output' =
    (line : List ℕ) × (IsTrue (is_site site) → line ≡ settled_text site mark ++ 10 ∷ []) × Writes 0 line result output output'
ReportsMark site (Err fault) result output output' = (result ≡ Err fault) × Appends output output' []

-- a compile file or a listing is written as it is
abbrev pub ReportsText : Result (List ℕ) Fault → Result ℕ Fault → Option (List ℕ) → Option (List ℕ) → Type 0
ReportsText (Ok text) result output output' = Writes 0 text result output output'
ReportsText (Err fault) result output output' = (result ≡ Err fault) × Appends output output' []

-- the conflicts of a run are reported by their lines, with status 1; or memory for these is out
abbrev pub ReportsConflicts : Result ℕ Fault → Option (List ℕ) → Option (List ℕ) → Type 0
ReportsConflicts (Ok status) faults faults' = (text : List ℕ) × IsReported 1 text status faults faults'
ReportsConflicts (Err fault) faults faults' = (fault ≡ no_memory) × (faults' ≡ faults)

-- the warnings of a run are reported behind its answer, with the status of that; or the fault by which there is no answer is reported by its line
abbrev pub IsWarned : List ℕ → Result ℕ Fault → ℕ → Option (List ℕ) → Option (List ℕ) → Type 0
IsWarned warnings (Ok meant) status faults faults' = IsReported meant warnings status faults faults'
IsWarned warnings (Err fault) status faults faults' = IsReported (exit_status fault.kind) (fault_line fault) status faults faults'

-- A run that was tried is reported by its answer on the output and by its warnings on the fault stream. Where the warnings can't be made, the line of that
-- fault
-- is reported, and nothing is on the output.
abbrev pub ReportsTried : Result ReplyView Fault → Result (List ℕ) Fault → Ending → Type 0
ReportsTried answer (Ok warnings) end =
    (ended : Result ℕ Fault) × ReportsRun answer ended end.output end.output' × IsWarned warnings ended end.status end.faults end.faults'
ReportsTried answer (Err fault) end =
    IsReported (exit_status fault.kind) (fault_line fault) end.status end.faults end.faults' × Appends end.output end.output' []
