-- What a command reads, what it writes, and its exit status.
use Rattle.std.specs.Prelude.{◌≡◌, ◌⊎◌, ℕ, List, [], Option, Result, Ok, Err, IsOkAnd}
use Rattle.std.specs.Io.KnownBytes.{Appends}
use Rattle.upd_text.specs.declared.fault.Fault.{Fault}
use Rattle.upd_text.specs.declared.fault.FaultKind.{FaultKind}
use Rattle.upd_text.specs.declared.fault.FaultKind.TheVariants.{Write}
use Rattle.upd_compile.specs.File.{FileView}
use Rattle.upd_subcommands.specs.Status.{exit_status, fault_line}
use Rattle.upd_wire.specs.Fronts.{AppendsFront}

-- What a command answers: its exit status, its output, and what it says on the fault stream.
pub record Answer : Type 0 where
  pub status : ℕ
  pub output : List ℕ
  pub faults : List ℕ

-- How a command ended: its exit status, and what output and fault stream tell that they held before it and after it.
pub record Ending : Type 0 where
  pub status : ℕ
  pub output : Option (List ℕ)
  pub output' : Option (List ℕ)
  pub faults : Option (List ℕ)
  pub faults' : Option (List ℕ)

-- the ending with this status, of which output and fault stream tell this
abbrev pub ending : ℕ → Option (List ℕ) → Option (List ℕ) → Option (List ℕ) → Option (List ℕ) → Ending
ending status output output' faults faults' =
    record { status = status; output = output; output' = output'; faults = faults; faults' = faults' }

-- a compile file goes to the output, a refusal to the fault stream
abbrev pub answer_to : Result FileView Fault → Answer
answer_to (Ok file) = record { status = 0; output = file.bytes; faults = [] }
answer_to (Err fault) = record { status = exit_status fault.kind; output = []; faults = fault_line fault }

-- A line went to the fault stream and the status is the one meant; or the write failed, and at most a beginning of the line is there.
abbrev pub IsReported : ℕ → List ℕ → ℕ → Option (List ℕ) → Option (List ℕ) → Type 0
IsReported meant line status faults faults' =
    ((status ≡ meant) × Appends faults faults' line) ⊎ ((status ≡ 3) × AppendsFront faults faults' line)

-- what is on the output after a fault: at most a beginning of what is defined where a write failed, and else nothing
abbrev pub LeavesOutput : FaultKind → Option (List ℕ) → Option (List ℕ) → List ℕ → Type 0
LeavesOutput Write output output' bytes = AppendsFront output output' bytes
LeavesOutput _ output output' bytes = Appends output output' []

-- A command failed: memory, a read or a write did, or the line of the defined refusal couldn't be written. The line of what failed, or a beginning
-- of it, is all that stands on the fault stream.
abbrev pub CommandFails : Answer → Ending → Type 0
CommandFails answer end =
    (fault : Fault) × ((exit_status fault.kind ≡ 3) ⊎ (answer.faults ≡ fault_line fault))
    × LeavesOutput fault.kind end.output end.output' answer.output × AppendsFront end.faults end.faults' (fault_line fault)

-- The command ended with this answer, as far as output and fault stream tell what they hold; or memory, a read or a write failed.
abbrev pub Answers : Answer → Ending → Type 0
Answers answer end =
    ((end.status ≡ answer.status) × Appends end.output end.output' answer.output × Appends end.faults end.faults' answer.faults)
    ⊎ ((end.status ≡ 3) × CommandFails answer end)

-- A compile file is the defined one, a refusal is the defined one; or memory or a read failed.
abbrev pub GivesUnlessFailed : Result FileView Fault → Result FileView Fault → Type 0
GivesUnlessFailed (Ok file) defined = defined ≡ Ok file
GivesUnlessFailed (Err fault) defined = (exit_status fault.kind ≡ 3) ⊎ (defined ≡ Err fault)

-- A command wrote what is defined, or met the defined refusal; or memory, a read or a write failed.
abbrev pub EndsTrial : {U : Type 0} → Result U Fault → Option (List ℕ) → Option (List ℕ) → Result FileView Fault → Type 0
EndsTrial (Ok u) output output' defined = IsOkAnd defined (λ file. Appends output output' file.bytes)
EndsTrial (Err fault) output output' defined =
    ((defined ≡ Err fault) × Appends output output' [])
    ⊎ ((exit_status fault.kind ≡ 3) × LeavesOutput fault.kind output output' (answer_to defined).output)

-- How a command reports its end: a fault by its line, of which only a prefix is written where the write failed.
abbrev pub IsEnd : {U : Type 0} → Result U Fault → ℕ → Option (List ℕ) → Option (List ℕ) → Type 0
IsEnd (Ok u) status faults faults' = (status ≡ 0) × Appends faults faults' []
IsEnd (Err fault) status faults faults' = IsReported (exit_status fault.kind) (fault_line fault) status faults faults'

-- the exit status of a command that ended so; its fault, if any, is reported by its line
abbrev pub IsEndOf : Result ℕ Fault → ℕ → Option (List ℕ) → Option (List ℕ) → Type 0
IsEndOf (Ok meant) status faults faults' = (status ≡ meant) × Appends faults faults' []
IsEndOf (Err fault) status faults faults' = IsReported (exit_status fault.kind) (fault_line fault) status faults faults'
