-- How `correct` reports its answer: the run on the output, or on the fault stream why there isn't one.
use Rattle.std.specs.Prelude.{◌⊎◌, ℕ, List, [], Option, Result, Ok, Err}
use Rattle.std.specs.Io.KnownBytes.{Appends}
use Rattle.upd_text.specs.declared.fault.Fault.{Fault}
use Rattle.upd_correct.specs.declared.refusal.Refusal.{Refusal}
use Rattle.upd_edit.specs.RefusalLines.{refusal_lines}
use Rattle.upd_edit.specs.declared.editing.EditError.{EditError}
use Rattle.upd_edit.specs.declared.editing.EditError.TheVariants.{Failed, Refused}
use Rattle.upd_subcommands.specs.Command.{Ending, IsEnd, IsReported}
use Rattle.upd_subcommands.specs.Status.{exit_status, fault_line, no_memory}
use Rattle.upd_subcommands.specs.Reporting.{Writes}

-- the lines of refusals are reported, with status 1; or there was no memory for them, and that is reported
abbrev pub IsRefusedBy : List Refusal → ℕ → Option (List ℕ) → Option (List ℕ) → Type 0
IsRefusedBy refusals status faults faults' =
    IsReported 1 (refusal_lines refusals) status faults faults' ⊎ IsReported 3 (fault_line no_memory) status faults faults'

-- the run is on the output, or the write failed and is reported; refusals and failures are reported by their lines, and then nothing is on the output
abbrev pub ReportsCorrection : Result (List ℕ) EditError → Ending → Type 0
ReportsCorrection (Ok run) end =
    (ended : Result ℕ Fault) × Writes 0 run ended end.output end.output' × IsEnd ended end.status end.faults end.faults'
ReportsCorrection (Err (Failed fault)) end =
    IsReported (exit_status fault.kind) (fault_line fault) end.status end.faults end.faults' × Appends end.output end.output' []
ReportsCorrection (Err (Refused refusals)) end =
    IsRefusedBy refusals.items end.status end.faults end.faults' × Appends end.output end.output' []
