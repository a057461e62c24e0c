-- How `explain` reports what a fault means.
use Rattle.std.specs.Prelude.{ℕ, List, [], ◌++◌, Option, Some, None, Result, codes}
use Rattle.std.specs.Io.KnownBytes.{Appends}
use Rattle.upd_text.specs.declared.fault.Fault.{Fault}
use Rattle.upd_views.specs.FaultTexts.{explained, fault_list}
use Rattle.upd_subcommands.specs.Command.{Ending, IsEndOf, IsReported}
use Rattle.upd_subcommands.specs.Reporting.{Writes}

-- what is said where a word names no fault: the line of BadName, and a list of all faults
abbrev pub not_explained : List ℕ
not_explained = codes "upd: BadName (5) at 0\n" ++ fault_list

-- an explanation is on the output, or it was not to be written; where there isn't one, that is said
abbrev pub Explains : Option (List ℕ) → Ending → Type 0
Explains (Some text) end =
    (ended : Result ℕ Fault) × Writes 0 text ended end.output end.output' × IsEndOf ended end.status end.faults end.faults'
Explains None end = Appends end.output end.output' [] × IsReported 1 not_explained end.status end.faults end.faults'

-- the explanation of the fault that a word names was reported, and output, fault stream and status show how
abbrev pub IsExplained : List ℕ → Ending → Type 0
IsExplained word end = Explains (explained word) end
