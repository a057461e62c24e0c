-- Exit statuses and fault lines.
use Rattle.std.specs.Prelude.{ℕ, List, [], ◌∷◌, ◌++◌, codes, decimal}
use Rattle.upd_text.specs.declared.fault.Fault.{Fault}
use Rattle.upd_text.specs.declared.fault.FaultKind.{FaultKind}
use Rattle.upd_text.specs.declared.fault.FaultKind.TheVariants.{NoMemory, Store, Read, Write}
use Rattle.upd_text.specs.Faults.{fault_name, fault_number}
pub use Rattle.upd_words.specs.Words.{no_memory}

-- the exit status of a fault: 3 where memory, the store, a read or a write failed, and 1 for a refusal
abbrev pub exit_status : FaultKind → ℕ
exit_status NoMemory = 3
exit_status Store = 3
exit_status Read = 3
exit_status Write = 3
exit_status _ = 1

-- the line of a fault on the fault stream, as `upd: CardUnknown (13) at 2`
abbrev pub fault_line : Fault → List ℕ
fault_line fault =
    codes "upd: " ++ fault_name fault.kind ++ codes " (" ++ decimal (fault_number fault.kind) ++ codes ") at " ++ decimal fault.at ++ 10 ∷ []

-- the line where the words of the command line are not available
abbrev pub no_words_line : List ℕ
no_words_line = codes "error: the words of the command line can't be read as text\n"

-- reads and writes that failed
abbrev pub read_failed : Fault
read_failed = record { kind = Read; at = 0 }

abbrev pub write_failed : Fault
write_failed = record { kind = Write; at = 0 }
