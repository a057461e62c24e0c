-- The fault of an error of SQLite.
use Rattle.std.specs.Prelude.{◌≡◌, ◌⊎◌}
use Rattle.sqlite.specs.declared.error.ErrorCode.TheVariants.{OutOfMemory}
use Rattle.sqlite.specs.declared.error.Error.{Error}
use Rattle.sqlite.specs.declared.error.Error.TheVariants.{SqliteFailure}
use Rattle.upd_text.specs.declared.fault.Fault.{Fault}
use Rattle.upd_text.specs.declared.fault.FaultKind.{FaultKind}
use Rattle.upd_text.specs.declared.fault.FaultKind.TheVariants.{NoMemory, Store}
use Rattle.upd_row_store.specs.Keeping.{IsLost}

-- out of memory is NoMemory, any other error a failure of the store
abbrev pub kind_for : Error → FaultKind
kind_for (SqliteFailure OutOfMemory) = NoMemory
kind_for _ = Store

-- the fault of a file that is not opened, made or migrated: that of a call of a store that is lost, or a failure of the store at the version in the file
abbrev pub IsUnopened : Fault → Type 0
IsUnopened fault = IsLost fault ⊎ (fault.kind ≡ Store)
