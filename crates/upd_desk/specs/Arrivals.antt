-- What arrives at the desk, and the admission checks.
use Rattle.std.specs.Prelude.{ℕ, nat_lt, nat_le, Bool, not, ◌&&◌, ◌||◌, List, length, Result, Ok}
use Rattle.std.specs.List.{list_all}
use Rattle.upd_text.specs.declared.fault.Fault.{Fault}
use Rattle.upd_text.specs.declared.fault.FaultKind.TheVariants as fault
use Rattle.upd_text.specs.declared.limits.TheConstants.{MAX_RUN_BYTES}
use Rattle.upd_text.specs.Keys.{is_run_number, is_site}
use Rattle.upd_text.specs.Outcome.{◌>>=◌, at_line, need, refuse_if}
use Rattle.upd_compile.specs.Modes.{mode_named}
use Rattle.upd_compile.specs.declared.mode.Mode.{Mode}
use Rattle.upd_compile.specs.declared.mode.Mode.TheVariants.{Full, Quick, Normal}

-- An arrival: a site, a number, a mode as a word, and the bytes of a run. Site and number are its key.
pub record ArrivalView : Type 0 where
  pub site : List ℕ
  pub number : ℕ
  pub mode : List ℕ
  pub bytes : List ℕ

-- an arrival with these parts
abbrev pub arrival_view : List ℕ → ℕ → List ℕ → List ℕ → ArrivalView
arrival_view site number mode bytes = record { site = site; number = number; mode = mode; bytes = bytes }

-- site and number are checked first
abbrev pub check_key : List ℕ → ℕ → Result Bool Fault
check_key site number = do
  _ ← at_line 0 (refuse_if (not (is_site site)) fault.BadSite)
  at_line 0 (refuse_if (not (is_run_number number)) fault.BadNumber)

-- The admission checks: the mode of an arrival, or its first refusal, which stores nothing.
abbrev pub check_arrival : ArrivalView → Result Mode Fault
check_arrival a = do
  _ ← check_key a.site a.number
  mode ← at_line 0 (need fault.BadMode (mode_named a.mode))
  _ ← at_line 0 (refuse_if (nat_lt MAX_RUN_BYTES (length a.bytes)) fault.RunLong)
  Ok mode

-- the number by which the tables know a mode
abbrev pub mode_number : Mode → ℕ
mode_number Full = 0
mode_number Quick = 1
mode_number Normal = 2
