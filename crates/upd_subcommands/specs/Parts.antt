-- The spool of `correct-parts`: its frames, and how it is reported.
use Rattle.std.specs.Prelude.{◌≡◌, ℕ, ◌+◌, ◌<◌, ◌≤◌, ◌⊎◌, true, false, List, [], ◌∷◌, length, Bool, Option, None, Some, Result, Ok, Err, IfErr, IfOk, IsOk}
use Rattle.upd_text.specs.Faults.{fault_at}
use Rattle.upd_text.specs.Outcome.{◌>>=◌}
use Rattle.upd_text.specs.Units.{Bytes}
use Rattle.upd_text.specs.declared.fault.Fault.{Fault}
use Rattle.upd_text.specs.declared.fault.FaultKind.TheVariants.{RunLong}
use Rattle.upd_core.specs.Library.{LibraryView}
use Rattle.upd_compile.specs.declared.mode.Mode.{Mode}
use Rattle.upd_row_store.specs.declared.meaning.Meaning.{Ghosts}
use Rattle.upd_row_store.specs.Keeping.{IsLost, Keeps}
use Rattle.upd_correct.specs.Causes.{refusal_at_0}
use Rattle.upd_correct.specs.Parts.{ArePartsRefusals, CorrectsInParts}
use Rattle.upd_correct.specs.declared.refusal.Problem.TheVariants.{NumberUsed}
use Rattle.upd_correct.specs.declared.refusal.Refusal.{Refusal}
use Rattle.upd_desk.specs.Arrivals.{ArrivalView, arrival_view, check_arrival}
use Rattle.upd_desk.specs.Holding.{EachHeld}
use Rattle.upd_desk.specs.Journal.{Journal, is_known, library_after}
use Rattle.upd_wire.specs.Frames.{frames_text}
use Rattle.upd_edit.specs.declared.editing.EditError.{EditError}
use Rattle.upd_edit.specs.declared.editing.EditError.TheVariants.{Failed, Refused}
use Rattle.upd_edit.specs.declared.editing.TheConstants.{MAX_TEXT_BYTES}
use Rattle.upd_subcommands.specs.Command.{Ending}
use Rattle.upd_subcommands.specs.Correcting.{ReportsCorrection}

-- the frames of runs of a site, numbered from a number on
abbrev pub frames_from : Bytes → ℕ → Bytes → List Bytes → List ArrivalView
frames_from site number mode [] = []
frames_from site number mode (run ∷ runs) = arrival_view site number mode run ∷ frames_from site (number + 1) mode runs

-- an arrival passes the admission checks
abbrev pub IsAdmitted : ArrivalView → Type 0
IsAdmitted a = (mode : Mode) × (check_arrival a ≡ Ok mode)

-- the admission checks of arrivals one after the other: the first refusal decides
abbrev pub check_all : List ArrivalView → Result Bool Fault
check_all [] = Ok true
check_all (a ∷ later) = do
  _ ← check_arrival a
  check_all later

-- the admission checks of the frames of runs; site, number and mode are checked even where there is no run
abbrev pub check_frames : Bytes → ℕ → Bytes → List Bytes → Result Bool Fault
check_frames site number mode runs = check_all (arrival_view site number mode [] ∷ frames_from site number mode runs)

-- A spool has the frames of runs that lead the decks of an edited text to it one after the other. They pass the admission checks.
pub record IsSpoolTo (l : LibraryView) (set site : Bytes) (number : ℕ) (mode text spool : Bytes) : Type 0 where
  pub runs : List Bytes
  pub corrects : CorrectsInParts l set text runs
  pub frames : spool ≡ frames_text (frames_from site number mode runs)
  pub admitted : IsOk (check_frames site number mode runs)

-- ---- numbers

-- a site has neither used nor settled a number from one on and below another
abbrev pub AreFree : Journal → Bytes → ℕ → ℕ → Type 0
AreFree journal site number end = (n : ℕ) → n < end → number ≤ n → is_known journal site n ≡ false

-- the first of these numbers that it has used or settled, if there is one
abbrev pub IsFirstUsed : Journal → Bytes → ℕ → ℕ → Option ℕ → Type 0
IsFirstUsed journal site number end None = AreFree journal site number end
IsFirstUsed journal site number end (Some used) =
    (number ≤ used) × (used < end) × (is_known journal site used ≡ true) × AreFree journal site number used

-- A spool whose numbers are free.
pub record IsFreeSpool (journal : Journal) (set site : Bytes) (number : ℕ) (mode text spool : Bytes) : Type 0 where
  pub made : IsSpoolTo (library_after journal) set site number mode text spool
  pub free : AreFree journal site number (number + length made.runs)

-- ---- refusals

-- A spool was made, and is refused for the first of its numbers that is used or settled.
pub record IsUsedSpool (journal : Journal) (set site : Bytes) (number : ℕ) (mode text : Bytes) (refusals : List Refusal) : Type 0 where
  pub spool : Bytes
  pub made : IsSpoolTo (library_after journal) set site number mode text spool
  pub used : ℕ
  pub first : IsFirstUsed journal site number (number + length made.runs) (Some used)
  pub problem : refusals ≡ refusal_at_0 (NumberUsed used) ∷ []

-- a text is refused as in parts, or for a number
abbrev pub IsSpoolRefusal : Journal → Bytes → Bytes → ℕ → Bytes → Bytes → EditError → Type 0
IsSpoolRefusal journal set site number mode text (Failed fault) = Unit {0}
IsSpoolRefusal journal set site number mode text (Refused refusals) =
    ArePartsRefusals (library_after journal) set text refusals.items ⊎ IsUsedSpool journal set site number mode text refusals.items

-- the error of a number that is used or settled; memory for it may be out
abbrev pub IsUsedError : ℕ → EditError → Type 0
IsUsedError number (Failed fault) = IsLost fault
IsUsedError number (Refused refusals) = refusals.items ≡ refusal_at_0 (NumberUsed number) ∷ []

module _ {S : Type 0} (meaning : Ghosts S) where
  -- A failure is a loss, or the text is too long, or the frames of runs that lead its decks to it are refused by the admission checks.
  abbrev pub IsSpoolFailure : Bytes → Bytes → ℕ → Bytes → Bytes → S → S → EditError → Type 0
  IsSpoolFailure set site number mode text old new (Failed fault) = IsLost fault
      ⊎ (((MAX_TEXT_BYTES < length text) × (fault ≡ fault_at RunLong 0))
      ⊎ ((runs : List Bytes) × EachHeld meaning old new (λ journal. CorrectsInParts (library_after journal) set text runs)
      × (check_frames site number mode runs ≡ Err fault)))
  IsSpoolFailure set site number mode text old new (Refused refusals) = Unit {0}

  -- An edited text is answered by such a spool of free numbers, or by what is wrong with it or with them. Nothing is changed.
  pub record IsPartsAnswer (set site : Bytes) (number : ℕ) (mode text : Bytes) (answer : Result Bytes EditError) (old new : S) : Type 0 where
    pub spool : EachHeld meaning old new (λ journal. IfOk answer (IsFreeSpool journal set site number mode text))
    pub refused : EachHeld meaning old new (λ journal. IfErr answer (IsSpoolRefusal journal set site number mode text))
    pub failed : IfErr answer (IsSpoolFailure set site number mode text old new)
    pub same : Keeps meaning old new

  -- an edited text was answered by a spool, and the answer was told
  abbrev pub CorrectsParts : Bytes → Bytes → ℕ → Bytes → Bytes → S → S → Ending → Type 0
  CorrectsParts set site number mode text old new end =
      (answer : Result Bytes EditError) × IsPartsAnswer set site number mode text answer old new × ReportsCorrection answer end
