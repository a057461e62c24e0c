-- How `correct` answers where the file has a deck's listing in place of a library.
use Rattle.std.specs.Prelude.{◌≤◌, ◌<◌, ◌⊎◌, ℕ, Bool, List, [], ◌∷◌, ◌++◌, codes, decimal, length, Option, Result, Ok, Err}
use Rattle.std.specs.Io.KnownBytes.{Appends}
use Rattle.upd_text.specs.Faults.{fault_at}
use Rattle.upd_text.specs.Names.{is_between}
use Rattle.upd_text.specs.declared.fault.FaultKind.TheVariants.{RunLong}
use Rattle.upd_correct.specs.ListedRuns.{IsListedCause, IsListedRun}
use Rattle.upd_correct.specs.declared.listed_deck.ListedError.{ListedError}
use Rattle.upd_correct.specs.declared.listed_deck.ListedError.TheVariants.{NoMemory, NotListing, OtherDeck, Refused}
use Rattle.upd_edit.specs.declared.editing.EditError.TheVariants.{Failed}
use Rattle.upd_edit.specs.declared.editing.TheConstants.{MAX_TEXT_BYTES}
use Rattle.upd_subcommands.specs.Command.{Ending, IsReported}
use Rattle.upd_subcommands.specs.Correcting.{IsRefusedBy, ReportsCorrection}
use Rattle.upd_subcommands.specs.Status.{fault_line, no_memory}

-- a listing has 1 to 5,000,025 bytes
abbrev pub is_listing_length : ℕ → Bool
is_listing_length length = is_between 1 5000025 length

-- the line that reports what is wrong in a line: name, place and words, as `OtherDeck 3:1 this line begins a deck that FILE does not list`
abbrev pub place_line : List ℕ → ℕ → List ℕ → List ℕ
place_line name line what = name ++ 32 ∷ decimal line ++ codes ":1 " ++ what ++ 10 ∷ []

abbrev pub not_listing_line : ℕ → List ℕ
not_listing_line line = place_line (codes "NotListing") line (codes "FILE is not a library, and this line of it is not one of a deck's listing")

abbrev pub other_deck_line : ℕ → List ℕ
other_deck_line line = place_line (codes "OtherDeck") line (codes "this line begins a deck that FILE does not list")

-- why there is no run from a listing, on the fault stream
abbrev pub IsListedFault : ListedError → ℕ → Option (List ℕ) → Option (List ℕ) → Type 0
IsListedFault NoMemory status faults faults' = IsReported 3 (fault_line no_memory) status faults faults'
IsListedFault (NotListing line) status faults faults' = IsReported 1 (not_listing_line line) status faults faults'
IsListedFault (OtherDeck line) status faults faults' = IsReported 1 (other_deck_line line) status faults faults'
IsListedFault (Refused refusals) status faults faults' = IsRefusedBy refusals.items status faults faults'

-- the run from a listing is on the output; or the fault stream says why there isn't one, and nothing is on the output
abbrev pub ReportsListing : List ℕ → List ℕ → List ℕ → Result (List ℕ) ListedError → Ending → Type 0
ReportsListing listing set text (Ok run) end = IsListedRun listing set text run × ReportsCorrection (Ok run) end
ReportsListing listing set text (Err error) end =
    IsListedCause listing set text error × IsListedFault error end.status end.faults end.faults' × Appends end.output end.output' []

-- An edited text was answered from this listing, and the answer was told. A text that is too long is RunLong, at 0.
abbrev pub CorrectsListing : List ℕ → List ℕ → List ℕ → Ending → Type 0
CorrectsListing listing set text end =
    ((length text ≤ MAX_TEXT_BYTES) × (answer : Result (List ℕ) ListedError) × ReportsListing listing set text answer end)
    ⊎ ((MAX_TEXT_BYTES < length text) × ReportsCorrection (Err (Failed (fault_at RunLong 0))) end)

-- an edited text was answered from the listing in a file
abbrev pub CorrectsListed : List ℕ → List ℕ → Ending → Type 0
CorrectsListed set text end = (listing : List ℕ) × CorrectsListing listing set text end
