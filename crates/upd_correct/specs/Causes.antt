-- Why there is no run for an edited text.
use Rattle.std.specs.Prelude.{◌≡◌, ◌<◌, List, [], ◌∷◌, length, map, Err}
use Rattle.std.specs.List.{filter}
use Rattle.upd_text.specs.declared.limits.TheConstants.{MAX_RUN_BYTES, MAX_RUN_LINES}
use Rattle.upd_text.specs.declared.fault.Fault.{Fault}
use Rattle.upd_text.specs.declared.fault.FaultKind.TheVariants as fault
use Rattle.upd_text.specs.Units.{Bytes}
use Rattle.upd_core.specs.Library.{LibraryView}
use Rattle.upd_deck.specs.Reading.{is_feed}
use Rattle.upd_correct.specs.declared.in_the_way.InTheWay.{InTheWay}
use Rattle.upd_correct.specs.declared.refusal.CorrectError.{CorrectError}
use Rattle.upd_correct.specs.declared.refusal.CorrectError.TheVariants.{NoMemory, Refused}
use Rattle.upd_correct.specs.declared.refusal.Problem.{Problem}
use Rattle.upd_correct.specs.declared.refusal.Problem.TheVariants.{Conflict, TooManyLines, RunLong, Full, Unchecked}
use Rattle.upd_correct.specs.declared.refusal.Refusal.{Refusal}
use Rattle.upd_correct.specs.Checked.{result_of}
use Rattle.upd_correct.specs.Refusals.{refusals_of}

-- The run is too long, or the library has no room for it; or it does not pass the check, and this doesn't say why.
abbrev pub IsRunProblem : LibraryView → Bytes → Problem → Type 0
IsRunProblem l run TooManyLines = MAX_RUN_LINES < length (filter is_feed run)
IsRunProblem l run RunLong = MAX_RUN_BYTES < length run
IsRunProblem l run Full = (refusal : Fault) × (refusal.kind ≡ fault.Full) × (result_of run l ≡ Err refusal)
IsRunProblem l run Unchecked = Unit {0}
IsRunProblem l run _ = ⊥

-- a refusal that is not one of a line
abbrev pub refusal_at_0 : Problem → Refusal
refusal_at_0 problem = record { line = 0; column = 0; problem = problem }

-- the refusals for cards that are in the way
abbrev pub conflicts : List InTheWay → List Refusal
conflicts found = map (λ way. refusal_at_0 (Conflict way.card way.set)) found

-- An edited text is refused for all that is wrong with it in the library that it was taken from. Where that is nothing, it is refused for what is
-- wrong with the run that was found in the library that it meets, or for the cards that are in its way there.
pub data AreRefusals (taken l : LibraryView) (set text : Bytes) (refusals : List Refusal) : Type 0 where
  OfText : (refusals ≡ [] → ⊥) → refusals ≡ refusals_of taken set text → AreRefusals taken l set text refusals
  OfRun : (problem : Problem) (run : Bytes) → refusals_of taken set text ≡ [] → refusals ≡ refusal_at_0 problem ∷ []
      → IsRunProblem l run problem → AreRefusals taken l set text refusals
  OfCards : (found : List InTheWay) → (found ≡ [] → ⊥) → refusals_of taken set text ≡ [] → refusals ≡ conflicts found
      → AreRefusals taken l set text refusals

-- the cause of an error of a text with problems: memory runs out at any time
abbrev pub IsTextCause : LibraryView → Bytes → Bytes → CorrectError → Type 0
IsTextCause l set text NoMemory = Unit {0}
IsTextCause l set text (Refused refusals) = (refusals.items ≡ [] → ⊥) × (refusals.items ≡ refusals_of l set text)

-- the cause of an error
abbrev pub IsCauseSince : LibraryView → LibraryView → Bytes → Bytes → CorrectError → Type 0
IsCauseSince taken l set text NoMemory = Unit {0}
IsCauseSince taken l set text (Refused refusals) = AreRefusals taken l set text refusals.items

-- the same of a text that was taken from the library that the run meets
abbrev pub IsCause : LibraryView → Bytes → Bytes → CorrectError → Type 0
IsCause l = IsCauseSince l l
