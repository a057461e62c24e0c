-- Why there is no run for an edited text of a desk.
use Rattle.std.specs.Prelude.{◌≡◌, ℕ, ◌≤◌, ◌⊎◌, nat_lt, [], length, unwrap_or, Option, None, Some, Result, Ok, Err, IsOkAnd}
use Rattle.upd_text.specs.declared.fault.Fault.{Fault}
use Rattle.upd_text.specs.declared.fault.FaultKind.TheVariants.{RunLong}
use Rattle.upd_text.specs.declared.fault.FaultKind.TheVariants as kinds
use Rattle.upd_text.specs.Faults.{fault_at}
use Rattle.upd_text.specs.Outcome.{◌>>=◌, at_line, refuse_if}
use Rattle.upd_text.specs.Units.{Bytes}
use Rattle.upd_core.specs.Library.{LibraryView, ident_of}
use Rattle.upd_core.specs.Serials.{Serial}
use Rattle.upd_row_store.specs.Keeping.{IsLost, failures_with}
use Rattle.upd_correct.specs.declared.refusal.CorrectError.{CorrectError}
use Rattle.upd_correct.specs.declared.refusal.CorrectError.TheVariants as error
use Rattle.upd_correct.specs.Causes.{AreRefusals}
use Rattle.upd_correct.specs.Correcting.{CorrectsSince}
use Rattle.upd_correct.specs.Parts.{ArePartsRefusals}
use Rattle.upd_correct.specs.Refusals.{refusals_of}
use Rattle.upd_edit.specs.Earlier.{as_of}
use Rattle.upd_edit.specs.declared.editing.EditError.{EditError}
use Rattle.upd_edit.specs.declared.editing.EditError.TheVariants.{Failed, Refused}
use Rattle.upd_edit.specs.declared.editing.TheConstants.{MAX_TEXT_BYTES}

-- why there is no run, as the desk tells it
abbrev pub edit_error : CorrectError → EditError
edit_error error.NoMemory = Failed (fault_at kinds.NoMemory 0)
edit_error (error.Refused refusals) = Refused refusals

-- a text in parts is refused for its sets, with its problems, or for a part
abbrev pub IsPartsRefusal : LibraryView → Bytes → Bytes → EditError → Type 0
IsPartsRefusal l set text (Failed fault) = Unit {0}
IsPartsRefusal l set text (Refused refusals) = ArePartsRefusals l set text refusals.items

-- a failure is a loss, where the text isn't too long
abbrev pub IsEditLoss : Bytes → EditError → Type 0
IsEditLoss text (Failed fault) = length text ≤ MAX_TEXT_BYTES → IsLost fault
IsEditLoss text (Refused refusals) = Unit {0}

-- the count of failures after an edited text is corrected: only a failure of the store adds one
abbrev pub failures_after_edit : {A : Type 0} → Result A EditError → ℕ → ℕ
failures_after_edit (Ok run) failures = failures
failures_after_edit (Err (Failed fault)) failures = failures_with fault.kind failures
failures_after_edit (Err (Refused refusals)) failures = failures

-- What a text is corrected by that was taken earlier: the library that it was taken from, the serial of its youngest ident, and the library that the
-- run meets.
pub record EditBase : Type 0 where
  pub taken : LibraryView
  pub last : Serial
  pub met : LibraryView

-- what a text is corrected by that was taken when the ident with a name was the youngest; where none is given, from the library as it is
abbrev pub base_in : Option Bytes → LibraryView → Result EditBase Fault
base_in None l = Ok (record { taken = l; last = length l.idents; met = l })
base_in (Some since) l = do
  taken ← as_of since l
  Ok (record { taken = taken; last = unwrap_or (ident_of since l) 0; met = l })

-- the same; a text that is too long is refused first
abbrev pub edited_in : Bytes → Option Bytes → LibraryView → Result EditBase Fault
edited_in text since l = do
  _ ← at_line 0 (refuse_if (nat_lt MAX_TEXT_BYTES (length text)) RunLong)
  base_in since l

-- An edited text is answered by a run that leads its decks to it in the library that the run meets, or by what is wrong with it there or with the
-- text; or a call was lost, or there is no library.
abbrev pub IsAnswerIn : Result EditBase Fault → Bytes → Bytes → Result Bytes EditError → Type 0
IsAnswerIn base set text (Ok run) = IsOkAnd base (λ b. CorrectsSince b.last b.taken b.met set text run × (refusals_of b.taken set text ≡ []))
IsAnswerIn base set text (Err (Refused refusals)) = IsOkAnd base (λ b. AreRefusals b.taken b.met set text refusals.items)
IsAnswerIn base set text (Err (Failed fault)) = IsLost fault ⊎ (base ≡ Err fault)
