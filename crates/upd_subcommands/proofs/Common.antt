-- What the proofs of this crate share: the words of its definitions and of those below, and the lemmas that more than one proof cites.
pub use Rattle.std.proofs.Common.{IsErrAnd, None, Some, below_more, false}
pub use Rattle.upd_compile.proofs.Common.{FileView, Global, Vec}
pub use Rattle.upd_core.proofs.Common.{[], ℕ, ◌++◌, ◌+◌, ◌<◌, ◌∙◌, ◌∷◌, ◌≡◌, ◌≤◌, List, Option, ap, append_assoc, arith, common_steps}
pub use Rattle.upd_core.proofs.Common.{flat_map, get_or, length, map, refl, rules, subst, sym, take}
pub use Rattle.upd_correct.specs.declared.refusal.Refusal.{Refusal}
pub use Rattle.upd_deck.proofs.Common.{◌⊎◌, Err, Ok, Result, take_all}
pub use Rattle.upd_desk.proofs.Common.{Keeps}
pub use Rattle.upd_desk.specs.Arrivals.{arrival_view}
pub use Rattle.upd_desk.specs.Holding.{Tells}
pub use Rattle.upd_edit.specs.declared.editing.EditError.{EditError}
pub use Rattle.upd_edit.specs.declared.editing.EditError.TheVariants.{Failed, Refused}
pub use Rattle.upd_row_store.specs.declared.meaning.Meaning.{Ghosts}
pub use Rattle.upd_subcommands.specs.Command.{IsReported, ending}
pub use Rattle.upd_subcommands.specs.Correcting.{IsRefusedBy, ReportsCorrection}
pub use Rattle.upd_subcommands.specs.Parts.{IsAdmitted, frames_from}
pub use Rattle.upd_subcommands.specs.Status.{exit_status, fault_line, no_memory, read_failed}
pub use Rattle.upd_subcommands.specs.Streams.{IsRunOn}
pub use Rattle.upd_subcommands.specs.Trial.{trial_of}
pub use Rattle.upd_text.specs.Outcome.{GivesAt}
pub use Rattle.upd_text.specs.declared.fault.Fault.{Fault}
pub use Rattle.upd_text.specs.declared.fault.FaultKind.{FaultKind}
pub use Rattle.upd_text.specs.declared.fault.FaultKind.TheVariants.{NoMemory, Read, Store, Write}
pub use Rattle.upd_wire.proofs.Common.{Appends-nil, append-nil, cases_lt, frame_text, frames_text, inl, inr}
pub use Rattle.upd_wire.proofs.FrontLemmas.{front_same}
pub use Rattle.upd_wire.proofs.InputLemmas.{some_input}
