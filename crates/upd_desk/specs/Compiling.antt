-- A run as it was applied to what was loaded of a library, and as it is answered.
use Rattle.std.specs.Prelude.{◌≡◌, ℕ, ◌≤◌, Bool, true, false, List, [], length, map, Option, Some, None, Ok, Err}
use Rattle.std.specs.List.{AllByRecursion}
use Rattle.upd_text.specs.declared.card_ref.CardRef.{CardRef}
use Rattle.upd_text.specs.declared.fault.Fault.{Fault}
use Rattle.upd_text.specs.declared.fault.FaultKind.TheVariants.{NoMemory}
use Rattle.upd_core.specs.Actives.{ActivesView, actives_of}
use Rattle.upd_core.specs.Serials.{Serial}
use Rattle.upd_core.specs.Counted.{counted_cards}
use Rattle.upd_core.specs.Library.{LibraryView}
use Rattle.upd_core.specs.Parts.{part}
use Rattle.upd_records.specs.Changes.{ChangeView, change_view, done_all}
use Rattle.upd_records.specs.Rows.{Rows, ShowsStates}
use Rattle.upd_diff.specs.States.{TakeGone, row_changes_state}
use Rattle.upd_diff.specs.RowChanges.{RowChanges}
use Rattle.upd_deck.specs.Items.{LineView}
use Rattle.upd_apply.specs.Applying.{Reached, applied, touched}
use Rattle.upd_compile.specs.File.{FileView}
use Rattle.upd_compile.specs.declared.mode.Mode.{Mode}
use Rattle.upd_compile.specs.declared.mode.Mode.TheVariants.{Quick}
use Rattle.upd_yank.specs.Affected.{affected, altered}
use Rattle.upd_yank.specs.Enough.{IsEnough}
use Rattle.upd_yank.specs.Renewed.{renewed}
use Rattle.upd_yank.specs.Right.{CacheView, IsRight, IsRunBetween}
use Rattle.upd_desk.specs.Arrivals.{ArrivalView, check_arrival}
use Rattle.upd_desk.specs.Made.{LeadTo, looked_at}
use Rattle.upd_desk.specs.Outcomes.{Compiled, compiled, outcome, outcome_by}
use Rattle.upd_desk.specs.declared.outcome.AppliedRun.{AppliedRun}
use Rattle.upd_desk.specs.declared.outcome.RunOutcome.{RunOutcome}

-- a part of a library, with `YANK$$$`
abbrev pub IsPartOf : LibraryView → LibraryView → Type 0
IsPartOf l loaded = (out : Serial → Bool) × (out 0 ≡ false) × (loaded ≡ part out l)

-- the references of all cards, by deck (`YANK$$$` first) and place
abbrev pub references_of : LibraryView → List CardRef
references_of l = map (λ k. k.card) (counted_cards l)

-- The status update of a run, made on the loaded part of a library, is right for the whole library.
pub record UpdatesAsWhole (l loaded : LibraryView) (reached : Reached) (run : AppliedRun) : Type 0 where
  -- a cache that was right for the part is right for the update of this run
  pub between : (cache : CacheView) → IsRight loaded cache → IsRunBetween loaded run.library cache run.applied.touched.items
  -- the part has all cards that the update looks at
  pub enough : IsEnough run.applied.touched.items loaded run.library run.library
  -- the row changes of the run take away the statuses of cards that are gone
  pub takes : TakeGone loaded run.library (map change_view run.applied.changes.items)
  -- as many cards are looked at as are affected in the whole library
  pub looks : length (affected run.applied.touched.items loaded run.library) ≡ length (affected (touched l reached.library) l reached.library)
  -- status changes that are right for the rows of the part are right for the rows of the whole
  pub leads : (settled : List ChangeView) → AllByRecursion (λ c. row_changes_state c ≡ true) settled
      → ((rows : Rows) → ShowsStates rows loaded → ShowsStates (done_all settled (done_all (map change_view run.applied.changes.items) rows)) run.library)
      → (rows : Rows) → ShowsStates rows l → ShowsStates (done_all settled (done_all (map change_view run.applied.changes.items) rows)) reached.library
  -- the active cards of the whole library follow from the statuses of the part
  pub renews : (cache : CacheView) → IsRight run.library cache → renewed cache.states run.library (actives_of l) ≡ actives_of reached.library

-- A run was applied to the loaded part of a library, and this is what it reaches from the whole library: the same idents, compile names and
-- directory, row changes that make the one of the other, and a status update that is right for the whole.
pub record IsAppliedRun (lines : List LineView) (l loaded : LibraryView) (reached : Reached) (run : AppliedRun) : Type 0 where
  pub applied : applied lines l ≡ Ok reached
  pub idents : run.applied.idents.items ≡ reached.idents
  pub compile : run.applied.compile.items ≡ reached.compile
  pub directory : run.library.idents ≡ reached.library.idents
  pub row_changes : RowChanges l reached.library (map change_view run.applied.changes.items)
  pub part : IsPartOf l loaded
  pub status_update : UpdatesAsWhole l loaded reached run

-- the library after an accepted run and its compile file are those of its outcome
pub record IsSeen (done : Compiled) (run : AppliedRun) (file : FileView) : Type 0 where
  pub directory : run.library.idents ≡ done.reached.library.idents
  pub idents : run.applied.idents.items ≡ done.reached.idents
  pub written : file ≡ done.file

-- What is known of the outcome of a refused run: it has the reply with its fault, and changes nothing. Out of memory is no refusal.
pub record IsRefusal (a : ArrivalView) (fault : Fault) (o : RunOutcome) : Type 0 where
  pub reply : (mode : Mode) (l : LibraryView) → check_arrival a ≡ Ok mode → o.reply ≡ (outcome_by a l (Err fault)).reply
  pub changes : o.changes.items ≡ []
  pub work : o.work ≡ 0
  pub kind : fault.kind ≡ NoMemory → ⊥

-- the active cards of a library, or none where a mode writes no line of them
abbrev pub AreActivesFor : Mode → List ℕ → LibraryView → Option ActivesView → Type 0
AreActivesFor mode named l (Some before) = before ≡ actives_of l
AreActivesFor mode named l None = (mode ≡ Quick) × (named ≡ [])

-- What is known of the answer to a new run that came to a library which tables show.
pub record IsOutcomeOf (mode : Mode) (a : ArrivalView) (l : LibraryView) (rows : Rows) (o : RunOutcome) : Type 0 where
  pub reply : o.reply ≡ (outcome mode a l).reply
  pub leads : LeadTo (map change_view o.changes.items) rows (outcome mode a l).library
  pub work : o.work ≡ looked_at l (compiled mode a.bytes l)
  pub least : length (altered l (outcome mode a l).library) ≤ o.work
