-- Runs that are handed in only where they meet nothing that others have done.
use Rattle.std.specs.Prelude.{◌≡◌, ◌≢◌, ◌⊎◌, ℕ, if◌then◌else◌, List, [], Result, Ok, Err}
use Rattle.upd_text.specs.declared.fault.Fault.{Fault}
use Rattle.upd_text.specs.declared.fault.FaultKind.TheVariants.{IdentUnknown}
use Rattle.upd_text.specs.Faults.{fault_at}
use Rattle.upd_text.specs.Units.{Bytes}
use Rattle.upd_row_store.specs.declared.meaning.Meaning.{Ghosts}
use Rattle.upd_row_store.specs.Keeping.{IsLost, Keeps}
use Rattle.upd_desk.specs.Arrivals.{ArrivalView}
use Rattle.upd_desk.specs.Holding.{Arrives, EachHeld}
use Rattle.upd_desk.specs.Journal.{Journal, is_known, library_after}
use Rattle.upd_desk.specs.Outcomes.{ReplyView}
use Rattle.upd_edit.specs.declared.warning.Warning.{Warning}
use Rattle.upd_edit.specs.Warnings.{conflicts}

-- what stops a run: its conflicts, where its number is new
abbrev pub stops : Bytes → Bytes → ℕ → Bytes → Journal → Result (List Warning) Fault
stops since site number run journal = if is_known journal site number then Ok [] else conflicts since run (library_after journal)

-- a fault of the look at what came since: a loss, or no held ident has the name
abbrev pub IsLookFault : Fault → Type 0
IsLookFault fault = IsLost fault ⊎ (fault ≡ fault_at IdentUnknown 0)

module _ {S : Type 0} (meaning : Ghosts S) where
  -- A run that nothing stops arrived. One that conflicts stop changed nothing, and they are the answer; so too where SINCE isn't known.
  abbrev pub ArrivesSince : Bytes → ArrivalView → Result (Result ReplyView (List Warning)) Fault → S → S → Type 0
  ArrivesSince since a (Ok (Ok reply)) old new = Arrives meaning a (Ok reply) old new
      × EachHeld meaning old new (λ journal. stops since a.site a.number a.bytes journal ≡ Ok [])
  ArrivesSince since a (Ok (Err met)) old new = Keeps meaning old new × (met ≢ [])
      × EachHeld meaning old new (λ journal. stops since a.site a.number a.bytes journal ≡ Ok met)
  ArrivesSince since a (Err fault) old new = Arrives meaning a (Err fault) old new
      ⊎ (Keeps meaning old new × EachHeld meaning old new (λ journal. stops since a.site a.number a.bytes journal ≡ Err fault))
