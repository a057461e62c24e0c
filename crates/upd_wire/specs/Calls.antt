-- What a request asks of the desk, or why it asks nothing.
use Rattle.std.specs.Prelude.{◌≡◌, ◌⊎◌, ℕ, List, Result, Ok, Err}
use Rattle.std.specs.String.{string_bytes}
use Rattle.upd_text.specs.declared.card_ref.CardRef.{CardRef}
use Rattle.upd_text.specs.declared.fault.FaultKind.{FaultKind}
use Rattle.upd_text.specs.declared.fault.FaultKind.TheVariants.{NoMemory, BadFrame, CutFrame, Read}
use Rattle.upd_text.specs.Faults.{fault_at}
use Rattle.upd_wire.specs.declared.call.DeskCall.{DeskCall}
use Rattle.upd_wire.specs.declared.call.DeskCall.TheVariants.{Run, Settle, Compile, Deck, Card, Idents, Yanks}
use Rattle.upd_wire.specs.declared.call.Refusal.{Refusal}
use Rattle.upd_wire.specs.declared.call.Refusal.TheVariants.{Silent, Answered}

-- What is asked of the desk.
pub data Asked : Type 0 where
  -- a run arrives: site, number, mode, bytes
  run : List ℕ → ℕ → List ℕ → List ℕ → Asked
  -- a site settles its runs up to a number
  settle : List ℕ → ℕ → Asked
  -- the full compile file, a deck's listing, a card's, and those of the directory and the yank cards
  compile : Asked
  deck : List ℕ → Asked
  card : CardRef → Asked
  idents : Asked
  yanks : Asked

-- a call, by the bytes of its texts
abbrev pub asked : DeskCall → Asked
asked (Run site number mode body) = run (string_bytes site) number (string_bytes mode) body.items
asked (Settle site number) = settle (string_bytes site) number
asked Compile = compile
asked (Deck name) = deck name
asked (Card c) = card c
asked Idents = idents
asked Yanks = yanks

-- the refusal that answers a fault of this kind, which has no line
abbrev pub fault_refusal : FaultKind → Refusal
fault_refusal kind = Answered (fault_at kind 0)

-- out of memory
abbrev pub no_memory_refusal : Refusal
no_memory_refusal = fault_refusal NoMemory

-- bytes that are not a request
abbrev pub bad_frame : Refusal
bad_frame = fault_refusal BadFrame

-- a request that ends too early: nothing is answered
abbrev pub cut_frame : Refusal
cut_frame = Silent (fault_at CutFrame 0)

-- a failed read: nothing is answered
abbrev pub read_failed_refusal : Refusal
read_failed_refusal = Silent (fault_at Read 0)

-- A call returned what is defined, as the view shows it, or the defined refusal; or it ran out of memory.
abbrev pub Gives : {X Y : Type 0} → (X → Y) → Result X Refusal → Result Y Refusal → Type 0
Gives view (Ok x) defined = defined ≡ Ok (view x)
Gives view (Err refusal) defined = (refusal ≡ no_memory_refusal) ⊎ (defined ≡ Err refusal)
