-- When a store holds what a desk owes after a journal, and what a crash may have left of it.
use Rattle.std.specs.Prelude.{◌≡◌, ℕ, ◌+◌, ◌≤◌, Bool, true, false, ◌⊎◌, if◌then◌else◌, List, [], ◌∷◌, ◌++◌, length, None, IsSome}
use Rattle.std.specs.Prelude.{Result, Ok, Err, IfErr, IfOk, IsErr, IsErrAnd, IsOk, OnErr, OnOk}
use Rattle.std.specs.List.{AllByRecursion, AllZip, Any, find}
use Rattle.std.specs.Option.{option_map_or}
use Rattle.upd_text.specs.declared.fault.Fault.{Fault}
use Rattle.upd_text.specs.declared.fault.FaultKind.{FaultKind}
use Rattle.upd_text.specs.declared.fault.FaultKind.TheVariants.{NoMemory, Store}
use Rattle.upd_text.specs.declared.fault.FaultKind.TheVariants as kinds
use Rattle.upd_text.specs.Faults.{fault_at}
use Rattle.upd_text.specs.Outcome.{◌>>=◌}
use Rattle.upd_core.specs.Library.{LibraryView}
use Rattle.upd_records.specs.Rows.{Rows, Shows, ShowsStates}
use Rattle.upd_compile.specs.declared.mode.Mode.{Mode}
use Rattle.upd_yank.specs.Affected.{altered}
use Rattle.upd_row_store.specs.declared.meaning.Meaning.{Ghosts}
use Rattle.upd_row_store.specs.Keeping.{CountsFailure, IsLater, IsLost, IsShown, Keeps, OpensOk, failures_after}
use Rattle.upd_row_store.specs.Tables.{is_mark_of, is_run, mark_at, run_at}
use Rattle.upd_row_store.specs.declared.store.StoredRuns.{StoredRuns}
use Rattle.upd_desk.specs.Arrivals.{ArrivalView, check_arrival, check_key}
use Rattle.upd_desk.specs.Journal.{Event, Came, Settled, Journal, answer, kept, mark, run_of, library_after}
use Rattle.upd_desk.specs.Made.{IsMade, work_of}
use Rattle.upd_desk.specs.Needed.{needed_by}
use Rattle.upd_desk.specs.Outcomes.{ReplyView, outcome}

-- Tables hold what is expected after a journal: the library with its statuses and counts, the stored replies, and the marks.
pub record Holds (journal : Journal) (rows : Rows) : Type 0 where
  pub library : Shows rows (library_after journal)
  pub states : ShowsStates rows (library_after journal)
  pub runs : (site : List ℕ) (number : ℕ) → run_at site number rows ≡ kept journal site number
  pub marks : (site : List ℕ) → mark_at site rows ≡ mark journal site

-- Stored runs and marks are those that are expected after a journal: under each key its run, and each site's mark.
pub record AreStored (journal : Journal) (found : StoredRuns) : Type 0 where
  pub runs : (site : List ℕ) (number : ℕ) → find (is_run site number) found.runs.items ≡ kept journal site number
  pub marks : (site : List ℕ) → option_map_or (λ m. m.mark) (find (is_mark_of site) found.marks.items) 0 ≡ mark journal site

-- whether an arrival counts as lost after a fault: out of memory, or a failure of the store
abbrev pub is_lost : FaultKind → Bool
is_lost NoMemory = true
is_lost Store = true
is_lost _ = false

-- the journal after an arrival was answered so
abbrev pub after : Journal → ArrivalView → Result ReplyView Fault → Journal
after journal a (Ok reply) = Came a ∷ journal
after journal a (Err fault) = if is_lost fault.kind then journal else Came a ∷ journal

-- a call answered what is expected, or it was lost
abbrev pub IsOwed : {A : Type 0} → Result A Fault → Result A Fault → Type 0
IsOwed owed (Ok x) = owed ≡ Ok x
IsOwed owed (Err fault) = IsLost fault ⊎ (owed ≡ Err fault)

-- the answer is the one that is expected, or the arrival was lost
abbrev pub IsAnswer : Journal → ArrivalView → Result ReplyView Fault → Type 0
IsAnswer journal a result = IsOwed (answer journal a) result

-- the faults that an arrival can get: a loss, a refusal by the admission checks, or Settled or RunChanged at 0
abbrev pub IsArrivalFault : ArrivalView → Fault → Type 0
IsArrivalFault a fault =
    IsLost fault ⊎ ((check_arrival a ≡ Err fault) ⊎ ((fault ≡ fault_at kinds.Settled 0) ⊎ (fault ≡ fault_at kinds.RunChanged 0)))

-- those of a settlement: a loss, or a refusal of its site or its number
abbrev pub IsSettlementFault : List ℕ → ℕ → Fault → Type 0
IsSettlementFault site n fault = IsLost fault ⊎ (check_key site n ≡ Err fault)

-- a refusal by the first checks is the answer, and the store isn't called
abbrev pub IsUnadmitted : {X A S : Type 0} → Result X Fault → Result A Fault → S → S → Type 0
IsUnadmitted checked result old new = IfErr checked (λ fault. IsErrAnd result (λ e. e ≡ fault) × (new ≡ old))

-- what is in hand after an arrival: nothing after a reply, one more where it was lost, and the same after a refusal that isn't kept
abbrev pub in_hand_after : ArrivalView → List Event → Result ReplyView Fault → List Event
in_hand_after a in_hand (Ok reply) = []
in_hand_after a in_hand (Err fault) = if is_lost fault.kind then Came a ∷ in_hand else in_hand

-- what a settlement is answered: the first refusal of its site and its number, or the site's mark afterwards
abbrev pub mark_after : Journal → List ℕ → ℕ → Result ℕ Fault
mark_after journal site n = do
  _ ← check_key site n
  Ok (mark (Settled site n ∷ journal) site)

-- the journal after a settlement was answered so
abbrev pub after_settlement : Journal → List ℕ → ℕ → Result ℕ Fault → Journal
after_settlement journal site n (Ok mark) = Settled site n ∷ journal
after_settlement journal site n (Err fault) = journal

-- what is in hand after a settlement: nothing after a mark, one more where it was lost, and the same after a refusal
abbrev pub in_hand_after_settlement : List ℕ → ℕ → List Event → Result ℕ Fault → List Event
in_hand_after_settlement site n in_hand (Ok mark) = []
in_hand_after_settlement site n in_hand (Err fault) = if is_lost fault.kind then Settled site n ∷ in_hand else in_hand

-- the number of cards that are looked at for an arrival: as many as its run can have changed, and those whose status it changes are among them
abbrev pub IsWork : Journal → ArrivalView → ℕ → Type 0
IsWork journal a work = (work ≡ work_of journal a) × (length (altered (library_after journal) (library_after (Came a ∷ journal))) ≤ work)

-- ---- arrivals one after the other

-- the journal after arrivals were answered so
abbrev pub after_all : Journal → List ArrivalView → List (Result ReplyView Fault) → Journal
after_all journal [] results = journal
after_all journal (a ∷ later) [] = journal
after_all journal (a ∷ later) (result ∷ results) = after_all (after journal a result) later results

-- the number of cards that the last arrival with a reply examined, given that number before
abbrev pub work_after : ℕ → Journal → ArrivalView → Result ReplyView Fault → ℕ
work_after work journal a (Ok reply) = work_of journal a
work_after work journal a (Err fault) = work

-- the same after arrivals one after the other
abbrev pub work_after_all : ℕ → Journal → List ArrivalView → List (Result ReplyView Fault) → ℕ
work_after_all work journal [] results = work
work_after_all work journal (a ∷ later) [] = work
work_after_all work journal (a ∷ later) (result ∷ results) = work_after_all (work_after work journal a result) (after journal a result) later results

-- the number of decks that these arrivals need, each after those before it
abbrev pub needed_by_all : Journal → List ArrivalView → List (Result ReplyView Fault) → ℕ
needed_by_all journal [] results = 0
needed_by_all journal (a ∷ later) [] = 0
needed_by_all journal (a ∷ later) (result ∷ results) = length (needed_by journal a) + needed_by_all (after journal a result) later results

-- none of them was lost
abbrev pub IsNoneLost : List (Result ReplyView Fault) → Type 0
IsNoneLost results = AllByRecursion (λ r. IfErr r (λ fault. is_lost fault.kind ≡ false)) results

-- each has an answer, and a fault is one that it can get
abbrev pub AreArrivalFaults : List ArrivalView → List (Result ReplyView Fault) → Type 0
AreArrivalFaults list results = AllZip (λ a result. IfErr result (IsArrivalFault a)) list results

-- each has its answer, and it is the one that is expected after those before it
abbrev pub AreAnswers : Journal → List ArrivalView → List (Result ReplyView Fault) → Type 0
AreAnswers journal [] [] = Unit {0}
AreAnswers journal [] (result ∷ results) = ⊥
AreAnswers journal (a ∷ later) [] = ⊥
AreAnswers journal (a ∷ later) (result ∷ results) = IsAnswer journal a result × AreAnswers (after journal a result) later results

-- the last of these answers is a reply
abbrev pub EndsInReply : List (Result ReplyView Fault) → Type 0
EndsInReply [] = ⊥
EndsInReply (result ∷ []) = IsOk result
EndsInReply (result ∷ results) = EndsInReply results

-- the count of failures after them
abbrev pub failures_after_all : List (Result ReplyView Fault) → ℕ → ℕ
failures_after_all [] failures = failures
failures_after_all (result ∷ results) failures = failures_after_all results (failures_after result failures)

-- what is in hand after them
abbrev pub in_hand_after_all : List Event → List ArrivalView → List (Result ReplyView Fault) → List Event
in_hand_after_all in_hand [] results = in_hand
in_hand_after_all in_hand (a ∷ later) [] = in_hand
in_hand_after_all in_hand (a ∷ later) (result ∷ results) = in_hand_after_all (in_hand_after a in_hand result) later results

-- what a new run makes of tables that show a library: they show the library that it leaves, and keep the run with its reply
pub record AddsRun (mode : Mode) (a : ArrivalView) (l : LibraryView) (before later : Rows) : Type 0 where
  pub library : Shows later (outcome mode a l).library
  pub states : ShowsStates later (outcome mode a l).library
  pub runs : later.runs ≡ before.runs ++ run_of (record { arrival = a; mode = mode; carried = None }) (outcome mode a l).reply ∷ []
  pub settled : later.settled ≡ before.settled

module _ {Image : Type 0} (shows : Image → Rows → Type 0) where
  -- An image becomes another by a new run: where the one shows a library that runs have made, the other shows what the run makes of it.
  abbrev pub Becomes : Mode → ArrivalView → Image → Image → Type 0
  Becomes mode a before later = (l : LibraryView) → IsMade l → (rows : Rows) → shows before rows → Shows rows l → ShowsStates rows l
      → (new : Rows) × shows later new × AddsRun mode a l rows new

  -- an image holds what is expected after a journal
  abbrev pub HoldsIn : Journal → Image → Type 0
  HoldsIn journal image = (rows : Rows) × shows image rows × Holds journal rows

  -- what a crash may have left: all that was answered, with or without one of the events in hand
  abbrev pub IsLeft : Journal → List Event → Image → Type 0
  IsLeft journal in_hand image = HoldsIn journal image ⊎ Any (λ e. HoldsIn (e ∷ journal) image) in_hand

module _ {S : Type 0} (meaning : Ghosts S) where
  open meaning use {Image, shows, image, is_open, is_honest, may_leave, decks_read_of}

  -- the store holds what is expected after a journal, as far as it is open
  abbrev pub IsHeld : Journal → S → Type 0
  IsHeld journal s = is_open s → HoldsIn shows journal (image s)

  -- so it is of each journal that the store held before the call
  abbrev pub EachHeld : S → S → (Journal → Type 0) → Type 0
  EachHeld old new claim = is_honest new → (journal : Journal) → IsHeld journal old → claim journal

  -- an answer is right of a library that runs have made, which the store showed
  abbrev pub FindsMade : {A : Type 0} → Result A Fault → S → S → (LibraryView → Rows → A → Type 0) → Type 0
  FindsMade result old new right = is_honest new
      → IfOk result (λ found. (l : LibraryView) → IsMade l → (rows : Rows) → IsShown meaning rows old → Shows rows l → right l rows found)

  -- no more decks are read than this number for the library that the store showed
  abbrev pub ReadsAtMost : {A : Type 0} → Result A Fault → S → S → (LibraryView → ℕ) → Type 0
  ReadsAtMost result old new most = is_honest new → OnOk result ((l : LibraryView) → IsMade l → (rows : Rows)
      → IsShown meaning rows old → Shows rows l → decks_read_of new ≤ decks_read_of old + most l)

  -- What a call that only reads leaves: what the store kept. A fault is out of memory or a failure of the store, which is counted.
  pub record OnlyReads {A : Type 0} (result : Result A Fault) (old new : S) : Type 0 where
    pub same : Keeps meaning old new
    pub lost : IfErr result IsLost
    pub failed : CountsFailure meaning result old new

  -- What a query leaves: what the store kept, open after an answer. A failure of the store is counted, and no card is looked at.
  pub record LeavesQuery {A : Type 0} (result : Result A Fault) (old new : S) (work_before work : ℕ) : Type 0 where
    pub opens : OpensOk meaning result new
    pub same : Keeps meaning old new
    pub failed : CountsFailure meaning result old new
    pub idle : work ≡ work_before

  -- ---- what an arrival costs

  -- an arrival that gets a reply looks at this number of cards
  abbrev pub LooksAt : {A : Type 0} → ArrivalView → Result A Fault → (A → ℕ) → S → S → Type 0
  LooksAt a result work old new = EachHeld old new (λ journal. IfOk result (λ reply. IsWork journal a (work reply)))

  -- it reads no more decks than its run needs, and one that is refused reads none
  abbrev pub ReadsNeeded : {A : Type 0} → ArrivalView → Result A Fault → S → S → Type 0
  ReadsNeeded a result old new =
      EachHeld old new (λ journal. OnOk result (decks_read_of new ≤ decks_read_of old + length (needed_by journal a)))
      × IfErr result (λ fault. is_lost fault.kind ≡ false → decks_read_of new ≡ decks_read_of old)

  -- arrivals of which none is lost read no more decks than their runs need
  abbrev pub ReadsNeededByAll : List ArrivalView → List (Result ReplyView Fault) → S → S → Type 0
  ReadsNeededByAll list results old new = EachHeld old new (λ journal. IsNoneLost results
      → decks_read_of new ≤ decks_read_of old + needed_by_all journal list results)

  -- ---- what calls do

  -- A store guards a journal: it shows what is expected, and a crash leaves no less.
  pub record Guards (journal : Journal) (in_hand : List Event) (store : S) : Type 0 where
    pub shown : is_open store → HoldsIn shows journal (image store)
    pub left : (i : Image) → may_leave store i → IsLeft shows journal in_hand i

  -- A call that tries to keep a new run: a crash leaves nothing that it could not leave before, but for what the run makes of what the
  -- store kept.
  pub record TriesRun (mode : Mode) (a : ArrivalView) (old new : S) : Type 0 where
    pub later : IsLater meaning old new
    pub crash : is_honest new → (i : Image) → may_leave new i → may_leave old i ⊎ (is_open old × Becomes shows mode a (image old) i)

  -- an arrival that has to change nothing: it is answered by a fault, or the store has a run under its key
  abbrev pub IsIdle : ArrivalView → Result ReplyView Fault → S → Type 0
  IsIdle a result s = IsErr result ⊎ ((rows : Rows) × IsShown meaning rows s × IsSome (run_at a.site a.number rows))

  -- what an arrival does to a desk over a store
  pub record Arrives (a : ArrivalView) (result : Result ReplyView Fault) (old new : S) : Type 0 where
    pub later : IsLater meaning old new
    pub opens : OpensOk meaning result new
    -- an arrival that has to change nothing leaves the image
    pub same : is_honest new → is_open new → IsIdle a result old → image new ≡ image old
    -- the answer is the one that is expected after any journal that the store holds
    pub answers : is_honest new → (journal : Journal) → IsHeld journal old → IsAnswer journal a result
    -- and then the store holds the journal with this arrival
    pub holds : is_honest new → (journal : Journal) → IsHeld journal old → is_open new
        → HoldsIn shows (after journal a result) (image new)
    -- a crash leaves what was answered, with or without what is in hand
    pub leaves : is_honest new → (journal : Journal) (in_hand : List Event) → Guards journal in_hand old → (i : Image) → may_leave new i
        → IsLeft shows (after journal a result) (in_hand_after a in_hand result) i

  -- All that is known of a desk's answer to an arrival, with the number of cards that it has looked at by then.
  pub record AnswersArrival (a : ArrivalView) (result : Result ReplyView Fault) (old new : S) (looked_before looked : ℕ) : Type 0 where
    pub arrives : Arrives a result old new
    pub work : LooksAt a result (λ _. looked) old new
    pub reads : ReadsNeeded a result old new
    pub idle : OnErr result (looked ≡ looked_before)
    pub unadmitted : IsUnadmitted (check_arrival a) result old new
    pub faults : IfErr result (IsArrivalFault a)
    pub failed : CountsFailure meaning result old new

  -- a settlement that has to change nothing: it is answered by a fault, or the site has settled so far already
  abbrev pub IsIdleSettlement : List ℕ → ℕ → Result ℕ Fault → S → Type 0
  IsIdleSettlement site n result s = IsErr result ⊎ ((rows : Rows) × IsShown meaning rows s × (n ≤ mark_at site rows))

  -- what a settlement does to a desk over a store
  pub record Settles (site : List ℕ) (n : ℕ) (result : Result ℕ Fault) (old new : S) : Type 0 where
    pub later : IsLater meaning old new
    pub opens : OpensOk meaning result new
    -- a settlement that has to change nothing leaves the image
    pub same : is_honest new → is_open new → IsIdleSettlement site n result old → image new ≡ image old
    pub answers : is_honest new → (journal : Journal) → IsHeld journal old → IsOwed (mark_after journal site n) result
    pub holds : is_honest new → (journal : Journal) → IsHeld journal old → is_open new
        → HoldsIn shows (after_settlement journal site n result) (image new)
    pub leaves : is_honest new → (journal : Journal) (in_hand : List Event) → Guards journal in_hand old → (i : Image) → may_leave new i
        → IsLeft shows (after_settlement journal site n result) (in_hand_after_settlement site n in_hand result) i

  -- each of these arrivals has to change nothing
  abbrev pub AreIdle : List ArrivalView → List (Result ReplyView Fault) → S → Type 0
  AreIdle [] results s = Unit {0}
  AreIdle (a ∷ later) [] s = Unit {0}
  AreIdle (a ∷ later) (result ∷ results) s = IsIdle a result s × AreIdle later results s

  -- what arrivals one after the other do to a desk over a store
  pub record RunAll (list : List ArrivalView) (results : List (Result ReplyView Fault)) (old new : S) : Type 0 where
    pub later : IsLater meaning old new
    -- arrivals that have to change nothing leave the image
    pub same : is_honest new → is_open new → AreIdle list results old → image new ≡ image old
    pub answers : is_honest new → (journal : Journal) → IsHeld journal old → AreAnswers journal list results
    pub holds : is_honest new → (journal : Journal) → IsHeld journal old → is_open new
        → HoldsIn shows (after_all journal list results) (image new)
    pub leaves : is_honest new → (journal : Journal) (in_hand : List Event) → Guards journal in_hand old → (i : Image) → may_leave new i
        → IsLeft shows (after_all journal list results) (in_hand_after_all in_hand list results) i

  -- A query answers what is defined of the library after any journal that the store holds.
  abbrev pub Tells : {A : Type 0} → (LibraryView → Result A Fault) → Result A Fault → S → S → Type 0
  Tells defined result old new = is_honest new → (journal : Journal) → IsHeld journal old
      → IsOwed (defined (library_after journal)) result
