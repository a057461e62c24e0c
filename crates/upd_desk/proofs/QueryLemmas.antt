-- What a query of a desk tells.
use Rattle.upd_desk.proofs.Common.{◌≡◌, ℕ, nat_lt, Bool, true, false, ◌⊎◌, if◌then◌else◌, List, [], ◌∷◌, ◌++◌, take, Option, Some, None, Result, Ok, Err, inl}
use Rattle.upd_desk.proofs.Common.{inr, refl, ap, sym, ◌∙◌, subst, flat_map, Fault, FaultKind, NoMemory, CardRef, fault_at, ◌>>=◌, FailsAt, FailsOf, at_line}
use Rattle.upd_desk.proofs.Common.{need, MAX_DEPTH, ActivesView, CardView, LibraryView, place_of, live_targets, Place, FileView, file_of}
use Rattle.upd_desk.proofs.Common.{card_listing, deck_listing, walk, Mode, Rows, Shows, ShowsStates, Ghosts, IsLost, Keeps, OfMemory, Journal, library_after}
use Rattle.upd_desk.proofs.Common.{IsMade, HoldsIn, is_lost, listing, uncounted}
use Rattle.upd_desk.proofs.ArrivesLemmas.{unstored}
use Rattle.std.specs.Prelude.{count_by}
use Rattle.std.specs.List.{enumerate_from, filter_map}
use Rattle.upd_text.specs.declared.fault.FaultKind.TheVariants.{CallDepth, CallUnknown, CardUnknown, CompileLong, DeckUnknown, Store}
use Rattle.upd_text.specs.declared.limits.TheConstants.{MAX_COMPILE_LINES, MAX_CALLS}
use Rattle.upd_core.specs.Library.{card_in, cards_of}
use Rattle.upd_compile.specs.Chosen.{chosen}
use Rattle.upd_compile.specs.File.{event_fault, event_line, is_follow, is_line, walk_faults}
use Rattle.upd_compile.specs.Listings.{card_lines, deck_heading, deck_line, listed_deck}
use Rattle.upd_compile.specs.Walk.{WalkEvent, Line, Follow, Depth, Unknown}
use Rattle.std.specs.List.{find}
use Rattle.std.specs.Option.{option_map_or}
use Rattle.std.specs.Result.{result_map_both}
use Rattle.std.specs.Prelude.{IfErr, IfOk}
use Rattle.upd_row_store.specs.Tables.{ListsRuns, is_mark_of, is_run}
use Rattle.upd_row_store.specs.declared.store.StoredRuns.{StoredRuns}
use Rattle.upd_text.specs.Outcome.{GivesAt}
use Rattle.upd_row_store.specs.Keeping.{FindsLibrary, FindsRows, LeavesLoad, LeavesRead}
use Rattle.upd_desk.specs.Holding.{AreStored, EachHeld, IsOwed, LeavesQuery, Tells}
use Rattle.upd_desk.specs.Outcomes.{IsFileFault}
use Rattle.upd_desk.specs.Queries.{IsMiss}
use Rattle.upd_desk.specs.declared.library_queries.Query.{Query}
use Rattle.upd_desk.specs.declared.library_queries.Query.TheVariants.{Deck, Card, Idents, Yanks}
use Rattle.upd_desk.proofs.MadeLemmas.{library_made}
use Rattle.upd_desk.proofs.RefusedLemmas.{fails_by}

-- a call that failed as defined, but for out of memory, met what is expected or was lost
pub fails_owed : {A : Type 0} (f : Fault) (defined : Result A Fault) → FailsAt f defined → IsLost f ⊎ (defined ≡ Err f)
fails_owed f defined fails = by (fails_by f defined fails)
  where
    by : ((f.kind ≡ NoMemory) × (f.at ≡ 0)) ⊎ (defined ≡ Err f) → IsLost f ⊎ (defined ≡ Err f)
    by (inl lost) = inl (OfMemory f lost.0 lost.1)
    by (inr met) = inr met

-- a call that failed as a store does met what is defined
pub store_fails : {A : Type 0} (f : Fault) (defined : Result A Fault) → f.kind ≡ Store → FailsAt f defined → defined ≡ Err f
store_fails f defined is fails = subst (λ k. FailsOf k f defined) is fails

-- a last call met what is expected, or was lost
pub gives_owed : {X A : Type 0} (view : X → A) (result : Result X Fault) (defined : Result A Fault) → GivesAt view result defined
    → IsOwed defined (result_map_both view (λ f. f) result)
gives_owed view (Ok x) defined gives = gives
gives_owed view (Err f) defined fails = fails_owed f defined fails

-- what is so of each library that tables show is so of the library after each journal that they hold
pub of_held : {Image Open P : Type 0} (shows : Image → Rows → Type 0) (image : Image) → Open
    → ((l : LibraryView) → IsMade l → (rows : Rows) → shows image rows → Shows rows l → P) → (j : Journal) → (Open → HoldsIn shows j image) → P
of_held {P = P} shows image opened all j held = by (held opened)
  where
    by : HoldsIn shows j image → P
    by (rows, shown, holds) = all (library_after j) (library_made j) rows shown holds.library

-- what holds after a journal shows the library after it
pub held_rows : {Image : Type 0} (shows : Image → Rows → Type 0) (image : Image) (j : Journal) → HoldsIn shows j image
    → (rows : Rows) × shows image rows × Shows rows (library_after j)
held_rows shows image j (rows, shown, holds) = (rows, shown, holds.library)

module _ {S : Type 0} {meaning : Ghosts S} where
  open meaning use {shows, image, is_open, is_honest, failures_of}

  -- what is expected of what was loaded is expected of the library after the journal, where the same is defined of both
  pub tells_same : (made : (j : Journal) → IsMade (library_after j)) {A : Type 0} (defined : LibraryView → Result A Fault) (owed result : Result A Fault)
      (old new : S) → Keeps meaning old new → (is_honest new → is_open new)
      → (is_honest new → (l : LibraryView) → IsMade l → (rows : Rows) → shows (image old) rows → Shows rows l → ShowsStates rows l → owed ≡ defined l)
      → IsOwed owed result → Tells meaning defined result old new
  tells_same made defined owed result old new keeps opens same meets honest j held = by (held (keeps.later.was_open honest (opens honest)))
    where
      by : HoldsIn shows j (image old) → IsOwed (defined (library_after j)) result
      by (rows, shown, holds) =
          subst (λ o. IsOwed o result) (same honest (library_after j) (made j) rows shown holds.library holds.states) meets

  -- a library that was loaded is the one after each journal that the store holds
  pub library_told : (made : (j : Journal) → IsMade (library_after j)) (result : Result LibraryView Fault) (old new : S) → LeavesLoad meaning result old new
      → FindsLibrary meaning result old new (λ l rows found. found ≡ l) → Tells meaning (λ l. Ok l) result old new
  library_told made (Ok found) old new leaves finds =
      tells_same made (λ l. Ok l) (Ok found) (Ok found) old new leaves.same leaves.opens
      (λ honest l made rows shown shows states. ap Ok (finds honest l made.sound made.whole rows shown shows)) refl
  library_told made (Err f) old new leaves finds = λ honest j held. inl leaves.lost

  -- what a query leaves that ends in a call without the store
  pub query_left : {X A : Type 0} (view : X → A) (result : Result X Fault) (defined : Result A Fault) (old new : S) (work : ℕ) → Keeps meaning old new
      → (is_honest new → is_open new) → failures_of new ≡ failures_of old → ((f : Fault) → defined ≡ Err f → is_lost f.kind ≡ false)
      → GivesAt view result defined → LeavesQuery meaning result old new work work
  query_left view (Ok x) defined old new work keeps opens failed stays gives =
      record { opens = opens; same = keeps; failed = failed; idle = refl }
  query_left view (Err f) defined old new work keeps opens failed stays fails = record {
    opens = λ honest. tt;
    same = keeps;
    failed = failed ∙ uncounted f.kind _ (λ is. unstored f (stays f (store_fails f defined is fails)) is);
    idle = refl;
  }

  -- what was listed of tables is what is expected after the journal that they hold
  pub stored_told : (result : Result StoredRuns Fault) (old new : S) → LeavesRead meaning result old new → FindsRows meaning result old new ListsRuns
      → EachHeld meaning old new (λ journal. IfOk result (AreStored journal))
  stored_told (Err f) old new leaves lists honest j held = tt
  stored_told (Ok found) old new leaves lists honest j held = by (held (leaves.same.later.was_open honest (leaves.opens honest)))
    where
      by : HoldsIn shows j (image old) → AreStored j found
      by (rows, shown, holds) =
          let listed = lists honest rows shown in
          record {
            runs = λ site number. ap (find (is_run site number)) listed.runs ∙ holds.runs site number;
            marks = λ site. ap (λ marks. option_map_or (λ m. m.mark) (find (is_mark_of site) marks) 0) listed.marks ∙ holds.marks site;
          }

  -- what tables showed before a call that only read them they show after it
  pub shown_there : (old mid : S) → Keeps meaning old mid → is_honest mid → is_open mid → (rows : Rows)
      → shows (image old) rows → shows (image mid) rows
  shown_there old mid keeps honest is rows shown = subst (λ i. shows i rows) (sym (keeps.same honest is)) shown

-- ---- compile files

abbrev at_zero : FaultKind → Fault
at_zero kind = record { kind = kind; at = 0 }

-- the fault of an event is one that a compile file can meet
event_met : (before : List WalkEvent) (e : WalkEvent) (k : FaultKind) → event_fault before e ≡ Some k → IsFileFault (at_zero k)
event_met before (Line c) k is = go (nat_lt (count_by is_line before) MAX_COMPILE_LINES) is
  where
    go : (few : Bool) → (if few then None else Some CompileLong) ≡ Some k → IsFileFault (at_zero k)
    go true is = absurd (cc)
    go false is = let same : CompileLong ≡ k = cc is in subst (λ kind. IsFileFault (at_zero kind)) same (inr (inr refl))
event_met before Follow k is = go (nat_lt (count_by is_follow before) MAX_CALLS) is
  where
    go : (few : Bool) → (if few then None else Some CompileLong) ≡ Some k → IsFileFault (at_zero k)
    go true is = absurd (cc)
    go false is = let same : CompileLong ≡ k = cc is in subst (λ kind. IsFileFault (at_zero kind)) same (inr (inr refl))
event_met before Depth k is = let same : CallDepth ≡ k = cc is in subst (λ kind. IsFileFault (at_zero kind)) same (inr (inl refl))
event_met before Unknown k is = let same : CallUnknown ≡ k = cc is in subst (λ kind. IsFileFault (at_zero kind)) same (inl refl)

first_met : (all : List WalkEvent) (es : List (ℕ × WalkEvent)) (k : FaultKind) (ks : List FaultKind)
    → filter_map (λ e. event_fault (take e.0 all) e.1) es ≡ k ∷ ks → IsFileFault (at_zero k)
first_met all [] k ks is = absurd (cc)
first_met all (e ∷ es) k ks is = go (event_fault (take e.0 all) e.1) refl (first_met all es k ks)
  where
    go : (o : Option FaultKind) → event_fault (take e.0 all) e.1 ≡ o
        → (filter_map (λ e. event_fault (take e.0 all) e.1) es ≡ k ∷ ks → IsFileFault (at_zero k)) → IsFileFault (at_zero k)
    go None none rest = let less : filter_map (λ e. event_fault (take e.0 all) e.1) es ≡ k ∷ ks = rw none at is in rest less
    go (Some found) here rest =
        let first : found ∷ filter_map (λ e. event_fault (take e.0 all) e.1) es ≡ k ∷ ks = rw here at is in
        event_met (take e.0 all) e.1 k (here ∙ ap Some (cc first))

-- a compile file that is refused met one of the faults of a walk
pub compile_met : (mode : Mode) (named : List ℕ) (before after : ActivesView) (f : Fault) → file_of mode named before after ≡ Err f → IsFileFault f
compile_met mode named before after f is = go (walk_faults events) refl
  where
    events : List WalkEvent
    events = flat_map (walk MAX_DEPTH after) (chosen mode named before after)

    go : (ks : List FaultKind) → walk_faults events ≡ ks → IsFileFault f
    go [] none =
        let clash : ◌≡◌ {A = Result FileView Fault} (Ok (record {
          bytes = flat_map (event_line after.idents) events;
          lines = count_by is_line events;
        })) (Err f) = rw none at is in
        absurd (cc)
    go (k ∷ ks) some =
        let refused : Err (at_zero k) ≡ Err f = rw some at is in
        let same : at_zero k ≡ f = cc refused in
        subst IsFileFault same (first_met events (enumerate_from 0 events) k ks some)

-- it is no failure of a store
pub compile_keeps : (mode : Mode) (named : List ℕ) (before after : ActivesView) (f : Fault) → file_of mode named before after ≡ Err f
    → is_lost f.kind ≡ false
compile_keeps mode named before after f is = by (compile_met mode named before after f is)
  where
    by : IsFileFault f → is_lost f.kind ≡ false
    by (inl met) = ap (λ g. is_lost g.kind) met
    by (inr (inl met)) = ap (λ g. is_lost g.kind) met
    by (inr (inr met)) = ap (λ g. is_lost g.kind) met

-- ---- faults

-- what fails by a definition was lost, or met what the definition can meet
faults_by : {A Met : Type 0} (f : Fault) (defined : Result A Fault) → (defined ≡ Err f → Met) → FailsAt f defined → IsLost f ⊎ Met
faults_by {A} {Met} f defined met fails = by (fails_owed f defined fails)
  where
    by : IsLost f ⊎ (defined ≡ Err f) → IsLost f ⊎ Met
    by (inl lost) = inl lost
    by (inr is) = inr (met is)

pub gives_faults : {X A : Type 0} {Met : Fault → Type 0} (view : X → A) (result : Result X Fault) (defined : Result A Fault)
    → ((f : Fault) → defined ≡ Err f → Met f) → GivesAt view result defined → IfErr result (λ f. IsLost f ⊎ Met f)
gives_faults view (Ok x) defined met gives = tt
gives_faults view (Err f) defined met fails = faults_by f defined (met f) fails

-- the listing of a deck is refused where there is no deck with the name
deck_met : (name : List ℕ) (l : LibraryView) (f : Fault) → deck_listing name l ≡ Err f → f ≡ fault_at DeckUnknown 0
deck_met name l f is = by (listed_deck name l) is
  where
    by : (o : Option ℕ)
        → (at_line 0 (need DeckUnknown o) >>= (λ age. Ok (deck_heading l.idents age
        ++ flat_map (deck_line l.idents (live_targets l) age) (cards_of age l)))) ≡ Err f
        → f ≡ fault_at DeckUnknown 0
    by None is = sym (cc is)
    by (Some age) is = absurd (cc)

-- the listing of a card is refused where there is no such card
card_met : (card : CardRef) (l : LibraryView) (f : Fault) → card_listing card l ≡ Err f → f ≡ fault_at CardUnknown 0
card_met card l f is = by (place_of card l) is
  where
    lines : Place → CardView → Result (List ℕ) Fault
    lines place c = Ok (card_lines l.idents (live_targets l) place.deck c)

    by_card : (place : Place) (o : Option CardView) → (at_line 0 (need CardUnknown o) >>= lines place) ≡ Err f → f ≡ fault_at CardUnknown 0
    by_card place None is = sym (cc is)
    by_card place (Some c) is = absurd (cc)

    by : (o : Option Place)
        → (at_line 0 (need CardUnknown o) >>= (λ place. at_line 0 (need CardUnknown (card_in place l)) >>= lines place)) ≡ Err f
        → f ≡ fault_at CardUnknown 0
    by None is = sym (cc is)
    by (Some place) is = by_card place (card_in place l) is

-- a listing is refused where what it is about isn't there, and that is no failure of a store
pub listing_met : (query : Query) (l : LibraryView) (f : Fault) → listing query l ≡ Err f → IsMiss query f
listing_met (Deck name) l f is = deck_met name l f is
listing_met (Card card) l f is = card_met card l f is
listing_met Idents l f is = absurd (cc)
listing_met Yanks l f is = absurd (cc)

pub listing_keeps : (query : Query) (l : LibraryView) (f : Fault) → listing query l ≡ Err f → is_lost f.kind ≡ false
listing_keeps (Deck name) l f is = ap (λ g. is_lost g.kind) (deck_met name l f is)
listing_keeps (Card card) l f is = ap (λ g. is_lost g.kind) (card_met card l f is)
listing_keeps Idents l f is = absurd (cc)
listing_keeps Yanks l f is = absurd (cc)
