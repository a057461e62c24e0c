-- What commands do at a desk: what the desk answers, and how that is reported.
use Rattle.std.specs.Prelude.{◌≡◌, ◌≢◌, ◌<◌, ◌≤◌, ◌⊎◌, ℕ, List, [], length, Option, None, Some, Result, Ok, Err, IfErr, IfOk, OnOk, IsErrAnd, IsOkAnd}
use Rattle.std.specs.Io.KnownBytes.{Appends}
use Rattle.std.specs.Result.{result_map_both}
use Rattle.upd_text.specs.Faults.{fault_at}
use Rattle.upd_text.specs.declared.fault.Fault.{Fault}
use Rattle.upd_text.specs.declared.fault.FaultKind.TheVariants.{IdentUnknown, RunLong}
use Rattle.upd_core.specs.Library.{LibraryView}
use Rattle.upd_records.specs.Rows.{Rows, RunView}
use Rattle.upd_row_store.specs.declared.meaning.Meaning.{Ghosts}
use Rattle.upd_row_store.specs.Keeping.{CountsFailure, FindsRows, IsLost, IsShown, Keeps}
use Rattle.upd_compile.specs.File.{FileView, compile_file_of}
use Rattle.upd_compile.specs.Listings.{card_listing, deck_listing, ident_listing, yank_listing}
use Rattle.upd_compile.specs.declared.mode.Mode.TheVariants as mode
use Rattle.upd_desk.specs.Holding.{Arrives, EachHeld, IsHeld, IsOwed, Settles, Tells}
use Rattle.upd_desk.specs.Outcomes.{ReplyView, reply_on}
use Rattle.upd_subcommands.specs.Command.{Ending, ending}
use Rattle.upd_subcommands.specs.Status.{no_memory, read_failed}
use Rattle.upd_subcommands.specs.Streams.{IsRunOn, Stream, after, before}
use Rattle.upd_subcommands.specs.Correcting.{ReportsCorrection}
use Rattle.upd_subcommands.specs.Parts.{CorrectsParts}
use Rattle.upd_subcommands.specs.Reporting.{ReportsConflicts, ReportsMark, ReportsRun, ReportsText, ReportsTried}
use Rattle.upd_edit.specs.ActiveText.{active_text}
use Rattle.upd_edit.specs.Earlier.{text_since}
use Rattle.upd_edit.specs.Source.{source}
use Rattle.upd_edit.specs.StayingDecks.{tried_warnings}
use Rattle.upd_edit.specs.Trying.{tried}
use Rattle.upd_edit.specs.Conditions.{ArrivesSince}
use Rattle.upd_edit.specs.declared.warning.Warning.{Warning}
use Rattle.upd_edit.specs.declared.editing.TheConstants.{MAX_TEXT_BYTES}
use Rattle.upd_edit.specs.EditCauses.{IsAnswerIn, edited_in, failures_after_edit}
use Rattle.upd_edit.specs.declared.editing.EditError.{EditError}
use Rattle.upd_edit.specs.declared.editing.EditError.TheVariants.{Failed}
use Rattle.upd_views.specs.Blame.{blame}
use Rattle.upd_views.specs.IdentReport.{show}
use Rattle.upd_views.specs.LibraryPage.{page}
use Rattle.upd_views.specs.RunLines.{IsRunList}
use Rattle.upd_views.specs.SiteLines.{AreSiteLines}
use Rattle.upd_desk.specs.Journal.{Journal, library_after}
use Rattle.upd_wire.specs.Spools.{Ends}
use Rattle.upd_wire.specs.Serving.{LeadsThrough, Made}
use Rattle.upd_subcommands.specs.Listening.{ReportsServing}
use Rattle.upd_words.specs.declared.words.Command.{Command}
use Rattle.upd_words.specs.declared.words.Endpoint.{Endpoint}
use Rattle.upd_words.specs.declared.words.Command.TheVariants.{Run, Settle, Spool, Serve, Correct, CorrectAt, CorrectParts, Try, Ask}
use Rattle.upd_words.specs.declared.querying.Query.{Query}
use Rattle.upd_words.specs.declared.querying.Query.TheVariants.{Compile, Deck, Card, Idents, Yanks, Show, Runs, Sites, View}
use Rattle.upd_words.specs.declared.querying.View as views
use Rattle.upd_words.specs.declared.querying.View.TheVariants as view

-- the bytes of a compile file
abbrev pub file_text : Result FileView Fault → Result (List ℕ) Fault
file_text file = result_map_both (λ f. f.bytes) (λ fault. fault) file

-- a view of a library
abbrev pub view_text : views.View → LibraryView → Result (List ℕ) Fault
view_text (view.Blame name) l = blame name l
view_text view.Page l = Ok (page l)
view_text (view.Text name) l = active_text name l
view_text (view.TextAt name since) l = text_since name since l
view_text (view.Source name) l = file_text (source name l)

-- the input can't be read, or there is no memory for it
abbrev pub IsUnread : Result ℕ Fault → Type 0
IsUnread result = IsErrAnd result (λ fault. (fault ≡ no_memory) ⊎ (fault ≡ read_failed))

-- What was answered to a run with a condition was told: its reply, or its conflicts, or a fault; where no ident has SINCE's name, the caller tells it.
abbrev pub TellsSince : Result (Result ReplyView (List Warning)) Fault → Result ℕ Fault
    → Option (List ℕ) → Option (List ℕ) → Option (List ℕ) → Option (List ℕ) → Type 0
TellsSince (Ok (Ok reply)) result output output' faults faults' = ReportsRun (Ok reply) result output output' × (faults' ≡ faults)
TellsSince (Ok (Err met)) result output output' faults faults' = ReportsConflicts result faults faults' × (output' ≡ output)
TellsSince (Err fault) result output output' faults faults' = (faults' ≡ faults)
    × (((fault.kind ≢ IdentUnknown) × ReportsRun (Err fault) result output output')
    ⊎ ((fault.kind ≡ IdentUnknown) × (result ≡ Err fault) × (output' ≡ output)))

-- the texts of warnings: none where there are none; and memory for them may be out
abbrev pub AreTexts : Result (List Warning) Fault → Result (List ℕ) Fault → Type 0
AreTexts (Ok list) (Ok text) = list ≡ [] → text ≡ []
AreTexts (Ok list) (Err fault) = fault ≡ no_memory
AreTexts (Err fault) text = text ≡ Err fault

module _ {S : Type 0} (meaning : Ghosts S) where
  -- The run on the input arrived, and its answer was told; or the input wasn't read, and nothing was asked or told.
  abbrev pub HandsIn : List ℕ → ℕ → List ℕ → Option (List ℕ) → Result ℕ Fault → S → S → Option (List ℕ) → Option (List ℕ) → Type 0
  HandsIn site number mode input result old new output output' =
      ((bytes : List ℕ) × (answer : Result ReplyView Fault) × IsRunOn input bytes
      × Arrives meaning (record { site = site; number = number; mode = mode; bytes = bytes }) answer old new
      × CountsFailure meaning answer old new × ReportsRun answer result output output')
      ⊎ ((new ≡ old) × IsUnread result × Appends output output' [])

  -- The run on the input arrived if nothing stopped it, and its answer was told; or the input wasn't read, and nothing was asked or told.
  abbrev pub HandsInSince : List ℕ → List ℕ → ℕ → List ℕ → Option (List ℕ) → Result ℕ Fault → S → S
      → Option (List ℕ) → Option (List ℕ) → Option (List ℕ) → Option (List ℕ) → Type 0
  HandsInSince since site number mode input result old new output output' faults faults' =
      ((bytes : List ℕ) × (answer : Result (Result ReplyView (List Warning)) Fault) × IsRunOn input bytes
      × ArrivesSince meaning since (record { site = site; number = number; mode = mode; bytes = bytes }) answer old new
      × CountsFailure meaning answer old new × TellsSince answer result output output' faults faults')
      ⊎ ((new ≡ old) × IsUnread result × Appends output output' [])

  -- A query about stored runs answers what is defined of the runs that the store shows, and of the library after any journal that it holds.
  abbrev pub TellsOfRuns : {A : Type 0} → (List RunView → LibraryView → Result A Fault) → Result A Fault → S → S → Type 0
  TellsOfRuns defined result old new = meaning.is_honest new → (journal : Journal) → IsHeld meaning journal old → (rows : Rows)
      → (meaning.is_open old → IsShown meaning rows old) → IsOwed (defined rows.runs (library_after journal)) result

  -- a run was tried: here are the reply that it would get and its warnings, and nothing is changed
  pub record IsTriedAs (mode : List ℕ) (since : Option (List ℕ)) (run : List ℕ) (answer : Result ReplyView Fault) (warnings : Result (List Warning) Fault)
      (old new : S) : Type 0 where
    pub reply : Tells meaning (reply_on (tried mode run)) answer old new
    pub warns : TellsOfRuns (tried_warnings since run) warnings old new
    pub same : Keeps meaning old new

  -- a run was tried, and its reply and its warnings were told
  abbrev pub TriesRun : List ℕ → Option (List ℕ) → List ℕ → S → S → Ending → Type 0
  TriesRun mode since run old new end =
      (answer : Result ReplyView Fault) × (warnings : Result (List Warning) Fault) × IsTriedAs mode since run answer warnings old new
      × ((text : Result (List ℕ) Fault) × AreTexts warnings text × ReportsTried answer text end)

  -- An edited text, which may have been taken when an ident was the youngest, is answered by a run, or by why there isn't one. Nothing is changed.
  pub record IsCorrection (since : Option (List ℕ)) (set text : List ℕ) (answer : Result (List ℕ) EditError) (old new : S) : Type 0 where
    pub answers : EachHeld meaning old new (λ journal. IsAnswerIn (edited_in text since (library_after journal)) set text answer)
    pub long : MAX_TEXT_BYTES < length text → IfErr answer (λ error. error ≡ Failed (fault_at RunLong 0))
    pub same : Keeps meaning old new
    pub counts : meaning.failures_of new ≡ failures_after_edit answer (meaning.failures_of old)

  -- it was answered so, and the answer was told
  abbrev pub CorrectsText : Option (List ℕ) → List ℕ → List ℕ → S → S → Ending → Type 0
  CorrectsText since set text old new end =
      (answer : Result (List ℕ) EditError) × IsCorrection since set text answer old new × ReportsCorrection answer end

  -- a site was settled, and its mark was told
  abbrev pub SettlesSite : List ℕ → ℕ → Result ℕ Fault → S → S → Option (List ℕ) → Option (List ℕ) → Type 0
  SettlesSite site number result old new output output' =
      (answer : Result ℕ Fault) × Settles meaning site number answer old new
      × CountsFailure meaning answer old new × ReportsMark site answer result output output'

  -- what a query is answered
  abbrev pub TellsQuery : Query → Result (List ℕ) Fault → S → S → Type 0
  TellsQuery Compile answer old new = Tells meaning (λ l. file_text (compile_file_of mode.Full [] l l)) answer old new
  TellsQuery (Deck name) answer old new = Tells meaning (deck_listing name) answer old new
  TellsQuery (Card card) answer old new = Tells meaning (card_listing card) answer old new
  TellsQuery Idents answer old new = Tells meaning (λ l. Ok (ident_listing l)) answer old new
  TellsQuery Yanks answer old new = Tells meaning (λ l. Ok (yank_listing l)) answer old new
  TellsQuery (Show name) answer old new = TellsOfRuns (show name) answer old new
  TellsQuery Runs answer old new = FindsRows meaning answer old new (λ rows text. IsRunList rows.runs text) × IfErr answer IsLost
  TellsQuery Sites answer old new = FindsRows meaning answer old new (λ rows text. AreSiteLines rows.runs rows.settled text) × IfErr answer IsLost
  TellsQuery (View view) answer old new = Tells meaning (view_text view) answer old new

  -- a query was answered, and nothing is changed
  pub record IsAnswered (query : Query) (answer : Result (List ℕ) Fault) (old new : S) : Type 0 where
    pub tells : TellsQuery query answer old new
    pub same : Keeps meaning old new
    pub counts : CountsFailure meaning answer old new

  -- a query was answered, and the answer was told
  abbrev pub AsksQuery : Query → Result ℕ Fault → S → S → Option (List ℕ) → Option (List ℕ) → Type 0
  AsksQuery query result old new output output' = (answer : Result (List ℕ) Fault) × IsAnswered query answer old new × ReportsText answer result output output'

  -- a spool was read to its end, and status 0 stands for any number of frames; or it ended by a fault
  abbrev pub EndsSpool : Result ℕ Fault → S → S → Option (List ℕ) → Option (List ℕ) → Option (List ℕ) → Option (List ℕ) → Type 0
  EndsSpool (Ok status) old new input input' output output' =
      (status ≡ 0) × ((count : ℕ) × Ends meaning old new input input' output output' (Ok count))
  EndsSpool (Err fault) old new input input' output output' = Ends meaning old new input input' output output' (Err fault)

  -- At most this number of connections were served, all of them unless a read failed. The fault stream got the endpoint before them, and a line for each
  -- that says what the desk did, but for lines that could not be written.
  pub record EndsServing (endpoint : Endpoint) (count : ℕ) (ended : Result ℕ Fault) (old new : S) (faults faults' : Option (List ℕ)) : Type 0 where
    pub leads : (made : List Made) × (length made ≤ count) × OnOk ended (length made ≡ count) × LeadsThrough meaning made old new
        × ReportsServing endpoint made faults faults'
    pub status : IfOk ended (λ status. status ≡ 0)
    pub err : IfErr ended (λ fault. fault ≡ read_failed)

  -- a command was carried out at the desk of a library, over what was read first and streams, and what the desk answered was told
  abbrev pub Does : {R W E : Type 0} → Command → List ℕ → Result ℕ Fault → S → S → Stream R → Stream W → Stream E → Type 0
  Does (Run site number mode None) text ended old new input output faults =
      HandsIn site.now number mode.now (before input) ended old new (before output) (after output)
  Does (Run site number mode (Some since)) text ended old new input output faults =
      HandsInSince since site.now number mode.now (before input) ended old new (before output) (after output) (before faults) (after faults)
  Does (Settle site number) text ended old new input output faults = SettlesSite site.now number ended old new (before output) (after output)
  Does Spool text ended old new input output faults = EndsSpool ended old new (before input) (after input) (before output) (after output)
  Does (Serve endpoint count) text ended old new input output faults = EndsServing endpoint count ended old new (before faults) (after faults)
  Does (Correct set) text ended old new input output faults =
      IsOkAnd ended (λ status. CorrectsText None set.now text old new (ending status (before output) (after output) (before faults) (after faults)))
  Does (CorrectAt set since) text ended old new input output faults =
      IsOkAnd ended (λ status. CorrectsText (Some since) set.now text old new (ending status (before output) (after output) (before faults) (after faults)))
  Does (CorrectParts set site number mode) text ended old new input output faults =
      IsOkAnd ended (λ status. CorrectsParts meaning set.now site.now number mode.now text old new
      (ending status (before output) (after output) (before faults) (after faults)))
  Does (Try mode since) text ended old new input output faults =
      IsOkAnd ended (λ status. TriesRun mode.now since text old new (ending status (before output) (after output) (before faults) (after faults)))
  Does (Ask query) text ended old new input output faults = AsksQuery query ended old new (before output) (after output)
