-- One request and its answer: what is asked of the desk, what it does, and what is written.
use Rattle.std.specs.Prelude.{◌≡◌, ◌⊎◌, ℕ, IsTrue, List, [], ◌∷◌, Option, Some, None, Result, Ok, Err, IsErr}
use Rattle.std.specs.Io.KnownBytes.{Appends}
use Rattle.std.specs.Result.{result_map_both}
use Rattle.upd_core.specs.Library.{LibraryView}
use Rattle.upd_compile.specs.File.{compile_file_of}
use Rattle.upd_compile.specs.Listings.{card_listing, deck_listing, ident_listing, yank_listing}
use Rattle.upd_compile.specs.declared.mode.Mode.TheVariants.{Full}
use Rattle.upd_text.specs.Keys.{is_site}
use Rattle.upd_desk.specs.Holding.{Arrives, Settles, Tells}
use Rattle.upd_desk.specs.Outcomes.{ReplyView}
use Rattle.upd_desk.specs.ReplyTexts.{settled_text}
use Rattle.upd_wire.specs.Calls.{Asked, run, settle, compile, deck, card, idents, yanks}
use Rattle.upd_wire.specs.Requests.{Says}
use Rattle.upd_wire.specs.declared.call.Refusal.{Refusal}
use Rattle.upd_row_store.specs.declared.meaning.Meaning.{Ghosts}
use Rattle.upd_row_store.specs.Keeping.{CountsFailure, Keeps}
use Rattle.upd_wire.specs.Fronts.{AppendsFront}
use Rattle.upd_text.specs.Faults.{fault_at}
use Rattle.upd_text.specs.declared.fault.Fault.{Fault}
use Rattle.upd_text.specs.declared.fault.FaultKind.TheVariants.{NoMemory, Read, Write}
use Rattle.upd_wire.specs.Responses.{Response, fault_response, mark_response, page, refusal_answer, reply_response, response_of, response_text}

-- out of memory, and reads and writes that failed
abbrev pub no_memory : Fault
no_memory = fault_at NoMemory 0

abbrev pub read_failed : Fault
read_failed = fault_at Read 0

abbrev pub write_failed : Fault
write_failed = fault_at Write 0

-- what the desk was asked, and what it returned; or it was asked nothing
abbrev pub Made : Type 0
Made = Option (Asked × Result Response Fault)

-- what the desk returned is answered, or there is no memory for the text of a fault
abbrev pub AnswersTold : Result Response Fault → Result Response Fault → Type 0
AnswersTold told answer = (answer ≡ Ok (response_of told)) ⊎ (IsErr told × (answer ≡ Err no_memory))

-- a call of the desk, and its answer: what the desk returned is answered, or nothing was asked since there was no memory
abbrev pub IsAsked : Asked → Made → Result Response Fault → Type 0
IsAsked asked made answer =
    ((told : Result Response Fault) × (made ≡ Some (asked, told)) × AnswersTold told answer) ⊎ ((made ≡ None) × (answer ≡ Err no_memory))

-- ---- the desk

-- a mark is answered by its text, if the site is valid; the desk has no mark for another
abbrev pub IsMarkResponse : List ℕ → Result ℕ Fault → Result Response Fault → Type 0
IsMarkResponse site (Ok mark) told = (body : List ℕ) × (told ≡ Ok (record (mark_response site mark) { body = body }))
    × (IsTrue (is_site site) → body ≡ settled_text site mark)
IsMarkResponse site (Err fault) told = told ≡ Err fault

module _ {S : Type 0} (meaning : Ghosts S) where
  -- a query returned what the desk answered, as a page of these bytes
  abbrev pub Queries : {A : Type 0} → (LibraryView → Result A Fault) → (A → List ℕ) → Result Response Fault → S → S → Type 0
  Queries {A} defined bytes told old new =
      (result : Result A Fault) × Tells meaning defined result old new
      × Keeps meaning old new × CountsFailure meaning result old new
      × (told ≡ result_map_both (λ x. page (bytes x)) (λ fault. fault) result)

  -- The desk was asked this and returned that, and its store went from the one to the other.
  abbrev pub DoesAsAsked : Asked → Result Response Fault → S → S → Type 0
  DoesAsAsked (run site number mode bytes) told old new =
      (result : Result ReplyView Fault)
      × Arrives meaning (record { site = site; number = number; mode = mode; bytes = bytes }) result old new
      × CountsFailure meaning result old new × (told ≡ result_map_both reply_response (λ fault. fault) result)
  DoesAsAsked (settle site number) told old new =
      (result : Result ℕ Fault) × Settles meaning site number result old new
      × CountsFailure meaning result old new × IsMarkResponse site result told
  DoesAsAsked compile told old new = Queries (λ l. compile_file_of Full [] l l) (λ file. file.bytes) told old new
  DoesAsAsked (deck name) told old new = Queries (deck_listing name) (λ text. text) told old new
  DoesAsAsked (card c) told old new = Queries (card_listing c) (λ text. text) told old new
  DoesAsAsked idents told old new = Queries (λ l. Ok (ident_listing l)) (λ text. text) told old new
  DoesAsAsked yanks told old new = Queries (λ l. Ok (yank_listing l)) (λ text. text) told old new

  -- a call of the desk, or none, took the store from the one to the other
  abbrev pub Leads : Made → S → S → Type 0
  Leads None old new = new ≡ old
  Leads (Some (asked, told)) old new = DoesAsAsked asked told old new

  -- calls one after the other, the latest first, took it from the one to the other
  abbrev pub LeadsThrough : List Made → S → S → Type 0
  LeadsThrough [] old new = new ≡ old
  LeadsThrough (made ∷ earlier) old new = (mid : S) × LeadsThrough earlier old mid × Leads made mid new

  -- a call of the desk and its answer
  abbrev pub Asks : Asked → Result Response Fault → S → S → Type 0
  Asks asked answer old new = (made : Made) × Leads made old new × IsAsked asked made answer

-- ---- the answer

-- out of memory, or a read failed, before the desk was asked
abbrev pub IsFailed : Result Response Fault → Type 0
IsFailed answer = (answer ≡ Ok (fault_response no_memory)) ⊎ ((answer ≡ Err no_memory) ⊎ (answer ≡ Err read_failed))

-- The answer to a request, or the fault that says why there is no answer: a refused request asks nothing of the desk, and another one asks what
-- it says and is answered what the desk returned.
abbrev pub AnswersRequest : List ℕ → Made → Result Response Fault → Type 0
AnswersRequest input made answer =
    ((refusal : Refusal) × Says input (Err refusal) × (made ≡ None) × (answer ≡ refusal_answer refusal))
    ⊎ (((asked : Asked) × (told : Result Response Fault) × Says input (Ok asked) × (made ≡ Some (asked, told)) × AnswersTold told answer)
    ⊎ ((made ≡ None) × IsFailed answer))

-- ---- what is written

-- these bytes were written, or a prefix of them before a write failed
abbrev pub Puts : {U : Type 0} → Result U Fault → Option (List ℕ) → Option (List ℕ) → List ℕ → Type 0
Puts (Ok u) old new bytes = Appends old new bytes
Puts (Err fault) old new bytes = (fault ≡ write_failed) × AppendsFront old new bytes

-- an answer is written, and a fault without one leaves the output as it was
abbrev pub Sends : {U : Type 0} → Result Response Fault → Result U Fault → Option (List ℕ) → Option (List ℕ) → Type 0
Sends (Ok response) result old new = Puts result old new (response_text response)
Sends (Err fault) result old new = (result ≡ Err fault) × Appends old new []
