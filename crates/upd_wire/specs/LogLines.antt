-- The log of a server: one line for each connection.
use Rattle.std.specs.Prelude.{◌≡◌, ◌⊎◌, ◌==◌, ◌&&◌, Bool, true, false, ℕ, suc, if◌then◌else◌, List, [], ◌∷◌, ◌++◌}
use Rattle.std.specs.Prelude.{codes, decimal, get_or, length, take, Option, Some, None, Result, Ok, Err}
use Rattle.std.specs.Io.KnownBytes.{Appends}
use Rattle.std.specs.List.{concat, slice_split}
use Rattle.http.specs.StatusCode.{code_digits}
use Rattle.percent_encoding.specs.Percent.{percent_encode}
use Rattle.percent_encoding.specs.declared.ascii_set.TheConstants.{CONTROLS}
use Rattle.upd_text.specs.Faults.{fault_name}
use Rattle.upd_text.specs.Keys.{is_site}
use Rattle.upd_text.specs.declared.fault.Fault.{Fault}
use Rattle.upd_wire.specs.Calls.{Asked, asked, run, settle}
use Rattle.upd_wire.specs.Fronts.{AppendsFront}
use Rattle.upd_wire.specs.Inputs.{Begins}
use Rattle.upd_wire.specs.Requests.{Says}
use Rattle.upd_wire.specs.Responses.{Response}
use Rattle.upd_wire.specs.Serving.{AnswersRequest, Made}
use Rattle.upd_wire.specs.declared.call.DeskCall.{DeskCall}
use Rattle.upd_wire.specs.declared.call.Refusal.{Refusal}
use Rattle.upd_wire.specs.declared.log_lines.TheConstants.{MAX_FIELD}

-- A request and its answer: the first bytes that were read, what they ask, and the answer or the fault that says why there isn't one.
pub record ExchangeView : Type 0 where
  pub head : List ℕ
  pub asked : Option Asked
  pub answer : Result Response Fault

-- A connection that has ended: its exchange, the bytes that were read and written, and for how many milliseconds it was served.
pub record ServedView : Type 0 where
  pub exchange : ExchangeView
  pub got : ℕ
  pub sent : ℕ
  pub millis : ℕ

-- ---- what is true of it

-- what a request asks, if it was read and is not refused
abbrev pub asked_of : Result DeskCall Refusal → Option Asked
asked_of (Ok call) = Some (asked call)
asked_of (Err refusal) = None

-- the input asks this, where something is asked
abbrev pub SaysAsked : List ℕ → Option Asked → Type 0
SaysAsked input (Some a) = Says input (Ok a)
SaysAsked input None = Unit {0}

-- where the desk was asked something, it was asked this
abbrev pub IsAskOf : Option Asked → Made → Type 0
IsAskOf asks (Some (a, told)) = asks ≡ Some a
IsAskOf asks None = Unit {0}

-- an input was read and answered like this, by this call of the desk
pub record Exchanges (input : List ℕ) (made : Made) (e : ExchangeView) : Type 0 where
  pub begins : Begins input e.head
  pub says : SaysAsked input e.asked
  pub asks : IsAskOf e.asked made
  pub answers : AnswersRequest input made e.answer

-- ---- fields

-- at most 200 bytes of a text, or a hyphen for an empty one
abbrev pub shown : List ℕ → List ℕ
shown text = if length text == 0 then codes "-" else take MAX_FIELD text

-- a field of a line, with control bytes and what is not ASCII as `%` and two digits
abbrev pub field : List ℕ → List ℕ
field text = percent_encode CONTROLS (shown text)

-- the piece of a text after this number of separators, or nothing
abbrev pub piece : ℕ → ℕ → List ℕ → List ℕ
piece separator count text = get_or (slice_split (λ b. b == separator) text) count []

-- a site that is one
abbrev pub valid_site : List ℕ → List ℕ
valid_site site = if is_site site then site else []

-- the site of a run or of a settlement, and its number
abbrev pub site_of : Option Asked → List ℕ
site_of (Some (run site number mode bytes)) = valid_site site
site_of (Some (settle site number)) = valid_site site
site_of other = []

abbrev pub number_of : Option Asked → List ℕ
number_of (Some (run site number mode bytes)) = decimal number
number_of (Some (settle site number)) = decimal number
number_of other = []

-- the status of an answer
abbrev pub status_of : Result Response Fault → List ℕ
status_of (Ok response) = code_digits response.status
status_of (Err fault) = []

-- whether a run is asked to arrive
abbrev pub is_run : Option Asked → Bool
is_run (Some (run site number mode bytes)) = true
is_run other = false

-- Where 200 answers it, a run is accepted and another request is done. Else the body has the name of the fault: after eleven quotation marks where it is
-- the reply to a run, and after seven where it is the text of a fault.
abbrev pub answered : Bool → Response → List ℕ
answered is_run r =
    if r.status == 200
    then (if is_run then codes "accepted" else codes "ok")
    else (if is_run && (r.status == 422) then piece 34 11 r.body else piece 34 7 r.body)

-- what came of a request: the word of its answer, or the name of the fault that says why there isn't one
abbrev pub outcome : ExchangeView → List ℕ
outcome e = of e.answer
  where
    of : Result Response Fault → List ℕ
    of (Ok response) = answered (is_run e.asked) response
    of (Err fault) = fault_name fault.kind

-- ---- lines

-- the line of a connection, as `upd: POST /sites/LYON/runs/1/quick LYON 1 200 accepted 72 182 3ms`
abbrev pub log_line : ServedView → List ℕ
log_line s =
    concat (codes "upd: " ∷ field (piece 32 0 s.exchange.head) ∷ codes " " ∷ field (piece 32 1 s.exchange.head) ∷ codes " "
    ∷ field (site_of s.exchange.asked) ∷ codes " " ∷ field (number_of s.exchange.asked) ∷ codes " " ∷ field (status_of s.exchange.answer) ∷ codes " "
    ∷ field (outcome s.exchange) ∷ codes " " ∷ decimal s.got ∷ codes " " ∷ decimal s.sent ∷ codes " " ∷ decimal s.millis ∷ codes "ms\n" ∷ [])

-- a line was written, or a prefix of it and one more line is lost
abbrev pub WritesLine : List ℕ → ℕ → ℕ → Option (List ℕ) → Option (List ℕ) → Type 0
WritesLine line few lost log log' =
    ((lost ≡ few) × Appends log log' line) ⊎ ((lost ≡ suc few) × AppendsFront log log' line)

-- Connections were served by these calls of the desk, the latest first, and a log got the line of each in their order, but for this number of lines.
abbrev pub Logs : List ServedView → List Made → ℕ → Option (List ℕ) → Option (List ℕ) → Type 0
Logs [] [] lost log log' = (lost ≡ 0) × Appends log log' []
Logs (s ∷ earlier) (made ∷ before) lost log log' =
    (few : ℕ) × (mid : Option (List ℕ)) × Logs earlier before few log mid
    × ((input : List ℕ) × Exchanges input made s.exchange) × WritesLine (log_line s) few lost mid log'
Logs other others lost log log' = ⊥
