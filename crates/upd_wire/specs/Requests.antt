-- A request as bytes: its head is what `httparse` reads, and a head with a body asks one thing of the desk, or is refused.
use Rattle.std.specs.Prelude.{◌≡◌, ◌≤◌, ◌<◌, ◌⊎◌, ℕ, nat_le, if◌then◌else◌, List, [], ◌++◌, length, take, map, Option, Some, None, Result, Ok, Err}
use Rattle.std.specs.Str.{bytes_eq}
use Rattle.httparse.specs.Grammar.{RequestHead, HasNoRequest, MayBecomeRequest, NeverHasRequest, ReadsRequest, print_request}
use Rattle.httparse.specs.Spans.{RequestExceeds, name_and_value}
use Rattle.upd_text.specs.declared.fault.FaultKind.TheVariants.{RunLong}
use Rattle.upd_text.specs.Outcome.{◌>>=◌}
use Rattle.upd_wire.specs.Calls.{Asked, bad_frame, cut_frame, no_memory_refusal, read_failed_refusal, fault_refusal}
use Rattle.upd_wire.specs.Lengths.{fields_say}
use Rattle.upd_wire.specs.Parameters.{path_of, segments_of}
use Rattle.upd_wire.specs.Routes.{call_of, route_of, method_of}
use Rattle.upd_wire.specs.declared.call.Refusal.{Refusal}
use Rattle.upd_wire.specs.declared.call.Refusal.TheVariants.{NoRoute, OtherMethod}
use Rattle.upd_wire.specs.declared.head.TheConstants.{MAX_HEAD_BYTES, MAX_HEADERS}
use Rattle.upd_wire.specs.declared.lengths.BodyLength.{BodyLength}
use Rattle.upd_wire.specs.declared.lengths.BodyLength.TheVariants.{Bytes, Long, Bad}
use Rattle.upd_wire.specs.declared.routes.Route.{Route}

-- ---- heads

-- a head that is small enough
pub record IsSmall (h : RequestHead) : Type 0 where
  pub bytes : length (print_request h) ≤ MAX_HEAD_BYTES
  pub fields : length h.fields ≤ MAX_HEADERS

-- The input does not begin with a small head, whatever comes: a prefix of it begins no head, or has too many fields, or is as long as a head
-- may be and has none.
abbrev pub HasBadHead : List ℕ → Type 0
HasBadHead input =
    (front : List ℕ) × (rest : List ℕ) × (input ≡ front ++ rest) × (length front ≤ MAX_HEAD_BYTES)
    × (NeverHasRequest front ⊎ (RequestExceeds MAX_HEADERS front ⊎ ((length front ≡ MAX_HEAD_BYTES) × HasNoRequest front)))

-- The input ends before a head does: it is empty, or a prefix of a head, or ends inside a target.
abbrev pub HasCutHead : List ℕ → Type 0
HasCutHead input = (length input < MAX_HEAD_BYTES) × HasNoRequest input × ((input ≡ []) ⊎ MayBecomeRequest input)

-- ---- what a head says

-- What a head asks for: a route and a path, and how many bytes its body has.
pub record HeadView : Type 0 where
  pub route : Route
  pub path : List ℕ
  pub body_len : ℕ

-- a head whose fields are not valid is refused
abbrev pub understood : BodyLength → Result BodyLength Refusal
understood Bad = Err bad_frame
understood said = Ok said

-- the route of a path, if it has one
abbrev pub routed : Option Route → Result Route Refusal
routed (Some route) = Ok route
routed None = Err NoRoute

-- a route has one method
abbrev pub with_method : Route → List ℕ → Result Route Refusal
with_method route method = if bytes_eq method (method_of route) then Ok route else Err (OtherMethod route)

-- how many bytes the body has, as many as a run at most
abbrev pub counted : BodyLength → Result ℕ Refusal
counted (Bytes n) = Ok n
counted Long = Err (fault_refusal RunLong)
counted said = Ok 0

-- what a head asks for, or its first refusal
abbrev pub checked_head : RequestHead → Result HeadView Refusal
checked_head h = do
  said ← understood (fields_say (map name_and_value h.fields))
  route ← routed (route_of (path_of h.target))
  _ ← with_method route h.method
  count ← counted said
  Ok (record { route = route; path = path_of h.target; body_len = count })

-- ---- what a request asks

-- a body, or the refusal where too few bytes follow the head
abbrev pub body_of : ℕ → List ℕ → Result (List ℕ) Refusal
body_of count rest = if nat_le count (length rest) then Ok (take count rest) else Err cut_frame

-- what a head asks with the bytes after it, or the first refusal
abbrev pub judged : RequestHead → List ℕ → Result Asked Refusal
judged h rest = do
  w ← checked_head h
  body ← body_of w.body_len rest
  call_of w.route (segments_of w.path) body

-- An input says what its head asks with the bytes after it; or it has no head.
abbrev pub Says : List ℕ → Result Asked Refusal → Type 0
Says input outcome =
    ((h : RequestHead) × (rest : List ℕ) × IsSmall h × ReadsRequest input h rest × (outcome ≡ judged h rest))
    ⊎ ((HasBadHead input × (outcome ≡ Err bad_frame)) ⊎ (HasCutHead input × (outcome ≡ Err cut_frame)))

-- ---- how it is read

-- out of memory, or a read failed
abbrev pub IsFailure : Refusal → Type 0
IsFailure refusal = (refusal ≡ no_memory_refusal) ⊎ (refusal ≡ read_failed_refusal)

-- a call returned what is defined, as the view shows it, or the defined refusal; or it failed
abbrev pub GivesUnlessFailed : {X Y : Type 0} → (X → Y) → Result X Refusal → Result Y Refusal → Type 0
GivesUnlessFailed view (Ok x) defined = defined ≡ Ok (view x)
GivesUnlessFailed view (Err refusal) defined = IsFailure refusal ⊎ (defined ≡ Err refusal)

-- a refusal of a head is the defined one, or a failure
abbrev pub RefusesHead : List ℕ → Refusal → Type 0
RefusesHead input refusal =
    IsFailure refusal ⊎ ((HasBadHead input × (refusal ≡ bad_frame)) ⊎ (HasCutHead input × (refusal ≡ cut_frame)))

-- what an input says was read, or the reading failed
abbrev pub IsRead : {X : Type 0} → (X → Asked) → List ℕ → Result X Refusal → Type 0
IsRead view input (Ok x) = Says input (Ok (view x))
IsRead view input (Err refusal) = IsFailure refusal ⊎ Says input (Err refusal)
