-- Answers: what they are, and their bytes.
use Rattle.std.specs.Prelude.{ℕ, Bool, true, false, List, [], ◌∷◌, ◌++◌, length, codes, decimal, Option, Some, None, Result, Ok, Err}
use Rattle.std.specs.List.{concat}
use Rattle.upd_text.specs.Faults.{fault_at}
use Rattle.upd_text.specs.declared.fault.Fault.{Fault}
use Rattle.upd_text.specs.declared.fault.FaultKind.TheVariants.{BadFrame}
use Rattle.upd_desk.specs.ReplyTexts.{fault_text, settled_text}
use Rattle.upd_desk.specs.Outcomes.{ReplyView}
use Rattle.upd_wire.specs.Routes.{method_of}
use Rattle.upd_wire.specs.declared.call.Refusal.{Refusal}
use Rattle.upd_wire.specs.declared.call.Refusal.TheVariants.{Silent, Answered, NoRoute, OtherMethod}
use Rattle.upd_wire.specs.Statuses.{fault_status, media_text, status_line}
use Rattle.upd_wire.specs.declared.http_status.Media.{Media}
use Rattle.upd_wire.specs.declared.http_status.Media.TheVariants.{Json, Plain}

-- An answer: its status, the type of its body, the method of its path where the request has another one, and the body.
pub record Response : Type 0 where
  pub status : ℕ
  pub media : Media
  pub allow : Option (List ℕ)
  pub body : List ℕ

-- ---- bytes

-- the line with the method of a path
abbrev pub allow_line : Option (List ℕ) → List ℕ
allow_line None = []
allow_line (Some method) = codes "\r\nAllow: " ++ method

-- the head of an answer: its lines, each with CR LF, and an empty line
abbrev pub head_text : Response → List ℕ
head_text r =
    concat (codes "HTTP/1.1 " ∷ status_line r.status ∷ codes "\r\nContent-Type: " ∷ media_text r.media ∷ codes "\r\nContent-Length: "
    ∷ decimal (length r.body) ∷ allow_line r.allow ∷ codes "\r\nConnection: close\r\n\r\n" ∷ [])

-- the bytes of an answer
abbrev pub response_text : Response → List ℕ
response_text r = head_text r ++ r.body

-- ---- what is answered

-- the status of a reply: 200 where the run is accepted, 422 where it is refused
abbrev pub reply_status : Bool → ℕ
reply_status true = 200
reply_status false = 422

-- a reply to a run
abbrev pub reply_response : ReplyView → Response
reply_response reply = record { status = reply_status reply.accepted; media = Json; allow = None; body = reply.text }

-- the mark of a site that has settled
abbrev pub mark_response : List ℕ → ℕ → Response
mark_response site mark = record { status = 200; media = Json; allow = None; body = settled_text site mark }

-- a compile file or a listing
abbrev pub page : List ℕ → Response
page bytes = record { status = 200; media = Plain; allow = None; body = bytes }

-- a fault, with its own status
abbrev pub fault_response : Fault → Response
fault_response fault = record { status = fault_status fault.kind; media = Json; allow = None; body = fault_text fault }

-- a response, or that of the fault in its place
abbrev pub response_of : Result Response Fault → Response
response_of (Ok response) = response
response_of (Err fault) = fault_response fault

-- the answer to a refused request; nothing is answered where it was cut or a read failed
abbrev pub refusal_answer : Refusal → Result Response Fault
refusal_answer (Silent fault) = Err fault
refusal_answer (Answered fault) = Ok (fault_response fault)
refusal_answer NoRoute = Ok (record (fault_response (fault_at BadFrame 0)) { status = 404 })
refusal_answer (OtherMethod route) = Ok (record (fault_response (fault_at BadFrame 0)) { status = 405; allow = Some (method_of route) })
