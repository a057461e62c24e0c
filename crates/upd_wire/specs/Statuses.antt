-- The statuses of answers, and the types of their bodies.
use Rattle.std.specs.Prelude.{ℕ, List, [], ◌++◌, codes, unwrap_or}
use Rattle.http.specs.StatusCode.{code_digits, reason_phrase}
use Rattle.upd_text.specs.declared.fault.FaultKind.{FaultKind}
use Rattle.upd_text.specs.declared.fault.FaultKind.TheVariants as fault
use Rattle.upd_wire.specs.declared.http_status.Media.{Media}
use Rattle.upd_wire.specs.declared.http_status.Media.TheVariants.{Json, Plain}

-- the reason that goes with a status, or an empty text if it has none
unfoldable pub reason_of : ℕ → List ℕ
reason_of status = unwrap_or (reason_phrase status) []

-- a status as a head has it: its three digits, a blank, and the reason
abbrev pub status_line : ℕ → List ℕ
status_line status = code_digits status ++ codes " " ++ reason_of status

-- the type of a body, as a head has it
abbrev pub media_text : Media → List ℕ
media_text Json = codes "application/json"
media_text Plain = codes "text/plain"

-- the status that answers a fault; those that no call of the desk returns are among the refusals of a run
abbrev pub fault_status : FaultKind → ℕ
fault_status fault.RunLong = 413
fault_status fault.BadName = 400
fault_status fault.BadCard = 400
fault_status fault.BadSite = 400
fault_status fault.BadNumber = 400
fault_status fault.BadMode = 400
fault_status fault.BadFrame = 400
fault_status fault.DeckUnknown = 404
fault_status fault.CardUnknown = 404
fault_status fault.RunChanged = 409
fault_status fault.Settled = 410
fault_status fault.NoMemory = 503
fault_status fault.Store = 503
fault_status other = 422
