-- How an answer of the desk is written: as a line, or by nothing where the arrival was lost.
use Rattle.std.specs.Prelude.{◌≡◌, ◌⊎◌, ℕ, Bool, true, false, not, List, [], ◌∷◌, ◌++◌, Result, Ok, Err}
use Rattle.upd_text.specs.Faults.{fault_at}
use Rattle.upd_text.specs.declared.fault.Fault.{Fault}
use Rattle.upd_text.specs.declared.fault.FaultKind.TheVariants.{NoMemory}
use Rattle.upd_desk.specs.ReplyTexts.{fault_text}
use Rattle.upd_desk.specs.Outcomes.{ReplyView}
use Rattle.upd_desk.specs.Holding.{is_lost}

-- whether an arrival was answered, and not lost
abbrev pub is_answered : Result ReplyView Fault → Bool
is_answered (Ok reply) = true
is_answered (Err fault) = not (is_lost fault.kind)

-- the line that answers an arrival: the reply, or the text of the fault
abbrev pub answer_line : Result ReplyView Fault → List ℕ
answer_line (Ok reply) = reply.text ++ 10 ∷ []
answer_line (Err fault) = fault_text fault ++ 10 ∷ []

-- why an arrival gets no line: it was lost, or there was no memory for the text of its fault
abbrev pub IsUntold : Result ReplyView Fault → Fault → Type 0
IsUntold (Ok reply) fault = ⊥
IsUntold (Err met) fault = ((is_lost met.kind ≡ true) × (fault ≡ met)) ⊎ ((is_lost met.kind ≡ false) × (fault ≡ fault_at NoMemory 0))
