-- The refusals: their numbers and names.
use Rattle.std.specs.Prelude.{ℕ, codes}
use Rattle.upd_text.specs.declared.fault.Fault.{Fault}
use Rattle.upd_text.specs.declared.fault.FaultKind.{FaultKind}
use Rattle.upd_text.specs.declared.fault.FaultKind.TheVariants.{RunLong, TooManyLines, BadByte, LineLong, BadName, BadCard, BadField, NoIdent, TextNowhere}
use Rattle.upd_text.specs.declared.fault.FaultKind.TheVariants.{NameTaken, IdentUnknown, DeckUnknown, CardUnknown, RangeOrder, DeckCard, YankText, YankSelf}
use Rattle.upd_text.specs.declared.fault.FaultKind.TheVariants.{Reserved, Full, CallUnknown, CallDepth, CompileLong, BadSite, BadNumber, BadMode, RunChanged}
use Rattle.upd_text.specs.declared.fault.FaultKind.TheVariants.{Settled, NoMemory, Store, BadFrame, CutFrame, Read, Write}
use Rattle.upd_text.specs.Units.{Bytes}

-- the number of a refusal
abbrev pub fault_number : FaultKind → ℕ
fault_number RunLong = 1
fault_number TooManyLines = 2
fault_number BadByte = 3
fault_number LineLong = 4
fault_number BadName = 5
fault_number BadCard = 6
fault_number BadField = 7
fault_number NoIdent = 8
fault_number TextNowhere = 9
fault_number NameTaken = 10
fault_number IdentUnknown = 11
fault_number DeckUnknown = 12
fault_number CardUnknown = 13
fault_number RangeOrder = 14
fault_number DeckCard = 15
fault_number YankText = 16
fault_number YankSelf = 17
fault_number Reserved = 18
fault_number Full = 19
fault_number CallUnknown = 20
fault_number CallDepth = 21
fault_number CompileLong = 22
fault_number BadSite = 23
fault_number BadNumber = 24
fault_number BadMode = 25
fault_number RunChanged = 26
fault_number Settled = 27
fault_number NoMemory = 28
fault_number Store = 29
fault_number BadFrame = 30
fault_number CutFrame = 31
fault_number Read = 32
fault_number Write = 33

-- the name of a refusal
abbrev pub fault_name : FaultKind → Bytes
fault_name RunLong = codes "RunLong"
fault_name TooManyLines = codes "TooManyLines"
fault_name BadByte = codes "BadByte"
fault_name LineLong = codes "LineLong"
fault_name BadName = codes "BadName"
fault_name BadCard = codes "BadCard"
fault_name BadField = codes "BadField"
fault_name NoIdent = codes "NoIdent"
fault_name TextNowhere = codes "TextNowhere"
fault_name NameTaken = codes "NameTaken"
fault_name IdentUnknown = codes "IdentUnknown"
fault_name DeckUnknown = codes "DeckUnknown"
fault_name CardUnknown = codes "CardUnknown"
fault_name RangeOrder = codes "RangeOrder"
fault_name DeckCard = codes "DeckCard"
fault_name YankText = codes "YankText"
fault_name YankSelf = codes "YankSelf"
fault_name Reserved = codes "Reserved"
fault_name Full = codes "Full"
fault_name CallUnknown = codes "CallUnknown"
fault_name CallDepth = codes "CallDepth"
fault_name CompileLong = codes "CompileLong"
fault_name BadSite = codes "BadSite"
fault_name BadNumber = codes "BadNumber"
fault_name BadMode = codes "BadMode"
fault_name RunChanged = codes "RunChanged"
fault_name Settled = codes "Settled"
fault_name NoMemory = codes "NoMemory"
fault_name Store = codes "Store"
fault_name BadFrame = codes "BadFrame"
fault_name CutFrame = codes "CutFrame"
fault_name Read = codes "Read"
fault_name Write = codes "Write"

-- a refusal at a line of a run; out of memory has no line
abbrev pub fault_at : FaultKind → ℕ → Fault
fault_at NoMemory n = record { kind = NoMemory; at = 0 }
fault_at kind n = record { kind = kind; at = n }
