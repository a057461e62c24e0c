-- What a fault means, by its name or its number.
use Rattle.std.specs.Prelude.{Bool, false, ◌-◌, ◌==◌, ◌&&◌, ◌||◌, ◌++◌, List, [], ◌∷◌, IsTrue, Option, codes, decimal, slice_get, unwrap_or}
use Rattle.std.specs.Option.{option_map}
use Rattle.std.specs.List.{find, flat_map, slice_split}
use Rattle.std.specs.Str.{bytes_eq, str_eq_ignore_ascii_case}
use Rattle.upd_views.specs.Escaped.{begins}
use Rattle.upd_views.specs.declared.fault_texts.TheConstants.{FAULT_TEXTS}
use Rattle.upd_text.specs.Faults.{fault_name, fault_number}
use Rattle.upd_text.specs.Units.{Bytes}
use Rattle.upd_text.specs.declared.fault.FaultKind.{FaultKind}
use Rattle.upd_text.specs.declared.fault.FaultKind.TheVariants.{RunLong, TooManyLines, BadByte, LineLong, BadName, BadCard, BadField, NoIdent, TextNowhere}
use Rattle.upd_text.specs.declared.fault.FaultKind.TheVariants.{NameTaken, IdentUnknown, DeckUnknown, CardUnknown, RangeOrder, DeckCard, YankText, YankSelf}
use Rattle.upd_text.specs.declared.fault.FaultKind.TheVariants.{Reserved, Full, CallUnknown, CallDepth, CompileLong, BadSite, BadNumber, BadMode, RunChanged}
use Rattle.upd_text.specs.declared.fault.FaultKind.TheVariants.{Settled, NoMemory, Store, BadFrame, CutFrame, Read, Write}

-- the faults, in order of number
abbrev pub faults : List FaultKind
faults =
    RunLong ∷ TooManyLines ∷ BadByte ∷ LineLong ∷ BadName ∷ BadCard ∷ BadField ∷ NoIdent ∷ TextNowhere ∷ NameTaken ∷ IdentUnknown ∷ DeckUnknown ∷
    CardUnknown ∷ RangeOrder ∷ DeckCard ∷ YankText ∷ YankSelf ∷ Reserved ∷ Full ∷ CallUnknown ∷ CallDepth ∷ CompileLong ∷ BadSite ∷ BadNumber ∷
    BadMode ∷ RunChanged ∷ Settled ∷ NoMemory ∷ Store ∷ BadFrame ∷ CutFrame ∷ Read ∷ Write ∷ []

-- whether a word is a fault's name, in letters of any case, or its number in digits
abbrev pub is_called : Bytes → FaultKind → Bool
is_called word kind = str_eq_ignore_ascii_case word (fault_name kind) || bytes_eq word (decimal (fault_number kind))

-- a word is the name or the number of a fault
abbrev pub IsCalled : Bytes → Type 0
IsCalled word = (kind : FaultKind) × IsTrue (is_called word kind)

-- the text of a fault
abbrev pub fault_text : FaultKind → Bytes
fault_text kind = unwrap_or (option_map (λ text. text.now) (slice_get FAULT_TEXTS (fault_number kind - 1))) []

-- whether these are three lines, each with LF: what a fault means, where it comes from, and what to do
abbrev pub are_three : List Bytes → Bool
are_three (meaning ∷ source ∷ advice ∷ [] ∷ []) = begins source (codes "from: ") && begins advice (codes "do: ")
are_three lines = false

-- whether a text has three such lines
abbrev pub has_three_lines : Bytes → Bool
has_three_lines text = are_three (slice_split (λ b. b == 10) text)

-- the text of the fault whose name or number is a word
abbrev pub explained : Bytes → Option Bytes
explained word = option_map fault_text (find (is_called word) faults)

-- a line for each fault, in order of number: the number and the name
abbrev pub fault_list : Bytes
fault_list = flat_map (λ kind. decimal (fault_number kind) ++ 32 ∷ fault_name kind ++ 10 ∷ []) faults
