-- Each fault is found by its name and by its number, and its text begins with both.
use Rattle.std.proofs.Common.{◌≡◌, ◌<◌, ◌++◌, arith, List, [], ◌∷◌, ℕ, Bool, true, false, Option, Some, IsTrue, IsSome, if◌then◌else◌, refl, sym, subst}
use Rattle.std.specs.Prelude.{codes, decimal}
use Rattle.std.specs.Fmt.{digits}
use Rattle.std.specs.Option.{option_map}
use Rattle.std.specs.List.{find}
use Rattle.upd_views.specs.Escaped.{begins}
use Rattle.upd_views.specs.FaultTexts.{IsCalled, explained, fault_list, fault_text, faults, has_three_lines, is_called}
use Rattle.upd_views.specs.declared.fault_texts.TheConstants.{FAULT_LIST}
use Rattle.upd_text.specs.Faults.{fault_name, fault_number}
use Rattle.upd_text.specs.declared.fault.FaultKind.{FaultKind}
use Rattle.upd_text.specs.declared.fault.FaultKind.TheVariants.{RunLong, TooManyLines, BadByte, LineLong, BadName, BadCard, BadField, NoIdent, TextNowhere}
use Rattle.upd_text.specs.declared.fault.FaultKind.TheVariants.{NameTaken, IdentUnknown, DeckUnknown, CardUnknown, RangeOrder, DeckCard, YankText, YankSelf}
use Rattle.upd_text.specs.declared.fault.FaultKind.TheVariants.{Reserved, Full, CallUnknown, CallDepth, CompileLong, BadSite, BadNumber, BadMode, RunChanged}
use Rattle.upd_text.specs.declared.fault.FaultKind.TheVariants.{Settled, NoMemory, Store, BadFrame, CutFrame, Read, Write}

-- what is computed of a fault: its name and its number find its text, which begins with both and has three lines; the number is 1 to 33
abbrev IsExplained : FaultKind → Type 0
IsExplained kind =
    (explained (fault_name kind) ≡ Some (fault_text kind)) × (explained (decimal (fault_number kind)) ≡ Some (fault_text kind))
    × (begins (fault_text kind) (fault_name kind ++ codes " (" ++ decimal (fault_number kind) ++ codes "): ") ≡ true)
    × (has_three_lines (fault_text kind) ≡ true) × (0 < fault_number kind) × (fault_number kind < 34)

pub is_explained : (kind : FaultKind) → IsExplained kind
unfolding digits
is_explained RunLong = (refl, refl, refl, refl, omega arith, omega arith)
is_explained TooManyLines = (refl, refl, refl, refl, omega arith, omega arith)
is_explained BadByte = (refl, refl, refl, refl, omega arith, omega arith)
is_explained LineLong = (refl, refl, refl, refl, omega arith, omega arith)
is_explained BadName = (refl, refl, refl, refl, omega arith, omega arith)
is_explained BadCard = (refl, refl, refl, refl, omega arith, omega arith)
is_explained BadField = (refl, refl, refl, refl, omega arith, omega arith)
is_explained NoIdent = (refl, refl, refl, refl, omega arith, omega arith)
is_explained TextNowhere = (refl, refl, refl, refl, omega arith, omega arith)
is_explained NameTaken = (refl, refl, refl, refl, omega arith, omega arith)
is_explained IdentUnknown = (refl, refl, refl, refl, omega arith, omega arith)
is_explained DeckUnknown = (refl, refl, refl, refl, omega arith, omega arith)
is_explained CardUnknown = (refl, refl, refl, refl, omega arith, omega arith)
is_explained RangeOrder = (refl, refl, refl, refl, omega arith, omega arith)
is_explained DeckCard = (refl, refl, refl, refl, omega arith, omega arith)
is_explained YankText = (refl, refl, refl, refl, omega arith, omega arith)
is_explained YankSelf = (refl, refl, refl, refl, omega arith, omega arith)
is_explained Reserved = (refl, refl, refl, refl, omega arith, omega arith)
is_explained Full = (refl, refl, refl, refl, omega arith, omega arith)
is_explained CallUnknown = (refl, refl, refl, refl, omega arith, omega arith)
is_explained CallDepth = (refl, refl, refl, refl, omega arith, omega arith)
is_explained CompileLong = (refl, refl, refl, refl, omega arith, omega arith)
is_explained BadSite = (refl, refl, refl, refl, omega arith, omega arith)
is_explained BadNumber = (refl, refl, refl, refl, omega arith, omega arith)
is_explained BadMode = (refl, refl, refl, refl, omega arith, omega arith)
is_explained RunChanged = (refl, refl, refl, refl, omega arith, omega arith)
is_explained Settled = (refl, refl, refl, refl, omega arith, omega arith)
is_explained NoMemory = (refl, refl, refl, refl, omega arith, omega arith)
is_explained Store = (refl, refl, refl, refl, omega arith, omega arith)
is_explained BadFrame = (refl, refl, refl, refl, omega arith, omega arith)
is_explained CutFrame = (refl, refl, refl, refl, omega arith, omega arith)
is_explained Read = (refl, refl, refl, refl, omega arith, omega arith)
is_explained Write = (refl, refl, refl, refl, omega arith, omega arith)

pub from_one : (kind : FaultKind) → 0 < fault_number kind
from_one kind = (is_explained kind).4

pub to_last : (kind : FaultKind) → fault_number kind < 34
to_last kind = (is_explained kind).5

-- the first element, or a later one
found_or : (word : List ℕ) (kind : FaultKind) (test : Bool) (later : Option FaultKind) → is_called word kind ≡ test
    → (IsSome (option_map fault_text later) → IsCalled word)
    → IsSome (option_map fault_text (if test then Some kind else later)) → IsCalled word
found_or word kind true later e from is = (kind, subst IsTrue (sym e) refl)
found_or word kind false later e from is = from is

-- what is found passes the test
found : (word : List ℕ) (kinds : List FaultKind) → IsSome (option_map fault_text (find (is_called word) kinds)) → IsCalled word
found word [] is = let no : false ≡ true = is in absurd (cc)
found word (kind ∷ kinds) is =
    found_or word kind (is_called word kind) (find (is_called word) kinds) refl (found word kinds) is

pub only : (word : List ℕ) → IsSome (explained word) → IsCalled word
only word is = found word faults is

-- each fault has its line
pub all_listed : FAULT_LIST.now ≡ fault_list
unfolding digits
all_listed = refl
