-- Outcomes with refusals: the first refusal decides, and the steps before it have no effect.
use Rattle.std.specs.Prelude.{◌≡◌, Bool, if◌then◌else◌, List, [], ◌∷◌, ◌++◌, Option, Some, None, Result, Ok, Err}
use Rattle.upd_text.specs.declared.fault.Fault.{Fault}
use Rattle.upd_text.specs.declared.fault.FaultKind.{FaultKind}
use Rattle.upd_text.specs.declared.fault.FaultKind.TheVariants.{NoMemory}
use Rattle.upd_text.specs.Units.{LineNumber}

-- the second step runs only where the first is Ok
infixl 10 ◌>>=◌
abbrev pub ◌>>=◌ : {A B E : Type 0} → Result A E → (A → Result B E) → Result B E
(Ok x) >>= f = f x
(Err e) >>= f = Err e

-- the value of a Some, or the refusal
abbrev pub need : {A : Type 0} → FaultKind → Option A → Result A FaultKind
need fault (Some x) = Ok x
need fault None = Err fault

-- the refusal where the fact holds; else Ok, whose `false` is never read
abbrev pub refuse_if : Bool → FaultKind → Result Bool FaultKind
refuse_if bad fault = if bad then Err fault else Ok bad

-- a refusal with its line
abbrev pub at_line : {A : Type 0} → LineNumber → Result A FaultKind → Result A Fault
at_line n (Ok x) = Ok x
at_line n (Err kind) = Err (record { kind = kind; at = n })

-- the lists that f returns for the elements, joined in order; or the first refusal
abbrev pub each : {A B E : Type 0} → (A → Result (List B) E) → List A → Result (List B) E
each f [] = Ok []
each f (x ∷ xs) = do
  found ← f x
  more ← each f xs
  Ok (found ++ more)

-- A refusal is the defined one. Out of memory can occur at any allocation, and says nothing about what is defined.
abbrev pub Fails : {A : Type 0} → FaultKind → Result A FaultKind → Type 0
Fails NoMemory defined = Unit {0}
Fails kind defined = defined ≡ Err kind

-- the same of a refusal with its line; out of memory has no line
abbrev pub FailsOf : {A : Type 0} → FaultKind → Fault → Result A Fault → Type 0
FailsOf NoMemory fault defined = fault.at ≡ 0
FailsOf kind fault defined = defined ≡ Err fault

-- the same by the kind of the refusal
abbrev pub FailsAt : {A : Type 0} → Fault → Result A Fault → Type 0
FailsAt fault defined = FailsOf fault.kind fault defined

-- a call that changes a value left the defined value, or returned the defined refusal
abbrev pub Does : {A S : Type 0} → Result A FaultKind → S → Result S FaultKind → Type 0
Does (Ok x) new defined = defined ≡ Ok new
Does (Err e) new defined = Fails e defined

-- the same with a line
abbrev pub DoesAt : {A S : Type 0} → Result A Fault → S → Result S Fault → Type 0
DoesAt (Ok x) new defined = defined ≡ Ok new
DoesAt (Err e) new defined = FailsAt e defined

-- a call returned the defined value, as the view shows it, or the defined refusal
abbrev pub Gives : {X Y : Type 0} → (X → Y) → Result X FaultKind → Result Y FaultKind → Type 0
Gives view (Ok x) defined = defined ≡ Ok (view x)
Gives view (Err e) defined = Fails e defined

-- the same with a line
abbrev pub GivesAt : {X Y : Type 0} → (X → Y) → Result X Fault → Result Y Fault → Type 0
GivesAt view (Ok x) defined = defined ≡ Ok (view x)
GivesAt view (Err e) defined = FailsAt e defined
