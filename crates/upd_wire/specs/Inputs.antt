-- What an input holds, and why it can't be read.
use Rattle.std.specs.Prelude.{◌≡◌, ◌⊎◌, ◌++◌, ℕ, List, Option, IfSome}
use Rattle.upd_text.specs.declared.fault.FaultKind.{FaultKind}
use Rattle.upd_text.specs.declared.fault.FaultKind.TheVariants.{NoMemory, Read}

-- These are the bytes of an input whose bytes are known; another one, such as a connection, may hold any.
abbrev pub IsInput : Option (List ℕ) → List ℕ → Type 0
IsInput known bytes = IfSome known (λ all. bytes ≡ all)

-- an input begins with these bytes
abbrev pub Begins : List ℕ → List ℕ → Type 0
Begins input front = (rest : List ℕ) × (input ≡ front ++ rest)

-- why input can't be read: there is no memory for it, or a read failed
abbrev pub IsReadFailure : FaultKind → Type 0
IsReadFailure kind = (kind ≡ NoMemory) ⊎ (kind ≡ Read)
