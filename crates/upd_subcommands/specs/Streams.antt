-- What is read of an input, and streams before and after a call.
use Rattle.std.specs.Prelude.{◌≡◌, ◌≤◌, ℕ, ◌+◌, List, length, take, Option}
use Rattle.std.specs.Io.KnownBytes.{Consumes}
use Rattle.upd_wire.specs.Inputs.{IsInput}
use Rattle.upd_text.specs.declared.limits.TheConstants.{MAX_RUN_BYTES}

-- at most this number of bytes was read, and those after them are left
abbrev pub TakesFront : ℕ → Option (List ℕ) → Option (List ℕ) → Type 0
TakesFront most old new = (front : List ℕ) × (length front ≤ most) × Consumes old new front

-- the bytes of an input up to this number: all of them where there are no more
abbrev pub IsFrontOf : ℕ → Option (List ℕ) → List ℕ → Type 0
IsFrontOf most known bytes = (all : List ℕ) × IsInput known all × (bytes ≡ take most all)

-- the run on an input: all its bytes, or enough of them to show that the run is too long
abbrev pub IsRunOn : Option (List ℕ) → List ℕ → Type 0
IsRunOn known run = IsFrontOf (MAX_RUN_BYTES + 1) known run

-- A reader or a writer before and after a call, and what such a stream shows of its bytes: those that are left, or those that it holds.
pub record Stream (T : Type 0) : Type 0 where
  pub bytes : T → Option (List ℕ)
  pub old : T
  pub new : T

-- the stream of this kind with these two values
abbrev pub stream : {T : Type 0} → (T → Option (List ℕ)) → T → T → Stream T
stream bytes old new = record { bytes = bytes; old = old; new = new }

-- what it shows before the call, and after it
abbrev pub before : {T : Type 0} → Stream T → Option (List ℕ)
before s = s.bytes s.old

abbrev pub after : {T : Type 0} → Stream T → Option (List ℕ)
after s = s.bytes s.new
