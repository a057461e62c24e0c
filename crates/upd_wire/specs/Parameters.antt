-- The parts of a path, and the parameters among them.
use Rattle.std.specs.Prelude.{ℕ, ◌==◌, if◌then◌else◌, List, [], get_or, Option, Some, None, Result, Ok, Err}
use Rattle.std.specs.List.{before_first, slice_split}
use Rattle.std.specs.Str.{is_utf8}
use Rattle.matchit.specs.Params.{walk}
use Rattle.matchit.specs.declared.params.Params.{Params}
use Rattle.percent_encoding.specs.Percent.{percent_decode}
use Rattle.upd_text.specs.declared.fault.FaultKind.{FaultKind}
use Rattle.upd_text.specs.Names.{is_name}
use Rattle.upd_wire.specs.Calls.{fault_refusal}
use Rattle.upd_wire.specs.declared.call.Refusal.{Refusal}

-- the path of a target: what precedes the first `?`
abbrev pub path_of : List ℕ → List ℕ
path_of target = before_first (λ b. b == 63) target

-- the segments of a path, which slashes separate
abbrev pub segments_of : List ℕ → List (List ℕ)
segments_of path = slice_split (λ b. b == 47) path

-- what the parameters of a match captured, by their names
abbrev pub captures : Params → List (List ℕ × List ℕ)
captures params = walk params.pattern.now params.text.now params.path.now params.names.now 0 0

-- the parameter at a place among the segments, decoded
abbrev pub parameter : List (List ℕ) → ℕ → List ℕ
parameter segments n = percent_decode (get_or segments n [])

-- what was read, or the refusal
abbrev pub or_refuse : {A : Type 0} → FaultKind → Option A → Result A Refusal
or_refuse kind (Some x) = Ok x
or_refuse kind None = Err (fault_refusal kind)

-- a text, if it is UTF-8
abbrev pub text_of : List ℕ → Option (List ℕ)
text_of bytes = if is_utf8 bytes then Some bytes else None

-- a name
abbrev pub name_of : List ℕ → Option (List ℕ)
name_of text = if is_name text then Some text else None
