-- A compile file while it is written.
use Rattle.std.specs.Prelude.{ℕ, ◌+◌, nat_lt, if◌then◌else◌, List, [], ◌∷◌, ◌++◌, Result, Ok, Err}
use Rattle.upd_text.specs.declared.fault.FaultKind.{FaultKind}
use Rattle.upd_text.specs.declared.fault.FaultKind.TheVariants.{CallUnknown, CallDepth, CompileLong}
use Rattle.upd_core.specs.declared.ident.Ident.{Ident}
use Rattle.upd_text.specs.declared.limits.TheConstants.{MAX_COMPILE_LINES, MAX_CALLS}
use Rattle.upd_text.specs.Outcome.{◌>>=◌}
use Rattle.upd_compile.specs.File.{FileView, card_line}
use Rattle.upd_compile.specs.Walk.{WalkEvent, Line, Follow, Depth, Unknown}

-- The bytes and lines written so far, and the number of calls followed.
pub record ProgressView : Type 0 where
  pub bytes : List ℕ
  pub lines : ℕ
  pub calls : ℕ

-- nothing is written, and no call was followed
abbrev pub at_start : ProgressView
at_start = record { bytes = []; lines = 0; calls = 0 }

-- the file that is written so far
abbrev pub file_so_far : ProgressView → FileView
file_so_far p = record { bytes = p.bytes; lines = p.lines }

-- the progress after an event, or its fault
abbrev pub after_event : List Ident → WalkEvent → ProgressView → Result ProgressView FaultKind
after_event idents (Line c) p =
    if nat_lt p.lines MAX_COMPILE_LINES
    then Ok (record { bytes = p.bytes ++ card_line idents c; lines = p.lines + 1; calls = p.calls })
    else Err CompileLong
after_event idents Follow p =
    if nat_lt p.calls MAX_CALLS
    then Ok (record { bytes = p.bytes; lines = p.lines; calls = p.calls + 1 })
    else Err CompileLong
after_event idents Depth p = Err CallDepth
after_event idents Unknown p = Err CallUnknown

-- the progress after the events of a walk, in order
abbrev pub after_events : List Ident → List WalkEvent → ProgressView → Result ProgressView FaultKind
after_events idents [] p = Ok p
after_events idents (e ∷ es) p = after_event idents e p >>= after_events idents es
