-- The bytes of a compile file, or the first fault of its walk.
use Rattle.std.specs.Prelude.{ℕ, ◌-◌, nat_lt, if◌then◌else◌, List, [], ◌∷◌, ◌++◌, length, take, replicate, decimal, count_by, Bool, true, false, Option, Some}
use Rattle.std.specs.Prelude.{None, Result, Ok, Err}
use Rattle.std.specs.List.{enumerate_from, filter_map, flat_map}
use Rattle.upd_text.specs.declared.fault.Fault.{Fault}
use Rattle.upd_text.specs.declared.fault.FaultKind.{FaultKind}
use Rattle.upd_text.specs.declared.fault.FaultKind.TheVariants.{CallUnknown, CallDepth, CompileLong}
use Rattle.upd_core.specs.declared.ident.Ident.{Ident}
use Rattle.upd_text.specs.declared.limits.TheConstants.{MAX_COMPILE_LINES, MAX_CALLS, MAX_DEPTH}
use Rattle.upd_core.specs.Actives.{ActiveCardView, ActivesView, actives_of}
use Rattle.upd_core.specs.Library.{LibraryView, name_of}
use Rattle.upd_compile.specs.declared.mode.Mode.{Mode}
use Rattle.upd_compile.specs.Chosen.{chosen}
use Rattle.upd_compile.specs.Walk.{WalkEvent, Line, Follow, Depth, Unknown, walk}

-- A compile file: its bytes, and the number of its lines.
pub record FileView : Type 0 where
  pub bytes : List ℕ
  pub lines : ℕ

-- n blanks
abbrev pub blanks : ℕ → List ℕ
blanks n = replicate n 32

-- a text padded with blanks on the right to a width
abbrev pub from_left : ℕ → List ℕ → List ℕ
from_left width text = text ++ blanks (width - length text)

-- a text padded with blanks on the left to a width
abbrev pub from_right : ℕ → List ℕ → List ℕ
from_right width text = blanks (width - length text) ++ text

-- the line of a card: its text in 80 columns, a blank, its ident in 9, its number in 6, and LF
abbrev pub card_line : List Ident → ActiveCardView → List ℕ
card_line idents c = from_left 80 c.text ++ 32 ∷ from_left 9 (name_of idents c.ident) ++ from_right 6 (decimal c.number) ++ 10 ∷ []

-- the bytes that an event writes
abbrev pub event_line : List Ident → WalkEvent → List ℕ
event_line idents (Line c) = card_line idents c
event_line idents Follow = []
event_line idents Depth = []
event_line idents Unknown = []

-- whether an event is a line
abbrev pub is_line : WalkEvent → Bool
is_line (Line c) = true
is_line Follow = false
is_line Depth = false
is_line Unknown = false

-- whether an event is a call that is followed
abbrev pub is_follow : WalkEvent → Bool
is_follow (Line c) = false
is_follow Follow = true
is_follow Depth = false
is_follow Unknown = false

-- the fault of an event after others: an unknown call, a call too deep, or a line or a followed call beyond the limit
abbrev pub event_fault : List WalkEvent → WalkEvent → Option FaultKind
event_fault before (Line c) = if nat_lt (count_by is_line before) MAX_COMPILE_LINES then None else Some CompileLong
event_fault before Follow = if nat_lt (count_by is_follow before) MAX_CALLS then None else Some CompileLong
event_fault before Depth = Some CallDepth
event_fault before Unknown = Some CallUnknown

-- the faults of a walk, in the order of its events
abbrev pub walk_faults : List WalkEvent → List FaultKind
walk_faults events = filter_map (λ e. event_fault (take e.0 events) e.1) (enumerate_from 0 events)

-- the file of a walk, or its first fault
abbrev pub written : List Ident → List WalkEvent → Result FileView Fault
written idents events = unless (walk_faults events)
  where
    unless : List FaultKind → Result FileView Fault
    unless (kind ∷ kinds) = Err (record { kind = kind; at = 0 })
    unless [] = Ok (record { bytes = flat_map (event_line idents) events; lines = count_by is_line events })

-- the compile file of a mode: the walks through the chosen decks, in order
abbrev pub file_of : Mode → List ℕ → ActivesView → ActivesView → Result FileView Fault
file_of mode named before after = written after.idents (flat_map (walk MAX_DEPTH after) (chosen mode named before after))

-- the compile file of two libraries, before and after a run
abbrev pub compile_file_of : Mode → List ℕ → LibraryView → LibraryView → Result FileView Fault
compile_file_of mode named before after = file_of mode named (actives_of before) (actives_of after)
