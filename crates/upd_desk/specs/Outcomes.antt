-- What a new run makes of the library, and its reply.
use Rattle.std.specs.Prelude.{◌≡◌, ◌⊎◌, ℕ, Bool, true, false, List, map, Result, Ok, Err}
use Rattle.upd_text.specs.declared.fault.Fault.{Fault}
use Rattle.upd_text.specs.declared.fault.FaultKind.TheVariants.{CallDepth, CallUnknown, CompileLong}
use Rattle.upd_text.specs.Faults.{fault_at}
use Rattle.upd_text.specs.Outcome.{◌>>=◌}
use Rattle.upd_core.specs.Library.{LibraryView, name_of}
use Rattle.upd_deck.specs.Reading.{reading}
use Rattle.upd_apply.specs.Applying.{Reached, applied}
use Rattle.upd_compile.specs.File.{FileView, compile_file_of}
use Rattle.upd_compile.specs.declared.mode.Mode.{Mode}
use Rattle.upd_desk.specs.ReplyTexts.{accepted_text, refused_text}
use Rattle.upd_desk.specs.Arrivals.{ArrivalView, check_arrival}

-- What a run reached, and its compile file.
pub record Compiled : Type 0 where
  pub reached : Reached
  pub file : FileView

-- a run read, applied and compiled, or its first refusal
abbrev pub compiled : Mode → List ℕ → LibraryView → Result Compiled Fault
compiled mode bytes l = do
  lines ← reading bytes
  reached ← applied lines l
  file ← compile_file_of mode reached.compile l reached.library
  Ok (record { reached = reached; file = file })

-- the faults that the walk of a compile file can meet
abbrev pub IsFileFault : Fault → Type 0
IsFileFault fault = (fault ≡ fault_at CallUnknown 0) ⊎ ((fault ≡ fault_at CallDepth 0) ⊎ (fault ≡ fault_at CompileLong 0))

-- A reply: whether the run was accepted, and the text that the site gets.
pub record ReplyView : Type 0 where
  pub accepted : Bool
  pub text : List ℕ

-- The library after a run, and the reply to it.
pub record Outcome : Type 0 where
  pub library : LibraryView
  pub reply : ReplyView

-- an accepted run leaves the library that it reached, a refused one the library that it found
abbrev pub outcome_by : ArrivalView → LibraryView → Result Compiled Fault → Outcome
outcome_by a l (Ok done) = record {
  library = done.reached.library;
  reply = record {
    accepted = true;
    text = accepted_text a.site a.number a.mode (map (name_of done.reached.library.idents) done.reached.idents) done.file.bytes done.file.lines;
  };
}
outcome_by a l (Err fault) = record { library = l; reply = record { accepted = false; text = refused_text a.site a.number a.mode fault } }

-- what a new run in a mode makes of a library
abbrev pub outcome : Mode → ArrivalView → LibraryView → Outcome
outcome mode a l = outcome_by a l (compiled mode a.bytes l)

-- the reply that a new run would get of a library, or its refusal by the admission checks
abbrev pub reply_on : ArrivalView → LibraryView → Result ReplyView Fault
reply_on a l = do
  mode ← check_arrival a
  Ok (outcome mode a l).reply
