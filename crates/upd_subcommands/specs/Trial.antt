-- A run on its own: what it makes of an empty library.
use Rattle.std.specs.Prelude.{ℕ, List, Result}
use Rattle.upd_text.specs.declared.fault.Fault.{Fault}
use Rattle.upd_text.specs.declared.fault.FaultKind.TheVariants.{BadMode}
use Rattle.upd_core.specs.Library.{empty}
use Rattle.upd_text.specs.Outcome.{◌>>=◌, at_line, need}
use Rattle.upd_deck.specs.Reading.{reading}
use Rattle.upd_apply.specs.Applying.{applied}
use Rattle.upd_compile.specs.File.{FileView, compile_file_of}
use Rattle.upd_compile.specs.Modes.{mode_named}
use Rattle.upd_compile.specs.declared.mode.Mode.{Mode}

-- the compile file of a run applied to the empty library, or its first refusal
abbrev pub trial_of : Mode → List ℕ → Result FileView Fault
trial_of mode bytes = do
  lines ← reading bytes
  reached ← applied lines empty
  compile_file_of mode reached.compile empty reached.library

-- the same of a mode's word, which is looked at first
abbrev pub trial_named : List ℕ → List ℕ → Result FileView Fault
trial_named word bytes = do
  mode ← at_line 0 (need BadMode (mode_named word))
  trial_of mode bytes
