-- The compile file of one deck.
use Rattle.std.specs.Prelude.{◌∷◌, [], Result}
use Rattle.upd_text.specs.declared.fault.Fault.{Fault}
use Rattle.upd_text.specs.declared.fault.FaultKind.TheVariants.{DeckUnknown}
use Rattle.upd_text.specs.Outcome.{◌>>=◌, at_line, need}
use Rattle.upd_text.specs.Units.{Bytes}
use Rattle.upd_core.specs.Library.{LibraryView, deck_of}
use Rattle.upd_compile.specs.File.{FileView, compile_file_of}
use Rattle.upd_compile.specs.declared.mode.Mode.TheVariants.{Quick}

-- the compile file that has only the held deck with a name; that of a common deck has no lines
abbrev pub source : Bytes → LibraryView → Result FileView Fault
source name l = do
  deck ← at_line 0 (need DeckUnknown (deck_of name l))
  compile_file_of Quick (deck ∷ []) l l
