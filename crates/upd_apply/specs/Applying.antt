-- The result of a run on a library, or its refusal.
use Rattle.std.specs.Prelude.{ℕ, List, [], ◌∷◌, map, length, drop, None, Result, Ok}
use Rattle.upd_text.specs.declared.fault.Fault.{Fault}
use Rattle.upd_core.specs.Library.{LibraryView}
use Rattle.upd_text.specs.Outcome.{◌>>=◌, at_line}
use Rattle.upd_deck.specs.Items.{LineView}
use Rattle.upd_apply.specs.declared.state.InsertPoint.TheVariants.{Nowhere}
use Rattle.upd_apply.specs.declared.state.State.{State}
use Rattle.upd_apply.specs.Step.{step}
use Rattle.upd_apply.specs.Compile.{named_decks}
-- the cards that a run touched
pub use Rattle.upd_diff.specs.Touched.{same_history, stood_in, touched}

-- the state before the first line: no current set and no insertion point
abbrev pub started : LibraryView → State
started l = record { library = l; current_set = None; insert_point = Nowhere }

-- the state after lines in order; the first refusal ends the run
abbrev pub stepped : List LineView → State → Result State Fault
stepped [] s = Ok s
stepped (line ∷ lines) s = do
  t ← at_line line.number (step line s)
  stepped lines t

-- The result of a run: the library, the serials of the idents that it introduced, and the serials of the decks that `*COMPILE` named.
pub record Reached : Type 0 where
  pub library : LibraryView
  pub idents : List ℕ
  pub compile : List ℕ

-- the serials of the idents that were added to a directory
abbrev pub ages_brought : LibraryView → LibraryView → List ℕ
ages_brought before after = map (λ i. i.age) (drop (length before.idents) after.idents)

-- the result of a run on a library
abbrev pub applied : List LineView → LibraryView → Result Reached Fault
applied lines l = do
  s ← stepped lines (started l)
  decks ← named_decks lines s.library
  Ok (record { library = s.library; idents = ages_brought l s.library; compile = decks })
