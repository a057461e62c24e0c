-- The names, texts and numbers in libraries that runs have made.
use Rattle.std.specs.Prelude.{◌≡◌, ℕ, ◌<◌, ◌≤◌, IsTrue, List, length, Ok}
use Rattle.std.specs.List.{list_all, AllByRecursion}
use Rattle.upd_text.specs.declared.limits.TheConstants.{MAX_LINE_BYTES, MAX_RUN_LINES}
use Rattle.upd_text.specs.Names.{is_name}
use Rattle.upd_core.specs.Library.{CardView, LibraryView}
use Rattle.upd_core.specs.Sound.{all_cards}
use Rattle.upd_deck.specs.Items.{LineView}
use Rattle.upd_deck.specs.Reading.{is_allowed, reading}

-- the lines are the reading of some bytes
abbrev pub WereRead : List LineView → Type 0
WereRead lines = (bytes : List ℕ) × (reading bytes ≡ Ok lines)

-- the text of a line: at most 80 bytes, all of them allowed
abbrev pub IsLineText : List ℕ → Type 0
IsLineText text = (length text ≤ MAX_LINE_BYTES) × IsTrue (list_all is_allowed text)

-- a card of a run: it has the text of a line, and a number from 1 to 2,000, since a set or a new deck gets cards in only one run
abbrev pub IsOfRun : CardView → Type 0
IsOfRun c = IsLineText c.text × (0 < c.number) × (c.number ≤ MAX_RUN_LINES)

-- Each ident has a valid name, and each card has the text of a line and a number from 1 to 2,000.
-- This holds of every library that runs have made (`read_runs_bring_cards_of_lines`).
pub record HasLineTexts (l : LibraryView) : Type 0 where
  pub names : AllByRecursion (λ i. IsTrue (is_name i.name)) l.idents
  pub cards : AllByRecursion IsOfRun (all_cards l)
