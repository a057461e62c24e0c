-- The decks that lines of an edited text give, and the refusals of these lines.
use Rattle.std.specs.Prelude.{◌≡◌, List, [], ◌++◌, map}
use Rattle.std.specs.List.{flat_map, AllZip}
use Rattle.upd_text.specs.Units.{Bytes}
use Rattle.upd_core.specs.Library.{LibraryView}
use Rattle.upd_correct.specs.declared.refusal.Refusal.{Refusal}
use Rattle.upd_correct.specs.EditedText.{NewDeck, lines_of_deck}
use Rattle.upd_correct.specs.LineReads.{IsReadAs}
use Rattle.upd_correct.specs.Refusals.{lines_refusals, names_begun}

-- Decks are read from lines, and the refusals of the lines follow earlier ones. Without refusals the lines are those of the decks.
pub record AreReadFrom (l : LibraryView) (set : Bytes) (earlier : List Refusal) (lines : List Bytes) (decks : List NewDeck)
    (refusals : List Refusal) : Type 0 where
  pub names : map (λ d. d.name) decks ≡ names_begun lines
  pub refused : refusals ≡ earlier ++ lines_refusals l set [] lines
  pub given : refusals ≡ [] → AllZip IsReadAs lines (flat_map lines_of_deck decks)
