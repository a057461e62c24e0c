-- All that is wrong with an edited text.
use Rattle.std.specs.Prelude.{ℕ, ◌+◌, true, false, List, [], ◌∷◌, ◌++◌, length, Option, Some, None, Result, Ok, Err}
use Rattle.std.specs.Option.{option_map_or}
use Rattle.std.specs.List.{flat_map}
use Rattle.upd_text.specs.declared.fault.Fault.{Fault}
use Rattle.upd_text.specs.Units.{Bytes}
use Rattle.upd_core.specs.Library.{LibraryView}
use Rattle.upd_deck.specs.Items.{ItemView, LineView, Deck, CommonDeck}
use Rattle.upd_deck.specs.Reading.{reading}
use Rattle.upd_correct.specs.declared.refusal.Problem.{Problem}
use Rattle.upd_correct.specs.declared.refusal.Problem.TheVariants.{NoDeck}
use Rattle.upd_correct.specs.declared.refusal.Refusal.{Refusal}
use Rattle.upd_correct.specs.EditedText.{NewDeck, lines_in}
use Rattle.upd_correct.specs.Problems.{deck_problem, line_problem, problem_column, set_problem}

-- the deck that a line begins, by its text and its item
abbrev pub head_by_item : Bytes → ItemView → Option NewDeck
head_by_item text (Deck name) = Some (record { name = name; common = false; noprop = false; first = text; lines = [] })
head_by_item text (CommonDeck name noprop) = Some (record { name = name; common = true; noprop = noprop; first = text; lines = [] })
head_by_item text _ = None

-- the deck that a line begins, by its reading
abbrev pub head_read : Result (List LineView) Fault → Option NewDeck
head_read (Err f) = None
head_read (Ok []) = None
head_read (Ok (line ∷ [])) = head_by_item line.text line.item
head_read (Ok (line ∷ next ∷ lines)) = None

-- the name of the deck that a line begins
abbrev pub name_begun : Bytes → List Bytes
name_begun line = option_map_or (λ d. d.name ∷ []) (head_read (reading line)) []

-- the names of the decks that lines begin
abbrev pub names_begun : List Bytes → List Bytes
names_begun lines = flat_map name_begun lines

-- what is wrong with a line after decks of these names: a further line has to follow the first line of a deck
abbrev pub place_problem : LibraryView → Bytes → List Bytes → Option NewDeck → Option Problem
place_problem l set names (Some d) = deck_problem l set names d
place_problem l set [] None = Some NoDeck
place_problem l set (name ∷ names) None = None

-- the refusal of a problem, if there is one
abbrev pub refusals_at : ℕ → ℕ → Option Problem → List Refusal
refusals_at line column None = []
refusals_at line column (Some problem) = record { line = line; column = column; problem = problem } ∷ []

-- the refusal of a line that follows others: for what is wrong with it alone, or else with its place
abbrev pub line_refusals : LibraryView → Bytes → List Bytes → Bytes → List Refusal
line_refusals l set earlier line =
    option_map_or (λ problem. refusals_at (length earlier + 1) (problem_column line problem) (Some problem)) (line_problem (reading line))
    (refusals_at (length earlier + 1) 1 (place_problem l set (names_begun earlier) (head_read (reading line))))

-- the refusals of lines that follow others
abbrev pub lines_refusals : LibraryView → Bytes → List Bytes → List Bytes → List Refusal
lines_refusals l set earlier [] = []
lines_refusals l set earlier (line ∷ lines) = line_refusals l set earlier line ++ lines_refusals l set (earlier ++ line ∷ []) lines

-- All that is wrong with the name of a set and with an edited text, in order of line.
abbrev pub refusals_of : LibraryView → Bytes → Bytes → List Refusal
refusals_of l set text = refusals_at 0 0 (set_problem l set) ++ lines_refusals l set [] (lines_in text)
