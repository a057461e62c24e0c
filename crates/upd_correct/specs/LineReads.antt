-- How the lines of an edited text are read.
use Rattle.std.specs.Prelude.{◌≡◌, List, [], ◌∷◌, Option, Some, None, Ok}
use Rattle.std.specs.List.{flat_map, AllZip}
use Rattle.upd_text.specs.Units.{Bytes}
use Rattle.upd_deck.specs.Items.{LineView}
use Rattle.upd_deck.specs.Reading.{reading}
use Rattle.upd_correct.specs.declared.read_line.LineRead.{LineRead}
use Rattle.upd_correct.specs.declared.read_line.LineRead.TheVariants.{Head, Card, Wrong}
use Rattle.upd_correct.specs.declared.refusal.Problem.{Problem}
use Rattle.upd_correct.specs.EditedText.{EditedLine, First, Further, NewDeck, lines_in, lines_of_deck}
use Rattle.upd_correct.specs.Problems.{line_problem, problem_column}
use Rattle.upd_correct.specs.Refusals.{head_read}

-- a line, read alone as it would be in a run, has this problem and begins this deck
abbrev pub HasReading : Bytes → Option Problem → Option NewDeck → Type 0
HasReading bytes problem head = (line_problem (reading bytes) ≡ problem) × (head_read (reading bytes) ≡ head)

-- a line without a problem is the first of a deck, or a further one with this text
abbrev pub IsReadAs : Bytes → EditedLine → Type 0
IsReadAs bytes (First deck) = HasReading bytes None (Some deck)
IsReadAs bytes (Further text) = HasReading bytes None None × (read : LineView) × (reading bytes ≡ Ok (read ∷ [])) × (read.text ≡ text)

-- The decks of an edited text, each with its first card's text and the texts of its further lines. A deck may be held or new.
abbrev pub HasDecks : Bytes → List NewDeck → Type 0
HasDecks text decks = AllZip IsReadAs (lines_in text) (flat_map lines_of_deck decks)

-- a line is the first of a deck, a further line of one, or has a problem
abbrev pub IsTakenAs : Bytes → LineRead → Type 0
IsTakenAs bytes (Head deck) = (deck.lines ≡ []) × IsReadAs bytes (First deck)
IsTakenAs bytes (Card text) = IsReadAs bytes (Further text.now)
IsTakenAs bytes (Wrong column problem) = HasReading bytes (Some problem) None × (column ≡ problem_column bytes problem)
