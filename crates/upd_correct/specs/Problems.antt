-- Why an edited text is refused.
use Rattle.std.specs.Prelude.{ℕ, ◌+◌, not, ◌||◌, if◌then◌else◌, List, [], ◌∷◌, length, Option, Some, None, is_some, Result, Ok, Err}
use Rattle.std.specs.Option.{option_map_or}
use Rattle.std.specs.List.{list_any}
use Rattle.std.specs.Str.{bytes_eq}
use Rattle.upd_text.specs.declared.fault.Fault.{Fault}
use Rattle.upd_text.specs.declared.fault.FaultKind.{FaultKind}
use Rattle.upd_text.specs.declared.fault.FaultKind.TheVariants as fault
use Rattle.upd_text.specs.Lines.{up_to}
use Rattle.upd_text.specs.Names.{is_name}
use Rattle.upd_text.specs.Units.{Bytes}
use Rattle.upd_core.specs.declared.target.Target.{Target}
use Rattle.upd_core.specs.Library.{CardView, LibraryView, cards_of, deck_of, held_named}
use Rattle.upd_core.specs.Serials.{Serial}
use Rattle.upd_core.specs.Status.{is_active, live_targets}
use Rattle.upd_deck.specs.Items.{ItemView, LineView, Text, Call, Deck, CommonDeck}
use Rattle.upd_deck.specs.Reading.{is_allowed}
use Rattle.upd_apply.specs.Names.{is_reserved}
use Rattle.upd_correct.specs.EditedText.{NewDeck}
use Rattle.upd_correct.specs.declared.refusal.Problem.{Problem}
use Rattle.upd_correct.specs.declared.refusal.Problem.TheVariants.{BadByte, LineLong, Comment, Directive, FirstCard, OutOfUse, DeckTwice, NameTaken, Reserved}
use Rattle.upd_correct.specs.declared.refusal.Problem.TheVariants.{BadName}

-- ---- a line

-- what is wrong with a line that a run may not have
abbrev pub fault_problem : FaultKind → Problem
fault_problem fault.BadByte = BadByte
fault_problem fault.LineLong = LineLong
fault_problem fault.RunLong = LineLong
fault_problem _ = Directive

-- what is wrong with a line by its item: only text, calls and the first lines of decks are edited
abbrev pub item_problem : ItemView → Option Problem
item_problem Text = None
item_problem (Call name) = None
item_problem (Deck name) = None
item_problem (CommonDeck name noprop) = None
item_problem _ = Some Directive

-- what is wrong with a line by its reading
abbrev pub line_problem : Result (List LineView) Fault → Option Problem
line_problem (Err f) = Some (fault_problem f.kind)
line_problem (Ok []) = Some Comment
line_problem (Ok (line ∷ [])) = item_problem line.item
line_problem (Ok (line ∷ next ∷ lines)) = Some Directive

-- the column of a problem of a line: that of its first bad byte, of its first byte that is too much, or the first
abbrev pub problem_column : Bytes → Problem → ℕ
problem_column bytes BadByte = length (up_to (λ b. not (is_allowed b)) bytes) + 1
problem_column bytes LineLong = 81
problem_column bytes _ = 1

-- ---- a deck

-- what is wrong with the first line of a held deck, whose first card may not change
abbrev pub first_problem : List Target → Serial → Bytes → List CardView → Option Problem
first_problem live deck text [] = Some FirstCard
first_problem live deck text (card ∷ cards) =
    if bytes_eq card.text text then (if is_active live deck card then None else Some OutOfUse) else Some FirstCard

-- what is wrong with the name of a new deck
abbrev pub name_problem : LibraryView → Bytes → Bytes → Option Problem
name_problem l set name =
    if is_reserved name then Some Reserved else if is_some (held_named name l.idents) || bytes_eq name set then Some NameTaken else None

-- what is wrong with a deck that follows decks of these names in the text
abbrev pub deck_problem : LibraryView → Bytes → List Bytes → NewDeck → Option Problem
deck_problem l set names d =
    if list_any (λ name. bytes_eq name d.name) names
    then Some DeckTwice
    else option_map_or (λ deck. first_problem (live_targets l) deck d.first (cards_of deck l)) (deck_of d.name l) (name_problem l set d.name)

-- what is wrong with the name of the set
abbrev pub set_problem : LibraryView → Bytes → Option Problem
set_problem l set =
    if is_name set
    then (if is_reserved set then Some Reserved else if is_some (held_named set l.idents) then Some NameTaken else None)
    else Some BadName
