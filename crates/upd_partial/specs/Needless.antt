-- Runs on a part of a library: the decks that a run doesn't need.
use Rattle.std.specs.Prelude.{◌≡◌, ◌==◌, ◌<◌, nat_le, Bool, false, not, ◌&&◌, ◌||◌, IsTrue, List, length, Some, Result, Ok, Err}
use Rattle.std.specs.List.{filter, list_all, AllByRecursion}
use Rattle.upd_text.specs.declared.fault.Fault.{Fault}
use Rattle.upd_core.specs.Serials.{Serial}
use Rattle.upd_core.specs.declared.library.Place.{Place}
use Rattle.upd_core.specs.Edits.{is_among}
use Rattle.upd_core.specs.Library.{DeckView, LibraryView, all_decks, place_of}
use Rattle.upd_deck.specs.Items.{ItemView, LineView}
use Rattle.upd_records.specs.Changes.{ChangeView}
use Rattle.upd_diff.specs.RowChanges.{RowChanges}
use Rattle.upd_apply.specs.Applying.{Reached, applied, touched}
use Rattle.upd_apply.specs.Directives.{is_purge, is_yank}
-- the cards that a line names
pub use Rattle.upd_apply.specs.Directives.{cards_of_item}
use Rattle.upd_core.specs.Parts.{part}

-- whether a line neither yanks nor purges
abbrev pub is_plain_item : ItemView → Bool
is_plain_item item = not (is_yank item || is_purge item)

-- a run is plain: no line of it yanks or purges
abbrev pub is_plain : List LineView → Bool
is_plain lines = list_all (λ line. is_plain_item line.item) lines

-- the serials of a directory that are not among these: those of the decks that a part with only these decks leaves out
abbrev pub is_left_out : List Serial → LibraryView → Serial → Bool
is_left_out ages l d = not (d == 0) && nat_le d (length l.idents) && not (is_among ages d)

-- the decks whose serials pass a test; `YANK$$$` counts as a deck with serial 0
abbrev pub left_out : (Serial → Bool) → LibraryView → List DeckView
left_out out l = filter (λ d. out d.ident) (all_decks l)

-- each card that a run names, where it exists, is in a deck whose serial doesn't pass the test
abbrev pub NamesNone : (Serial → Bool) → List LineView → LibraryView → Type 0
NamesNone out lines l =
    AllByRecursion (λ line. AllByRecursion (λ card. (p : Place) → place_of card l ≡ Some p → out p.deck ≡ false) (cards_of_item line.item)) lines

-- A plain run doesn't need decks of which it names no card. The test passes no serial of a later ident.
pub record DoesWithout (out : Serial → Bool) (lines : List LineView) (l : LibraryView) : Type 0 where
  pub plain : IsTrue (is_plain lines)
  pub listed : (z : Serial) → length l.idents < z → out z ≡ false
  pub cards : NamesNone out lines l

-- the result of a run, with the same part left out
abbrev pub reached_in_part : (Serial → Bool) → Result Reached Fault → Result Reached Fault
reached_in_part out (Ok reached) = Ok (record reached { library = part out reached.library })
reached_in_part out (Err fault) = Err fault

-- The result of a run on a part is the part of its result on the whole; the row changes are the same, and so are the touched cards.
pub record IsOnWhole (out : Serial → Bool) (lines : List LineView) (l : LibraryView) (here : Reached) (changes : List ChangeView) : Type 0 where
  pub there : Reached
  pub reached : applied lines l ≡ Ok there
  pub parted : here ≡ record there { library = part out there.library }
  pub row_changes : RowChanges l there.library changes
  pub touched : touched l there.library ≡ touched (part out l) here.library
