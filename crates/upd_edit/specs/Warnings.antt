-- The warnings of a run that is tried on a library.
use Rattle.std.specs.Prelude.{ℕ, ◌+◌, ◌-◌, ◌==◌, nat_lt, not, Bool, true, false, ◌&&◌, if◌then◌else◌, List, [], ◌∷◌, ◌++◌, length, count_by, position, find}
use Rattle.std.specs.Prelude.{is_some, min, reverse, Option, Some, None, Result, Ok, Err}
use Rattle.std.specs.List.{flat_map, list_any, slice_split}
use Rattle.std.specs.Option.{option_and_then, option_map, option_map_or}
use Rattle.std.specs.Str.{bytes_eq}
use Rattle.upd_text.specs.declared.card_ref.CardRef.{CardRef}
use Rattle.upd_text.specs.declared.fault.Fault.{Fault}
use Rattle.upd_text.specs.declared.fault.FaultKind.TheVariants.{IdentUnknown}
use Rattle.upd_text.specs.declared.limits.TheConstants.{MAX_INTRODUCED}
use Rattle.upd_text.specs.Lines.{is_comment, is_starred, word}
use Rattle.upd_text.specs.Outcome.{◌>>=◌, at_line, need}
use Rattle.upd_text.specs.Units.{Bytes}
use Rattle.upd_core.specs.declared.card.Entry.{Entry}
use Rattle.upd_core.specs.declared.library.Place.{Place}
use Rattle.upd_core.specs.declared.target.Target.{Target}
use Rattle.upd_core.specs.Library.{CardView, LibraryView, card_in, cards_of, ident_of, name_of, place_of}
use Rattle.upd_core.specs.Serials.{Serial}
use Rattle.upd_core.specs.Status.{is_taken, live_targets}
use Rattle.upd_deck.specs.Items.{ItemView, LineView, Text, Insert, Before, Delete, Restore, Yank, Purge}
use Rattle.upd_deck.specs.Reading.{is_feed, reading}
use Rattle.upd_edit.specs.declared.warning.Conflict.{Conflict as Met}
use Rattle.upd_edit.specs.declared.warning.Conflict.TheVariants.{CameAgain}
use Rattle.upd_edit.specs.declared.warning.TakingWord.TheVariants as words
use Rattle.upd_edit.specs.declared.warning.Warning.{Warning}
use Rattle.upd_edit.specs.declared.warning.WarningKind.{WarningKind}
use Rattle.upd_edit.specs.declared.warning.WarningKind.TheVariants.{Comments, Conflict, Empty, NearWord, OffAlready, Wide}
use Rattle.upd_edit.specs.Conflicts.{SeenView, before_conflict, insert_conflict, range_conflict}
use Rattle.upd_edit.specs.Found.{conflicts_among, found}
use Rattle.upd_edit.specs.NearWords.{near_word}
use Rattle.upd_edit.specs.YankWarnings.{taking_warnings}

-- ---- comments

-- the lines of a run, without their LFs
abbrev pub lines_of : Bytes → List Bytes
lines_of run = slice_split is_feed run

-- the warning of the comments of a run, at the first
abbrev pub comment_warnings : Bytes → List Warning
comment_warnings run =
    option_map_or (λ first. found (first + 1) (Some (Comments (count_by is_comment (lines_of run))))) (position is_comment (lines_of run)) []

-- ---- text that may be meant for a directive

-- the warning of a text whose word may be meant for that of a directive or call
abbrev pub text_kind : Bytes → Option WarningKind
text_kind text = if is_starred text && is_some (near_word (word text)) then Some NearWord else None

-- ---- cards that are off already

-- the last entry of a card of a deck that counts: of an ident that isn't taken there
abbrev pub last_entry : List Target → Serial → CardView → Option Entry
last_entry live deck card = find (λ e. not (is_taken live deck e.ident)) (reverse card.history)

-- the name of the ident that switched a card off, if its last entry that counts does
abbrev pub switched_off_by : LibraryView → Serial → CardView → Option Bytes
switched_off_by l deck card =
    option_and_then (λ e. if e.active then None else Some (name_of l.idents e.ident)) (last_entry (live_targets l) deck card)

-- the warning of a card that is off already
abbrev pub off_kind : CardRef → LibraryView → Option WarningKind
off_kind card l =
    option_and_then (λ p. option_and_then (λ c. option_map (OffAlready card) (switched_off_by l p.deck c)) (card_in p l)) (place_of card l)

-- ---- ranges

-- the number of the cards from one place to another of a deck
abbrev pub cards_between : Option Place → Option Place → LibraryView → ℕ
cards_between (Some p) (Some q) l = if p.deck == q.deck then min (length (cards_of p.deck l)) (q.index + 1) - p.index else 0
cards_between p q l = 0

-- the most cards of a range that isn't wide
abbrev pub narrow : ℕ
narrow = 20

-- the warning of a wide range
abbrev pub wide_kind : CardRef → CardRef → LibraryView → Option WarningKind
wide_kind first last l =
    let count = cards_between (place_of first l) (place_of last l) l in
    if nat_lt narrow count then Some (Wide count) else None

-- ---- conflicts

-- the warning of a conflict
abbrev pub conflict_kind : Option Met → Option WarningKind
conflict_kind met = option_map (λ w. Conflict w) met

-- whether a purged ident has a name
abbrev pub came_again : Bytes → LibraryView → Bool
came_again name l = list_any (λ i. not i.held && bytes_eq i.name name) l.idents

-- the conflict of a SINCE whose name a purged ident has as well
abbrev pub again_kind : Option Bytes → LibraryView → Option WarningKind
again_kind since l = option_and_then (λ name. if came_again name l then Some (Conflict (CameAgain name)) else None) since

-- ---- lines and runs

-- the warnings of a range that is deleted
abbrev pub deletion_warnings : SeenView → ℕ → CardRef → CardRef → List Warning
deletion_warnings s line first last =
    found line (off_kind first s.library)
    ++ ((if bytes_eq first.name last.name && (first.number == last.number) then [] else found line (off_kind last s.library))
    ++ (found line (wide_kind first last s.library) ++ found line (conflict_kind (range_conflict s first last true))))

-- those of a range that is restored
abbrev pub restored_warnings : SeenView → ℕ → CardRef → CardRef → List Warning
restored_warnings s line first last = found line (wide_kind first last s.library) ++ found line (conflict_kind (range_conflict s first last false))

-- the warnings of an item, with the text of its line
abbrev pub item_warnings : SeenView → ℕ → Bytes → ItemView → List Warning
item_warnings s line text Text = found line (text_kind text)
item_warnings s line text (Delete first last) = deletion_warnings s line first last
item_warnings s line text (Restore first last) = restored_warnings s line first last
item_warnings s line text (Insert card) = found line (conflict_kind (insert_conflict s card))
item_warnings s line text (Before card) = found line (conflict_kind (before_conflict s card))
item_warnings s line text (Yank names) = taking_warnings line words.Yank s.library names
item_warnings s line text (Purge names) = taking_warnings line words.Purge s.library names
item_warnings s line text _ = []

-- the warnings of a line
abbrev pub line_warnings : SeenView → LineView → List Warning
line_warnings s line = item_warnings s line.number line.text line.item

-- the warning of a run with no lines
abbrev pub empty_kind : List LineView → Option WarningKind
empty_kind [] = Some Empty
empty_kind (line ∷ lines) = None

-- the warnings of a run that was read: of its comments, of an empty run, of SINCE, and then of its lines in order
abbrev pub run_warnings : Bytes → List LineView → Option Bytes → SeenView → List Warning
run_warnings run lines since s =
    comment_warnings run ++ (found 1 (empty_kind lines) ++ (found 1 (again_kind since s.library) ++ flat_map (line_warnings s) lines))

-- those of a run by its reading: none where it can't be read
abbrev pub read_warnings : Bytes → Result (List LineView) Fault → Option Bytes → SeenView → List Warning
read_warnings run (Err fault) since s = []
read_warnings run (Ok lines) since s = run_warnings run lines since s

-- what the author of a run has seen: where no name is given, all
abbrev pub seen_by : Option Bytes → LibraryView → Result SeenView Fault
seen_by None l = Ok (record { library = l; since = MAX_INTRODUCED })
seen_by (Some name) l = at_line 0 (need IdentUnknown (ident_of name l)) >>= (λ z. Ok (record { library = l; since = z }))

-- the warnings of a run that is tried on a library, where its author may have seen no ident later than one
abbrev pub warning_list : Option Bytes → Bytes → LibraryView → Result (List Warning) Fault
warning_list since run l = seen_by since l >>= (λ s. Ok (read_warnings run (reading run) since s))

-- the conflicts of such a run
abbrev pub conflicts : Bytes → Bytes → LibraryView → Result (List Warning) Fault
conflicts since run l = warning_list (Some since) run l >>= (λ list. Ok (conflicts_among list))
