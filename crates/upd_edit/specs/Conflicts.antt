-- Where a line of a run meets what idents younger than SINCE have done.
use Rattle.std.specs.Prelude.{ℕ, ◌+◌, ◌==◌, nat_lt, not, Bool, false, ◌&&◌, ◌||◌, if◌then◌else◌, List, [], find, length, min, reverse, drop, take, Option, Some}
use Rattle.std.specs.Prelude.{None}
use Rattle.std.specs.Option.{option_and_then, option_map, option_map_or}
use Rattle.std.specs.Str.{bytes_eq}
use Rattle.upd_text.specs.declared.card_ref.CardRef.{CardRef}
use Rattle.upd_text.specs.Units.{Bytes}
use Rattle.upd_core.specs.declared.library.Place.{Place}
use Rattle.upd_core.specs.declared.target.Target.{Target}
use Rattle.upd_core.specs.Edits.{new_card, with_yank}
use Rattle.upd_core.specs.Library.{CardView, LibraryView, cards_of, name_of, place_of, ref_of}
use Rattle.upd_core.specs.Serials.{Serial}
use Rattle.upd_core.specs.Status.{is_active, is_taken, live_targets}
use Rattle.upd_edit.specs.Earlier.{younger}
use Rattle.upd_edit.specs.declared.meeting.Touched.{Touched}
use Rattle.upd_edit.specs.declared.warning.Conflict.{Conflict}
use Rattle.upd_edit.specs.declared.warning.Conflict.TheVariants.{Beside, CameBack, CameLater, Deleted, Switched, TakenOut}

-- ---- which cards have changed

-- A library, and the serial of the youngest ident that the author of a run has seen.
pub record SeenView : Type 0 where
  pub library : LibraryView
  pub since : Serial

-- the targets that are live where one more yank card takes all younger idents
abbrev pub live_since : Serial → LibraryView → List Target
live_since z l = live_targets (with_yank (new_card 0 1 [] (younger z l)) l)

-- whether a card is in the text of its deck now
abbrev pub is_now : SeenView → Serial → CardView → Bool
is_now s d c = is_active (live_targets s.library) d c

-- whether it was as of SINCE
abbrev pub was_then : SeenView → Serial → CardView → Bool
was_then s d c = is_active (live_since s.since s.library) d c

-- A card has changed where it is in one of these texts alone.
abbrev pub is_changed : SeenView → Serial → CardView → Bool
is_changed s d c = if is_now s d c then not (was_then s d c) else was_then s d c

-- whether a card that has changed is of a younger ident
abbrev pub is_put : SeenView → Serial → CardView → Bool
is_put s d c = nat_lt s.since c.ident && is_changed s d c

-- whether a card is in one of these texts
abbrev pub is_line : SeenView → Serial → CardView → Bool
is_line s d c = is_now s d c || was_then s d c

-- ---- how a change is reported

-- the name of the youngest ident that was seen
abbrev pub since_name : SeenView → Bytes
since_name s = name_of s.library.idents s.since

-- the younger ident of the first entry of a card that counts
abbrev pub switched_by : SeenView → Serial → CardView → Option Serial
switched_by s d c = option_map (λ e. e.ident) (find (λ e. nat_lt s.since e.ident && not (is_taken (live_targets s.library) d e.ident)) c.history)

-- the change of a card without such an entry
abbrev pub yanks_conflict : SeenView → Serial → CardView → Conflict
yanks_conflict s d c =
    if is_now s d c then CameBack (ref_of s.library.idents c) (since_name s) else TakenOut (ref_of s.library.idents c) (since_name s)

-- the change of a card that was there before
abbrev pub older_conflict : SeenView → Serial → CardView → Conflict
older_conflict s d c =
    option_map_or (λ y. Switched (ref_of s.library.idents c) (name_of s.library.idents y) (since_name s)) (switched_by s d c) (yanks_conflict s d c)

-- a card was put in where a line changes the deck
abbrev pub put_inside : SeenView → Bool → CardView → Conflict
put_inside s deletes c =
    if deletes then Deleted (ref_of s.library.idents c) (since_name s) else CameLater (ref_of s.library.idents c) (since_name s)

-- a card was put in beside the one that a line names, or is that one
abbrev pub put_beside : SeenView → CardRef → CardRef → Conflict
put_beside s named card =
    if bytes_eq named.name card.name && (named.number == card.number) then CameLater card (since_name s) else Beside named card (since_name s)

-- the change of a card beside the one that a line names
abbrev pub beside_conflict : SeenView → Serial → CardRef → CardView → Conflict
beside_conflict s d named c = if nat_lt s.since c.ident then put_beside s named (ref_of s.library.idents c) else older_conflict s d c

-- ---- where a line meets it

-- in the range that it changes: at the first card that was put in, else at the first that has changed
abbrev pub met_inside : SeenView → Serial → List CardView → Touched → Option Conflict
met_inside s d cards line =
    option_map_or (λ c. Some (put_inside s line.deletes c)) (find (is_put s d) (drop line.from (take line.to cards)))
    (option_map (older_conflict s d) (find (is_changed s d) (drop line.from (take line.to cards))))

-- at a card beside it
abbrev pub met_beside : SeenView → Serial → CardRef → Option CardView → Option Conflict
met_beside s d named beside = option_and_then (λ c. if is_changed s d c then Some (beside_conflict s d named c) else None) beside

-- the last line before an index, of the one text or the other
abbrev pub line_before : SeenView → Serial → List CardView → ℕ → Option CardView
line_before s d cards from = find (is_line s d) (reverse (take from cards))

-- the first line from an index on
abbrev pub line_behind : SeenView → Serial → List CardView → ℕ → Option CardView
line_behind s d cards to = find (is_line s d) (drop to cards)

-- A line of a run meets what younger idents have done in its range, else right before it, else right after it: where a card has changed.
abbrev pub met : SeenView → Serial → Touched → Option Conflict
met s d line =
    option_map_or (λ w. Some w) (met_inside s d (cards_of d s.library) line)
    (option_map_or (λ w. Some w) (met_beside s d line.first (line_before s d (cards_of d s.library) line.from))
    (met_beside s d line.last (line_behind s d (cards_of d s.library) line.to)))

-- a line that puts text beside a card, right before an index
abbrev pub between : CardRef → ℕ → Touched
between card index = record { first = card; last = card; from = index; to = index; deletes = false }

-- the index after a place, within its deck
abbrev pub end_of : LibraryView → Place → ℕ
end_of l p = min (length (cards_of p.deck l)) (p.index + 1)

-- the conflict of a range from one place to another of a deck
abbrev pub places_conflict : SeenView → CardRef → CardRef → Bool → Place → Place → Option Conflict
places_conflict s first last deletes p q =
    if p.deck == q.deck
    then met s p.deck (record { first = first; last = last; from = p.index; to = end_of s.library q; deletes = deletes })
    else None

-- that of a `*DELETE` or `*RESTORE`
abbrev pub range_conflict : SeenView → CardRef → CardRef → Bool → Option Conflict
range_conflict s first last deletes =
    option_and_then (λ p. option_and_then (λ q. places_conflict s first last deletes p q) (place_of last s.library)) (place_of first s.library)

-- that of an `*INSERT`, and of a `*BEFORE`
abbrev pub insert_conflict : SeenView → CardRef → Option Conflict
insert_conflict s card = option_and_then (λ p. met s p.deck (between card (end_of s.library p))) (place_of card s.library)

abbrev pub before_conflict : SeenView → CardRef → Option Conflict
before_conflict s card = option_and_then (λ p. met s p.deck (between card p.index)) (place_of card s.library)
