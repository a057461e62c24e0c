-- The effect of a line: it is judged to be an edit, or refused, and the edit is carried out. Refusals are checked in this order, with Full last.
use Rattle.std.specs.Prelude.{ℕ, ◌==◌, nat_lt, nat_le, Bool, true, false, not, ◌&&◌, ◌||◌, List, Option, is_some, Result, Ok, Err}
use Rattle.upd_text.specs.declared.card_ref.CardRef.{CardRef}
use Rattle.upd_text.specs.declared.fault.FaultKind.{FaultKind}
use Rattle.upd_text.specs.declared.fault.FaultKind.TheVariants as fault
use Rattle.upd_core.specs.declared.ident.Kind.{Kind}
use Rattle.upd_core.specs.declared.ident.Kind.TheVariants as kind
use Rattle.upd_core.specs.declared.library.Place.{Place}
use Rattle.upd_core.specs.declared.target.Target.{Target}
use Rattle.upd_core.specs.Edits.{is_among}
use Rattle.upd_core.specs.Library.{LibraryView, place_of, held_named}
use Rattle.upd_core.specs.Limits.{is_within_limits}
use Rattle.upd_text.specs.Outcome.{◌>>=◌, need, refuse_if}
use Rattle.upd_deck.specs.Items.{ItemView, LineView, Text, Call, Ident, Deck, CommonDeck, Insert, Before, Delete, Restore, Yank, SelYank, YankDeck}
use Rattle.upd_deck.specs.Items.{Purge, PurgeFrom, SelPurge, PurDeck, Compile}
use Rattle.upd_apply.specs.declared.state.CurrentSet.{CurrentSet}
use Rattle.upd_apply.specs.declared.state.InsertPoint.{InsertPoint}
use Rattle.upd_apply.specs.declared.state.InsertPoint.TheVariants.{Nowhere, End, Inside}
use Rattle.upd_apply.specs.declared.state.State.{State}
use Rattle.upd_apply.specs.LineEdits.{Edit, Stays, MovesAfter, MovesBefore, NewSet, NewDeck, AddsAtEnd, AddsInside, Switches, AddsYank, Purges, PurgesIn}
use Rattle.upd_apply.specs.LineEdits.{adds, carried}
use Rattle.upd_apply.specs.Names.{is_reserved, known_ident}
use Rattle.upd_apply.specs.Yanks.{sets_yanked, pairs_yanked, decks_yanked}
use Rattle.upd_apply.specs.Purges.{idents_purged, decks_purged, pairs_purged}

-- Reserved or NameTaken where a new ident may not have the name; else Ok, whose `false` is never read
abbrev pub new_name : List ℕ → LibraryView → Result Bool FaultKind
new_name name l = do
  _ ← refuse_if (is_reserved name) fault.Reserved
  refuse_if (is_some (held_named name l.idents)) fault.NameTaken

-- `*DECK` and `*COMDECK`: a new deck with the line as its first card; the current set stays
abbrev pub deck_judged : List ℕ → Kind → Bool → List ℕ → State → Result Edit FaultKind
deck_judged name sort noprop text s = do
  _ ← new_name name s.library
  Ok (NewDeck name sort noprop text)

-- whether a place is that of a deck's first card
abbrev pub is_deck_card : Place → Bool
is_deck_card p = not (p.deck == 0) && (p.index == 0)

-- `*DELETE` and `*RESTORE`: an entry of the current set on each card of the range
abbrev pub switch_judged : Bool → CardRef → CardRef → State → Result Edit FaultKind
switch_judged active first last s = do
  c ← need fault.NoIdent s.current_set
  p ← need fault.CardUnknown (place_of first s.library)
  q ← need fault.CardUnknown (place_of last s.library)
  _ ← refuse_if (not (p.deck == q.deck) || nat_lt q.index p.index) fault.RangeOrder
  _ ← refuse_if (is_deck_card p) fault.DeckCard
  Ok (Switches active c p q)

-- text and calls: a new card at the insertion point
abbrev pub text_judged : List ℕ → InsertPoint → Option CurrentSet → Result Edit FaultKind
text_judged text Nowhere current_set = Err fault.TextNowhere
text_judged text (End d next) current_set = Ok (AddsAtEnd d next text)
text_judged text (Inside d after) current_set = do
  c ← need fault.TextNowhere current_set
  _ ← refuse_if (d == 0) fault.YankText
  Ok (AddsInside d after c text)

-- a yank: its targets are those that its fields name now
abbrev pub yank_judged : List ℕ → (ℕ → LibraryView → Result (List Target) FaultKind) → State → Result Edit FaultKind
yank_judged text targets s = do
  c ← need fault.NoIdent s.current_set
  found ← targets c.ident s.library
  Ok (AddsYank c text found)

-- what an item is judged to be, with the text of its line
abbrev pub judged : ItemView → List ℕ → State → Result Edit FaultKind
judged Text text s = text_judged text s.insert_point s.current_set
judged (Call name) text s = text_judged text s.insert_point s.current_set
judged (Ident name) text s = do
  _ ← new_name name s.library
  Ok (NewSet name)
judged (Deck name) text s = deck_judged name kind.Deck false text s
judged (CommonDeck name noprop) text s = deck_judged name kind.Common noprop text s
judged (Insert card) text s = do
  _ ← need fault.NoIdent s.current_set
  p ← need fault.CardUnknown (place_of card s.library)
  _ ← refuse_if (p.deck == 0) fault.YankText
  Ok (MovesAfter p)
judged (Before card) text s = do
  _ ← need fault.NoIdent s.current_set
  p ← need fault.CardUnknown (place_of card s.library)
  _ ← refuse_if (p.deck == 0) fault.YankText
  _ ← refuse_if (is_deck_card p) fault.DeckCard
  Ok (MovesBefore p)
judged (Delete first last) text s = switch_judged false first last s
judged (Restore first last) text s = switch_judged true first last s
judged (Yank ranges) text s = yank_judged text (sets_yanked ranges) s
judged (SelYank pairs) text s = yank_judged text (pairs_yanked pairs) s
judged (YankDeck names) text s = yank_judged text (decks_yanked names) s
judged (Purge ranges) text s = idents_purged ranges s.library >>= (λ ages. Ok (Purges (is_among ages)))
judged (PurgeFrom name) text s = known_ident name s.library >>= (λ age. Ok (Purges (nat_le age)))
judged (SelPurge pairs) text s = pairs_purged pairs s.library >>= (λ ages. Ok (PurgesIn ages))
judged (PurDeck ranges) text s = decks_purged ranges s.library >>= (λ ages. Ok (Purges (is_among ages)))
judged (Compile ranges) text s = Ok Stays

-- the state after what a line was judged to be; Full where that adds to the library beyond a limit
abbrev pub carried_out : Result Edit FaultKind → State → Result State FaultKind
carried_out r s = do
  e ← r
  _ ← refuse_if (adds e && not (is_within_limits (carried e s).library)) fault.Full
  Ok (carried e s)

-- the effect of a line
abbrev pub step : LineView → State → Result State FaultKind
step line s = carried_out (judged line.item line.text s) s
