-- What an accepted line does to the state of a run.
use Rattle.std.specs.Prelude.{ℕ, ◌+◌, ◌-◌, Bool, true, false, List, [], ◌∷◌, length, Some, None}
use Rattle.upd_core.specs.declared.ident.Kind.{Kind}
use Rattle.upd_core.specs.declared.ident.Kind.TheVariants as kind
use Rattle.upd_core.specs.declared.library.Place.{Place}
use Rattle.upd_core.specs.declared.target.Target.{Target}
use Rattle.upd_core.specs.Edits.{introduced, next_age, new_card, with_deck, with_card, with_yank, with_entries, purged, purged_in}
use Rattle.upd_core.specs.Library.{LibraryView, cards_of}
use Rattle.upd_apply.specs.declared.state.CurrentSet.{CurrentSet}
use Rattle.upd_apply.specs.declared.state.InsertPoint.TheVariants.{Nowhere, End, Inside}
use Rattle.upd_apply.specs.declared.state.State.{State}
use Rattle.upd_apply.specs.Purges.{AgesIn}

-- What an accepted line does.
pub data Edit : Type 0 where
  -- `*COMPILE`: nothing
  Stays : Edit
  -- `*INSERT` and `*BEFORE`: the next text follows the card at a place, or precedes it
  MovesAfter : Place → Edit
  MovesBefore : Place → Edit
  -- `*IDENT`: a new set, which is the current one
  NewSet : List ℕ → Edit
  -- `*DECK` and `*COMDECK`: a new deck with the line as its first card; the current set stays
  NewDeck : List ℕ → Kind → Bool → List ℕ → Edit
  -- text at the end of a deck that the run introduced: the deck, the number of the card and the text
  AddsAtEnd : ℕ → ℕ → List ℕ → Edit
  -- text inside a deck: the deck, the number of cards after it, the current set and the text; the next text follows it
  AddsInside : ℕ → ℕ → CurrentSet → List ℕ → Edit
  -- `*DELETE` and `*RESTORE`: an entry of the current set on each card of a range; the next text follows the last card
  Switches : Bool → CurrentSet → Place → Place → Edit
  -- a yank: a card of the current set at the end of `YANK$$$`
  AddsYank : CurrentSet → List ℕ → List Target → Edit
  -- a purge of the idents whose serials pass a test
  Purges : (ℕ → Bool) → Edit
  -- `*SELPURGE`: purges of idents, each in one deck, in order
  PurgesIn : List AgesIn → Edit

-- the number of cards after a place in its deck
abbrev pub behind : Place → LibraryView → ℕ
behind p l = length (cards_of p.deck l) - (p.index + 1)

-- the current set once it has numbered a card
abbrev pub after_card : CurrentSet → CurrentSet
after_card c = record { ident = c.ident; next = c.next + 1 }

-- after a purge there is no current set and no insertion point
abbrev pub ended : LibraryView → State
ended l = record { library = l; current_set = None; insert_point = Nowhere }

-- purges of idents, each in one deck, in order
abbrev pub purged_in_all : List AgesIn → LibraryView → LibraryView
purged_in_all [] l = l
purged_in_all (a ∷ more) l = purged_in_all more (purged_in a.deck a.ident l)

-- the state after an edit
abbrev pub carried : Edit → State → State
carried Stays s = s
carried (MovesAfter p) s = record s { insert_point = Inside p.deck (behind p s.library) }
carried (MovesBefore p) s = record s { insert_point = Inside p.deck (behind p s.library + 1) }
carried (NewSet name) s =
    record { library = introduced name kind.Set false s.library; current_set = Some (record { ident = next_age s.library; next = 1 }); insert_point = Nowhere }
carried (NewDeck name sort noprop text) s = record s {
  library = with_deck (record { ident = next_age s.library; cards = new_card (next_age s.library) 1 text [] ∷ [] }) (introduced name sort noprop s.library);
  insert_point = End (next_age s.library) 2;
}
carried (AddsAtEnd d next text) s = record s { library = with_card d 0 (new_card d next text []) s.library; insert_point = End d (next + 1) }
carried (AddsInside d after c text) s =
    record s { library = with_card d after (new_card c.ident c.next text []) s.library; current_set = Some (after_card c) }
carried (Switches active c p q) s = record s {
  library = with_entries p.deck p.index q.index (record { ident = c.ident; active = active }) s.library;
  insert_point = Inside q.deck (behind q s.library);
}
carried (AddsYank c text targets) s =
    record { library = with_yank (new_card c.ident c.next text targets) s.library; current_set = Some (after_card c); insert_point = Nowhere }
carried (Purges gone) s = ended (purged gone s.library)
carried (PurgesIn ages) s = ended (purged_in_all ages s.library)

-- whether an edit adds idents, cards or entries, so that the library must then be within its limits
abbrev pub adds : Edit → Bool
adds Stays = false
adds (MovesAfter p) = false
adds (MovesBefore p) = false
adds (Purges gone) = false
adds (PurgesIn ages) = false
adds _ = true
