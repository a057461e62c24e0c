-- What the item of a line names, and whether it yanks or purges.
use Rattle.std.specs.Prelude.{ℕ, Bool, true, false, List, [], ◌∷◌, Option, Some, None}
use Rattle.upd_text.specs.declared.card_ref.CardRef.{CardRef}
use Rattle.upd_deck.specs.Items.{ItemView, Ident, Deck, CommonDeck, Insert, Before, Delete, Restore, Yank, SelYank, YankDeck, Purge, PurgeFrom, SelPurge}
use Rattle.upd_deck.specs.Items.{PurDeck}

-- whether a line yanks
abbrev pub is_yank : ItemView → Bool
is_yank (Yank ranges) = true
is_yank (SelYank pairs) = true
is_yank (YankDeck names) = true
is_yank _ = false

-- whether a line purges
abbrev pub is_purge : ItemView → Bool
is_purge (Purge ranges) = true
is_purge (PurgeFrom name) = true
is_purge (SelPurge pairs) = true
is_purge (PurDeck ranges) = true
is_purge _ = false

-- the name that a line introduces
abbrev pub new_name_of : ItemView → Option (List ℕ)
new_name_of (Ident name) = Some name
new_name_of (Deck name) = Some name
new_name_of (CommonDeck name noprop) = Some name
new_name_of _ = None

-- the cards that a line names
abbrev pub cards_of_item : ItemView → List CardRef
cards_of_item (Insert card) = card ∷ []
cards_of_item (Before card) = card ∷ []
cards_of_item (Delete first last) = first ∷ last ∷ []
cards_of_item (Restore first last) = first ∷ last ∷ []
cards_of_item _ = []
