-- What a run leaves of the cards that a deck had.
use Rattle.std.specs.Prelude.{◌≡◌, nat_le, Bool, List, [], map, length}
use Rattle.std.specs.List.{filter}
use Rattle.upd_core.specs.Library.{CardView, LibraryView, cards_of}
use Rattle.upd_core.specs.Serials.{Serial}

-- a card without its history: its ident, number, text and targets
abbrev pub without_history : CardView → CardView
without_history c = record c { history = [] }

-- the cards of a deck without their histories
abbrev pub plain_cards : Serial → LibraryView → List CardView
plain_cards d l = map without_history (cards_of d l)

-- The cards of a deck that are of idents of the earlier library are those that the deck had there, in their order, with their texts and targets,
-- but for all cards of some idents.
abbrev pub KeepsCards : LibraryView → LibraryView → Serial → Type 0
KeepsCards before after d =
    (stays : Serial → Bool) × (filter (λ c. nat_le c.ident (length before.idents)) (plain_cards d after)
    ≡ filter (λ c. stays c.ident) (plain_cards d before))
