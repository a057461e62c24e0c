-- What the edits do to one deck: the contracts of their helpers.
use Rattle.std.specs.Prelude.{ℕ, ◌+◌, ◌-◌, List, length, take, drop, insert}
use Rattle.upd_core.specs.declared.card.Entry.{Entry}
use Rattle.upd_core.specs.Edits.{entered_range}
use Rattle.upd_core.specs.First.{at_first}
use Rattle.upd_core.specs.Library.{CardView, DeckView, is_deck}
use Rattle.upd_core.specs.Serials.{Serial}

-- decks with a card inserted into the deck with a serial
abbrev pub inserted_in : Serial → ℕ → CardView → List DeckView → List DeckView
inserted_in age behind c decks = at_first (is_deck age) (λ d. record d { cards = insert d.cards (length d.cards - behind) c }) decks

-- the number of cards from one index to another
abbrev pub entered_count : ℕ → ℕ → List CardView → ℕ
entered_count from to cards = length (drop from (take (to + 1) cards))

-- a card without its last entry
abbrev pub without_last : CardView → CardView
without_last c = record c { history = take (length c.history - 1) c.history }

-- decks with an entry appended in the deck with a serial
abbrev pub entered_in : Serial → ℕ → ℕ → Entry → List DeckView → List DeckView
entered_in age from to e decks = at_first (is_deck age) (λ d. record d { cards = entered_range from to e d.cards }) decks
