-- What is listed of a library, and what is needed for it.
use Rattle.std.specs.Prelude.{◌≡◌, ℕ, List, Result, Ok}
use Rattle.upd_text.specs.declared.fault.Fault.{Fault}
use Rattle.upd_text.specs.declared.fault.FaultKind.TheVariants.{CardUnknown, DeckUnknown}
use Rattle.upd_text.specs.Faults.{fault_at}
use Rattle.upd_core.specs.Library.{LibraryView}
use Rattle.upd_compile.specs.Listings.{card_listing, deck_listing, ident_listing, yank_listing}
use Rattle.upd_desk.specs.declared.library_queries.Query.{Query}
use Rattle.upd_desk.specs.declared.library_queries.Query.TheVariants.{Deck, Card, Idents, Yanks}

-- the text of a listing, or its refusal
abbrev pub listing : Query → LibraryView → Result (List ℕ) Fault
listing (Deck name) l = deck_listing name l
listing (Card card) l = card_listing card l
listing Idents l = Ok (ident_listing l)
listing Yanks l = Ok (yank_listing l)

-- the refusals that a listing can meet: there is no such deck, or no such card
abbrev pub IsMiss : Query → Fault → Type 0
IsMiss (Deck name) fault = fault ≡ fault_at DeckUnknown 0
IsMiss (Card card) fault = fault ≡ fault_at CardUnknown 0
IsMiss Idents fault = ⊥
IsMiss Yanks fault = ⊥

-- the number of decks that a listing needs, at most
abbrev pub decks_asked : Query → ℕ
decks_asked (Deck name) = 1
decks_asked (Card card) = 1
decks_asked Idents = 0
decks_asked Yanks = 0
