-- The idents and decks that the fields of a purge name.
use Rattle.std.specs.Prelude.{ℕ, ◌==◌, List, [], ◌∷◌, map, Result, Ok}
use Rattle.std.specs.List.{filter}
use Rattle.upd_text.specs.declared.fault.FaultKind.{FaultKind}
use Rattle.upd_text.specs.declared.fault.FaultKind.TheVariants as fault
use Rattle.upd_text.specs.Outcome.{◌>>=◌, each, refuse_if}
use Rattle.upd_core.specs.Library.{LibraryView}
use Rattle.upd_deck.specs.declared.item.NameRange.{NameRange}
use Rattle.upd_deck.specs.declared.item.IdentIn.{IdentIn}
use Rattle.upd_apply.specs.Names.{ages_by, decks_in, idents_in, known_deck, known_ident}

-- the held idents of a range
abbrev pub range_idents : LibraryView → NameRange → Result (List ℕ) FaultKind
range_idents l range = do
  ages ← ages_by known_ident range l
  Ok (idents_in ages l)

-- the idents that `*PURGE` names
abbrev pub idents_purged : List NameRange → LibraryView → Result (List ℕ) FaultKind
idents_purged ranges l = each (range_idents l) ranges

-- the held decks of a range
abbrev pub range_decks : LibraryView → NameRange → Result (List ℕ) FaultKind
range_decks l range = do
  ages ← ages_by known_deck range l
  Ok (decks_in ages l)

-- the decks that `*PURDECK` names
abbrev pub decks_purged : List NameRange → LibraryView → Result (List ℕ) FaultKind
decks_purged ranges l = each (range_decks l) ranges

-- The serials of an ident and a deck.
pub record AgesIn : Type 0 where
  pub deck : ℕ
  pub ident : ℕ

-- the ident and deck of a pair; the deck's own ident is refused
abbrev pub pair_ages : LibraryView → IdentIn → Result (List AgesIn) FaultKind
pair_ages l pair = do
  d ← known_deck pair.deck l
  z ← known_ident pair.ident l
  _ ← refuse_if (z == d) fault.DeckCard
  Ok (record { deck = d; ident = z } ∷ [])

-- the idents and decks that `*SELPURGE` names
abbrev pub pairs_purged : List IdentIn → LibraryView → Result (List AgesIn) FaultKind
pairs_purged pairs l = each (pair_ages l) pairs

-- the idents that pairs have with deck d
abbrev pub idents_with : ℕ → List AgesIn → List ℕ
idents_with d pairs = map (λ a. a.ident) (filter (λ a. a.deck == d) pairs)
