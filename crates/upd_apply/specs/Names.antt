-- The idents that names and ranges of names denote in a library.
use Rattle.std.specs.Prelude.{ℕ, nat_lt, nat_le, Bool, ◌&&◌, List, map, Result, Ok}
use Rattle.std.specs.Str.{bytes_eq}
use Rattle.std.specs.List.{filter}
use Rattle.upd_text.specs.declared.fault.FaultKind.{FaultKind}
use Rattle.upd_text.specs.declared.fault.FaultKind.TheVariants as fault
use Rattle.upd_text.specs.Names.{yank_name}
use Rattle.upd_text.specs.Outcome.{◌>>=◌, need, refuse_if}
use Rattle.upd_core.specs.Library.{LibraryView, ident_of, deck_of, is_deck_kind}
use Rattle.upd_deck.specs.declared.item.NameRange.{NameRange}

-- whether a name is `YANK$$$`
abbrev pub is_reserved : List ℕ → Bool
is_reserved name = bytes_eq name yank_name

-- the serial of the held ident with a name
abbrev pub known_ident : List ℕ → LibraryView → Result ℕ FaultKind
known_ident name l = do
  _ ← refuse_if (is_reserved name) fault.Reserved
  need fault.IdentUnknown (ident_of name l)

-- the serial of the held deck with a name, common or not
abbrev pub known_deck : List ℕ → LibraryView → Result ℕ FaultKind
known_deck name l = do
  _ ← refuse_if (is_reserved name) fault.Reserved
  need fault.DeckUnknown (deck_of name l)

-- A range of serials, both ends included.
pub record Ages : Type 0 where
  pub from : ℕ
  pub to : ℕ

-- the serials of a range of names, which may not run backwards
abbrev pub ages_by : (List ℕ → LibraryView → Result ℕ FaultKind) → NameRange → LibraryView → Result Ages FaultKind
ages_by known range l = do
  a ← known range.first l
  b ← known range.last l
  _ ← refuse_if (nat_lt b a) fault.RangeOrder
  Ok (record { from = a; to = b })

-- whether a serial is in a range
abbrev pub is_in : Ages → ℕ → Bool
is_in ages z = nat_le ages.from z && nat_le z ages.to

-- the serials of the held idents in a range
abbrev pub idents_in : Ages → LibraryView → List ℕ
idents_in ages l = map (λ i. i.age) (filter (λ i. i.held && is_in ages i.age) l.idents)

-- the serials of the held decks in a range
abbrev pub decks_in : Ages → LibraryView → List ℕ
decks_in ages l = map (λ i. i.age) (filter (λ i. i.held && is_deck_kind i.kind && is_in ages i.age) l.idents)
