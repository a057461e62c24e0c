-- The decks that `*COMPILE` names.
use Rattle.std.specs.Prelude.{ℕ, ◌&&◌, List, [], ◌∷◌, map, Result, Ok}
use Rattle.std.specs.List.{filter, list_any}
use Rattle.upd_text.specs.declared.fault.Fault.{Fault}
use Rattle.upd_text.specs.declared.fault.FaultKind.{FaultKind}
use Rattle.upd_text.specs.Outcome.{◌>>=◌, at_line, each}
use Rattle.upd_core.specs.Library.{LibraryView, is_deck_kind}
use Rattle.upd_deck.specs.declared.item.NameRange.{NameRange}
use Rattle.upd_deck.specs.Items.{ItemView, LineView, Compile}
use Rattle.upd_apply.specs.Names.{Ages, ages_by, is_in, known_deck}

-- the serials of a range of decks
abbrev pub range_ages : LibraryView → NameRange → Result (List Ages) FaultKind
range_ages l range = do
  ages ← ages_by known_deck range l
  Ok (ages ∷ [])

-- the ranges of decks that a line names
abbrev pub line_ranges : LibraryView → ItemView → Result (List Ages) FaultKind
line_ranges l (Compile ranges) = each (range_ages l) ranges
line_ranges l _ = Ok []

-- the ranges of decks that lines name, in order
abbrev pub ranges_named : List LineView → LibraryView → Result (List Ages) Fault
ranges_named lines l = each (λ line. at_line line.number (line_ranges l line.item)) lines

-- the held decks in any of these ranges, in order of serial
abbrev pub decks_in_any : List Ages → LibraryView → List ℕ
decks_in_any ranges l = map (λ i. i.age) (filter (λ i. i.held && is_deck_kind i.kind && list_any (λ r. is_in r i.age) ranges) l.idents)

-- the decks that lines name, in order of serial
abbrev pub named_decks : List LineView → LibraryView → Result (List ℕ) Fault
named_decks lines l = do
  ranges ← ranges_named lines l
  Ok (decks_in_any ranges l)
