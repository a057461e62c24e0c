-- What was purged after SINCE: a purge leaves no trace in the library, but its run may be stored.
use Rattle.std.specs.Prelude.{nat_le, Bool, ◌&&◌, if◌then◌else◌, List, [], ◌∷◌, find, Option, None, Result, Ok, Err}
use Rattle.std.specs.List.{list_any}
use Rattle.std.specs.Option.{option_and_then, option_map, option_or}
use Rattle.std.specs.Str.{bytes_eq}
use Rattle.upd_text.specs.declared.fault.Fault.{Fault}
use Rattle.upd_text.specs.Units.{Bytes}
use Rattle.upd_core.specs.declared.ident.Ident.{Ident}
use Rattle.upd_core.specs.Library.{LibraryView, ident_of}
use Rattle.upd_core.specs.Serials.{Serial}
use Rattle.upd_deck.specs.declared.item.IdentIn.{IdentIn}
use Rattle.upd_deck.specs.declared.item.NameRange.{NameRange}
use Rattle.upd_deck.specs.Items.{ItemView, LineView, Purge, PurDeck, SelPurge}
use Rattle.upd_deck.specs.Reading.{reading}
use Rattle.upd_records.specs.Rows.{RunView}
use Rattle.upd_edit.specs.declared.warning.WarningKind.{WarningKind}
use Rattle.upd_edit.specs.declared.warning.WarningKind.TheVariants.{Purged}
use Rattle.upd_edit.specs.Warnings.{came_again}
use Rattle.upd_views.specs.IntroducingRun.{introduces}

-- whether an ident of a name came no later than the one with a serial
abbrev pub is_seen : Serial → List Ident → Bytes → Bool
is_seen last idents name = list_any (λ i. bytes_eq i.name name && nat_le i.age last) idents

-- the first such name that begins a range, whose oldest it is
abbrev pub first_of_ranges : Serial → List Ident → List NameRange → Option Bytes
first_of_ranges last idents ranges = option_map (λ r. r.first) (find (λ r. is_seen last idents r.first) ranges)

-- the first such ident of a deck
abbrev pub first_of_pairs : Serial → List Ident → List IdentIn → Option Bytes
first_of_pairs last idents pairs = option_map (λ p. p.ident) (find (λ p. is_seen last idents p.ident) pairs)

-- The first such name that an item purges. Purging back takes only idents that are younger than each that stays.
abbrev pub item_purges : Serial → List Ident → ItemView → Option Bytes
item_purges last idents (Purge ranges) = first_of_ranges last idents ranges
item_purges last idents (PurDeck ranges) = first_of_ranges last idents ranges
item_purges last idents (SelPurge pairs) = first_of_pairs last idents pairs
item_purges last idents _ = None

-- the first that lines purge
abbrev pub lines_purge : Serial → List Ident → List LineView → Option Bytes
lines_purge last idents [] = None
lines_purge last idents (line ∷ lines) = option_or (item_purges last idents line.item) (lines_purge last idents lines)

-- that a run purges, by its reading
abbrev pub reading_purges : Serial → List Ident → Result (List LineView) Fault → Option Bytes
reading_purges last idents (Ok lines) = lines_purge last idents lines
reading_purges last idents (Err fault) = None

-- that stored runs purge; a refused run purges nothing
abbrev pub runs_purge : Serial → List Ident → List RunView → Option Bytes
runs_purge last idents [] = None
runs_purge last idents (r ∷ runs) =
    option_or (if r.accepted then reading_purges last idents (reading r.bytes) else None) (runs_purge last idents runs)

-- that the runs after the one that introduced an ident of a name purge; none where that run isn't stored
abbrev pub purged_after : Bytes → Serial → List Ident → List RunView → Option Bytes
purged_after name last idents [] = None
purged_after name last idents (r ∷ runs) =
    if introduces name r then runs_purge last idents runs else purged_after name last idents runs

-- the warning of a name that was purged after SINCE; of a SINCE that came again there is a conflict
abbrev pub purged_kind : Bytes → List RunView → LibraryView → Option WarningKind
purged_kind since runs l =
    if came_again since l
    then None
    else option_map (λ name. Purged name since) (option_and_then (λ last. purged_after since last l.idents runs) (ident_of since l))
