-- Decks that stay where a set goes: whether both came by one run, as the stored runs say.
use Rattle.std.specs.Prelude.{Bool, true, false, List, ◌++◌, Option, Some, None, Result, Ok, option_map}
use Rattle.std.specs.List.{flat_map}
use Rattle.std.specs.Option.{option_and_then, option_or}
use Rattle.upd_text.specs.declared.fault.Fault.{Fault}
use Rattle.upd_text.specs.Outcome.{◌>>=◌}
use Rattle.upd_text.specs.Units.{Bytes}
use Rattle.upd_core.specs.declared.ident.Ident.{Ident}
use Rattle.upd_core.specs.Library.{LibraryView}
use Rattle.upd_records.specs.Rows.{RunView}
use Rattle.upd_edit.specs.declared.warning.TakingWord.{TakingWord}
use Rattle.upd_edit.specs.declared.warning.Warning.{Warning}
use Rattle.upd_edit.specs.declared.warning.WarningKind.{WarningKind}
use Rattle.upd_edit.specs.declared.warning.WarningKind.TheVariants.{DeckStays}
use Rattle.upd_edit.specs.Found.{found}
use Rattle.upd_edit.specs.PurgesSince.{purged_kind}
use Rattle.upd_edit.specs.Warnings.{warning_list}
use Rattle.upd_views.specs.IntroducingRun.{introducer, introduces}

-- whether the stored run that introduced an ident introduced another one, too; nothing where that run isn't stored
abbrev pub came_with : Bytes → Bytes → List RunView → List Ident → Option Bool
came_with name other runs idents = option_map (introduces other) (introducer name runs idents)

-- whether a set and a deck came by one run: the run of the deck says it, else that of the set
abbrev pub came_together : Bytes → Bytes → List RunView → List Ident → Option Bool
came_together set deck runs idents = option_or (came_with deck set runs idents) (came_with set deck runs idents)

-- What is warned of a deck that stays, by whether it came with the set: that it did; nothing, if it didn't; else what is said where that isn't known.
abbrev pub kind_of_deck : Option Bool → TakingWord → Bytes → Bytes → Bool → Option WarningKind
kind_of_deck (Some true) word set deck known = Some (DeckStays word set deck true)
kind_of_deck (Some false) word set deck known = None
kind_of_deck None word set deck known = Some (DeckStays word set deck known)

-- a warning as the stored runs have it
abbrev pub kind_by_runs : List RunView → List Ident → WarningKind → Option WarningKind
kind_by_runs runs idents (DeckStays word set deck known) = kind_of_deck (came_together set deck runs idents) word set deck known
kind_by_runs runs idents kind = Some kind

-- warnings as the stored runs have them
abbrev pub warnings_by_runs : List RunView → List Ident → List Warning → List Warning
warnings_by_runs runs idents list = flat_map (λ w. found w.line (kind_by_runs runs idents w.kind)) list

-- all warnings of a run that is tried, as the stored runs have them: first that of a purge after SINCE
abbrev pub all_by_runs : Option Bytes → List RunView → LibraryView → List Warning → List Warning
all_by_runs since runs l list = found 1 (option_and_then (λ name. purged_kind name runs l) since) ++ warnings_by_runs runs l.idents list

-- whether the stored runs can make a difference to a warning
abbrev pub asks_runs : WarningKind → Bool
asks_runs (DeckStays word set deck known) = true
asks_runs _ = false

-- the warnings of a run that is tried, as the stored runs have them
abbrev pub tried_warnings : Option Bytes → Bytes → List RunView → LibraryView → Result (List Warning) Fault
tried_warnings since run runs l = warning_list since run l >>= (λ list. Ok (all_by_runs since runs l list))
