-- The compile file from the active cards that are at hand is the one of the library.
use Rattle.upd_desk.proofs.Common.{◌≡◌, Bool, true, false, not, ◌&&◌, List, [], ◌∷◌, Ok, refl, sym, ap, ◌∙◌, filter, flat_map, MAX_DEPTH, ActivesView}
use Rattle.upd_desk.proofs.Common.{actives_of, is_among, LibraryView, LineView, Reached, compile_file_of, walk, Mode, AppliedRun, IsAppliedRun}
use Rattle.std.proofs.Common.{cond}
use Rattle.upd_core.specs.Actives.{ActiveDeckView}
use Rattle.upd_compile.specs.Chosen.{is_common_deck}
use Rattle.upd_compile.specs.File.{written}
use Rattle.upd_compile.specs.declared.mode.Mode.TheVariants.{Quick}

none_named : (common : ActiveDeckView → Bool) (ds : List ActiveDeckView) → filter (λ d. not (common d) && is_among [] d.ident) ds ≡ []
none_named common [] = refl
none_named common (d ∷ ds) = go (common d) (none_named common ds)
  where
    rest : List ActiveDeckView
    rest = filter (λ d. not (common d) && is_among [] d.ident) ds

    go : (b : Bool) → rest ≡ [] → cond (not b && false) (d ∷ rest) rest ≡ []
    go true none = none
    go false none = none

module _ (lines : List LineView) (l loaded : LibraryView) (reached : Reached) (run : AppliedRun) (of_run : IsAppliedRun lines l loaded reached run) where
  -- a quick file of no decks is empty
  pub empty_file : (mode : Mode) → mode ≡ Quick → run.applied.compile.items ≡ []
      → compile_file_of mode reached.compile l reached.library ≡ Ok (record { bytes = []; lines = 0 })
  empty_file mode quick none =
      ap (λ mode. compile_file_of mode reached.compile l reached.library) quick
      ∙ ap (λ named. compile_file_of Quick named l reached.library) (sym of_run.compile ∙ none)
      ∙ ap (λ decks. written after.idents (flat_map (walk MAX_DEPTH after) decks)) (none_named (is_common_deck after) after.decks)
    where
      after : ActivesView
      after = actives_of reached.library
