-- What the proofs of this crate share: the words of its definitions and of those below, and the lemmas that more than one proof cites.
pub use Rattle.std.specs.Prelude.{IfOk, Result}
pub use Rattle.upd_apply.specs.Applying.{stepped}
pub use Rattle.upd_apply.specs.Compile.{line_ranges, range_ages}
pub use Rattle.upd_apply.specs.LineEdits.{AddsAtEnd, AddsInside, AddsYank, Edit, NewDeck, NewSet, Purges, PurgesIn, Switches, carried, purged_in_all}
pub use Rattle.upd_apply.specs.Marks.{AreMarked}
pub use Rattle.upd_apply.specs.Names.{idents_in, is_in}
pub use Rattle.upd_apply.specs.Numbers.{next_most}
pub use Rattle.upd_apply.specs.Purges.{decks_purged, idents_purged, pair_ages, pairs_purged, range_decks, range_idents}
pub use Rattle.upd_apply.specs.Step.{step}
pub use Rattle.upd_apply.specs.Yanks.{deck_targets, decks_yanked, once, pair_targets, pairs_yanked, range_targets, sets_yanked}
pub use Rattle.upd_apply.specs.declared.state.State.{State}
pub use Rattle.upd_core.proofs.Common.{[], ℕ, ◌&&◌, ◌++◌, ◌+◌, ◌<◌, ◌==◌, ◌∙◌, ◌∷◌, ◌≡◌, ◌≤◌, Bool, LibraryView, List, ap, append_assoc, arith, common_steps}
pub use Rattle.upd_core.proofs.Common.{drop, drop_more, false, filter, get_or, if◌then◌else◌, is_same, length, list_any, map, not, refl, subst, sym, true}
pub use Rattle.upd_core.specs.Library.{is_deck_kind}
pub use Rattle.upd_core.specs.declared.ident.Ident.{Ident}
pub use Rattle.upd_core.specs.declared.target.Target.{Target}
pub use Rattle.upd_core.specs.declared.target.Target.TheVariants.{Set}
pub use Rattle.upd_deck.proofs.Common.{◌>>=◌, Err, ItemView, LineView, Ok, at_line, each, each_behind, each_behind-none}
pub use Rattle.upd_text.proofs.EachLemmas.{each_more, each_refused}
pub use Rattle.upd_text.specs.declared.fault.FaultKind.{FaultKind}
