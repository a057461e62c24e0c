-- What the proofs of this crate share: the words of its definitions and of those below, and the lemmas that more than one proof cites.
pub use Rattle.std.proofs.lemmas.Bool.{lt-leb}
pub use Rattle.std.proofs.lemmas.List.Sums.{sum_by-cons}
pub use Rattle.std.proofs.lemmas.Result.{IfOk-at_ok}
pub use Rattle.std.specs.Option.{IfSome}
pub use Rattle.std.specs.Prelude.{◌⊎◌, Err, IsTrue, None, Ok, Option, Some, count_by, insert, is_some, nat_le, nat_lt}
pub use Rattle.upd_apply.proofs.BindLemmas.{bind_ok, holds_of, line_is}
pub use Rattle.upd_apply.proofs.Common.{AddsAtEnd, AddsInside, AddsYank, Edit, NewDeck, NewSet, Purges, PurgesIn, Result, Switches, carried, is_deck_kind}
pub use Rattle.upd_apply.proofs.Common.{purged_in_all, step, stepped}
pub use Rattle.upd_apply.proofs.EditLemmas.{Fits, of_step, purges_keep, steps_keep}
pub use Rattle.upd_apply.specs.Applying.{Reached, applied, started}
pub use Rattle.upd_apply.specs.Compile.{named_decks}
pub use Rattle.upd_apply.specs.Directives.{new_name_of}
pub use Rattle.upd_apply.specs.LineEdits.{MovesAfter, MovesBefore, Stays, behind, ended}
pub use Rattle.upd_apply.specs.Names.{is_reserved, known_deck, known_ident}
pub use Rattle.upd_apply.specs.declared.CurrentSet.{CurrentSet}
pub use Rattle.upd_apply.specs.declared.state.InsertPoint.{InsertPoint}
pub use Rattle.upd_apply.specs.declared.state.InsertPoint.TheVariants.{End, Inside, Nowhere}
pub use Rattle.upd_apply.specs.declared.state.State.{State}
pub use Rattle.upd_core.proofs.ApartLemmas.{all_back, all_front}
pub use Rattle.upd_core.proofs.Common.{[], ℕ, ◌&&◌, ◌++◌, ◌+◌, ◌-◌, ◌<◌, ◌==◌, ◌||◌, ◌∙◌, ◌∷◌, ◌≡◌, ◌≤◌, AllByRecursion, AreApart, Bool, CardView, DeckView}
pub use Rattle.upd_core.proofs.Common.{IsAged, IsSound, LibraryView, List, all_decks, ap, append_assoc, arith, at_first, cond, deck_without, drop, entered}
pub use Rattle.upd_core.proofs.Common.{entered_range, false, filter, find, flat_map, held_named, if◌then◌else◌, is_deck, length, list_any, live_targets, map}
pub use Rattle.upd_core.proofs.Common.{nat_tests, ne_eqb, not, option_and_then, option_map, option_map_or, refl, subst, suc, sym, take, true, unheld}
pub use Rattle.upd_core.proofs.Common.{without_entries, without_idents, zero}
pub use Rattle.upd_core.proofs.FoundLemmas.{flat}
pub use Rattle.upd_core.specs.Edits.{decks_without, introduced, new_card, next_age, purged, purged_back, purged_in, with_card, with_deck, with_entries}
pub use Rattle.upd_core.specs.Edits.{with_yank}
pub use Rattle.upd_core.specs.Library.{cards_of, empty, with_cards}
pub use Rattle.upd_core.specs.Limits.{is_within_limits}
pub use Rattle.upd_core.specs.Sound.{AreAgedFrom, AreRising, BeginsOn, BeginsWithItsOwn, HasNoTargets, IsOfHeld, all_cards, is_held, is_held_deck, key_of}
pub use Rattle.upd_core.specs.Sound.{stands}
pub use Rattle.upd_core.specs.declared.card.Entry.{Entry}
pub use Rattle.upd_core.specs.declared.ident.Ident.{Ident}
pub use Rattle.upd_core.specs.declared.ident.Kind.{Kind}
pub use Rattle.upd_core.specs.declared.library.Place.{Place}
pub use Rattle.upd_core.specs.declared.target.Target.{Target}
pub use Rattle.upd_deck.proofs.Common.{◌>>=◌, AllZip, ItemView, LineView, Text, and_parts, append-nil, at_line, bytes_eq, each, inl, inr, is_allowed, is_name}
pub use Rattle.upd_deck.proofs.Common.{length-append, list_all, or_cases, or_left, or_right, refuse_if}
pub use Rattle.upd_deck.specs.declared.item.IdentIn.{IdentIn}
pub use Rattle.upd_laws.specs.PurgingBack.{AreAmong, Come, DecksGoOn, Ended, GoesOn, IsAgain, IsNewDeck, Kept}
pub use Rattle.upd_laws.specs.ReadRuns.{HasLineTexts, IsLineText, IsOfRun, WereRead}
pub use Rattle.upd_laws.specs.Soundness.{IsAtEnd, IsCurrentSet, IsHandSound, IsInside, IsNext, IsSoundState, IsSpotSound, after_run, after_runs}
pub use Rattle.upd_text.specs.Names.{yank_name}
pub use Rattle.upd_text.specs.declared.card_ref.CardRef.{CardRef}
pub use Rattle.upd_text.specs.declared.fault.Fault.{Fault}
pub use Rattle.upd_text.specs.declared.fault.FaultKind.{FaultKind}
pub use Rattle.upd_text.specs.declared.limits.TheConstants.{MAX_RUN_LINES}
