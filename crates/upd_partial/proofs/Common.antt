-- What the proofs of this crate share: the words of its definitions and of those below, and the lemmas that more than one proof cites.
pub use Rattle.std.specs.Prelude.{slice_get, sum_by}
pub use Rattle.std.specs.Result.{IfOk}
pub use Rattle.upd_apply.proofs.Common.{AddsAtEnd, AddsInside, Edit, NewDeck, NewSet, Switches, carried, step, stepped}
pub use Rattle.upd_apply.specs.Directives.{is_purge, is_yank}
pub use Rattle.upd_apply.specs.declared.state.State.{State}
pub use Rattle.upd_core.proofs.Common.{[], ℕ, ◌&&◌, ◌++◌, ◌+◌, ◌-◌, ◌<◌, ◌==◌, ◌||◌, ◌∙◌, ◌∷◌, ◌≡◌, ◌≤◌, AllByRecursion, Bool, CardView, Contains, DeckView}
pub use Rattle.upd_core.proofs.Common.{IsSound, LibraryView, List, None, Option, Some, all_decks, ap, arith, card_in, cond, entered_range, false, filter}
pub use Rattle.upd_core.proofs.Common.{find, flat_map, if◌then◌else◌, index_from, is_active, is_among, is_card, is_deck, length, list_any, live_cards}
pub use Rattle.upd_core.proofs.Common.{live_targets, map, nat_tests, not, option_map, option_map_or, place_in, place_of, ref_of, refl, same_Some, status_of}
pub use Rattle.upd_core.proofs.Common.{subst, suc, sym, take, targets_of, true, zero}
pub use Rattle.upd_core.proofs.FoundLemmas.{card_of_place, cards_of_deck, deck_ages_apart, in_flat, place_at}
pub use Rattle.upd_core.specs.Limits.{card_count, entry_count}
pub use Rattle.upd_core.specs.Sound.{IsWhole}
pub use Rattle.upd_core.specs.declared.card.Entry.{Entry}
pub use Rattle.upd_core.specs.declared.ident.Ident.{Ident}
pub use Rattle.upd_core.specs.declared.library.Place.{Place}
pub use Rattle.upd_deck.proofs.Common.{◌>>=◌, Err, ItemView, LineView, Ok, Result, at_line, bytes_eq}
pub use Rattle.upd_diff.proofs.Common.{CardDiffView, ChangeView, Continues, DeckDiffView, IsTrue, Kept, all_cards, at_contained, begins, brought, card_before}
pub use Rattle.upd_diff.proofs.Common.{contained_at, gone_of, ident_changes, inr, moves, nat_le, same_entry, same_ref, stood_in, touched_in}
pub use Rattle.upd_diff.proofs.IdentLemmas.{refs_stay}
pub use Rattle.upd_diff.proofs.ShownRowsLemmas.{fit_row_changes, shown_by_row_changes, taken_by_row_changes}
pub use Rattle.upd_diff.proofs.StateLemmas.{any_of}
pub use Rattle.upd_diff.specs.CardDiffs.{Paired}
pub use Rattle.upd_diff.specs.RowChanges.{RowChanges}
pub use Rattle.upd_diff.specs.Touched.{touched}
pub use Rattle.upd_laws.proofs.BackLibraryLemmas.{Grows}
pub use Rattle.upd_laws.proofs.BackStepLemmas.{all_applied_grows}
pub use Rattle.upd_laws.proofs.Common.{DecksGoOn, IfOk-at_ok, MovesAfter, MovesBefore, Reached, Stays, applied, insert, introduced, is_within_limits}
pub use Rattle.upd_laws.proofs.Common.{new_card, next_age}
pub use Rattle.upd_laws.proofs.SoundListLemmas.{all_both, all_each, all_filter, all_flat, all_weaker, and_left, and_right, both, is_same_number, same_number}
pub use Rattle.upd_laws.proofs.SoundRunLemmas.{run_goes, run_sound}
pub use Rattle.upd_laws.specs.PurgingBack.{purges_nothing}
pub use Rattle.upd_partial.specs.Needed.{cards_named, is_yank_card}
pub use Rattle.upd_partial.specs.Needless.{DoesWithout, NamesNone, cards_of_item, is_left_out, is_plain, is_plain_item, left_out, reached_in_part}
pub use Rattle.upd_row_store.proofs.Common.{IsOfHeld, all_by_index, cards_of_decks, entries_of_decks, filter-append, part_of, same_ref_is}
pub use Rattle.upd_text.specs.declared.card_ref.CardRef.{CardRef}
pub use Rattle.upd_text.specs.declared.fault.Fault.{Fault}
pub use Rattle.upd_text.specs.declared.fault.FaultKind.{FaultKind}
pub use Rattle.upd_yank.proofs.Common.{CountedCardView, all_of_contained, cards_of, count_on, counted_cards, is_due, is_touched, live_count, part, status_at}
pub use Rattle.upd_yank.proofs.Common.{sum_by-cons}
pub use Rattle.upd_yank.proofs.FindLemmas.{any_at, cards_found}
pub use Rattle.upd_yank.proofs.RenewLemmas.{all_passed}
pub use Rattle.upd_yank.proofs.StateLemmas.{all_counted}
pub use Rattle.upd_yank.specs.Affected.{affected}
pub use Rattle.upd_yank.specs.Enough.{AreIdle}
