-- What the proofs of this crate share: the words of its definitions and of those below, and the lemmas that more than one proof cites.
pub use Rattle.std.proofs.Common.{◌^◌, append-nil, inl, inr}
pub use Rattle.std.proofs.lemmas.Bool.{and_right}
pub use Rattle.std.proofs.lemmas.Grind.{flat_map-append}
pub use Rattle.std.proofs.lemmas.List.{drop_all, map-append, take_rest}
pub use Rattle.std.specs.Prelude.{ℤ, ◌&&◌, ◌||◌, IsTrue, nat_le, nat_lt, negsuc, not, pos}
pub use Rattle.upd_core.proofs.ApartLemmas.{at_contained, contained_at, rising_apart}
pub use Rattle.upd_core.proofs.Common.{[], ℕ, ◌++◌, ◌+◌, ◌-◌, ◌<◌, ◌==◌, ◌∙◌, ◌∷◌, ◌≡◌, ◌≤◌, AllByRecursion, AreApart, Bool, CardView, Contains, Decides-eqb}
pub use Rattle.upd_core.proofs.Common.{DeckView, IsSound, LibraryView, List, Some, all_decks, ap, append_assoc, arith, cond, drop, drop_more, false, filter}
pub use Rattle.upd_core.proofs.Common.{find, flat_map, get_or, is_deck, length, list_any, map, nat_tests, ref_of, refl, same_Some, slice_get, subst, suc, sym}
pub use Rattle.upd_core.proofs.Common.{take, true, zero}
pub use Rattle.upd_core.specs.Entries.{same_entry}
pub use Rattle.upd_core.specs.Sound.{AreRising, Continues, all_cards, key_of}
pub use Rattle.upd_core.specs.declared.card.Entry.{Entry}
pub use Rattle.upd_core.specs.declared.ident.Ident.{Ident}
pub use Rattle.upd_core.specs.declared.target.Target.{Target}
pub use Rattle.upd_diff.specs.CardDiffs.{AreCardDiffs, AreOfDeck, Await, CardDiffView, DeckDiffView, Gone, IsKept, Kept, Lead, New, card_after, card_before}
pub use Rattle.upd_diff.specs.CardDiffs.{card_diff_view, deck_after, deck_before, has_cards, standing}
pub use Rattle.upd_diff.specs.RowChanges.{begins, brought, card_changes, distance, entries_new, gone_of, grown, ident_changes, move_to, moves, row_changes}
pub use Rattle.upd_diff.specs.RowChanges.{targets_new}
pub use Rattle.upd_diff.specs.States.{TakeGone, row_changes_state}
pub use Rattle.upd_diff.specs.Touched.{IsOf, same_history, stood_in, touched_in}
pub use Rattle.upd_records.proofs.CountLemmas.{count_cons, same_of, same_trans}
pub use Rattle.upd_records.proofs.EffectLemmas.{Nothing, acts_append, all_acts, cards_after, idle_acts, is_in, on_cards, on_entries, on_idents, on_targets}
pub use Rattle.upd_records.proofs.EffectLemmas.{without}
pub use Rattle.upd_records.proofs.EqualLemmas.{same_ref_own}
pub use Rattle.upd_records.specs.Changes.{CardGone, CardNew, CardsMoved, ChangeView, CountNow, EntriesGone, EntryNew, IdentNew, IdentPurged, StatusNow}
pub use Rattle.upd_records.specs.Changes.{TargetNew, TargetsGone, change_view, done, done_all, moved_row}
pub use Rattle.upd_records.specs.Fits.{AllFit, CanMove}
pub use Rattle.upd_records.specs.Rows.{CardRow, EntryRow, IsSame, Rows, Shows, TargetRow, card_rows, entry_rows, same_ref, target_rows}
pub use Rattle.upd_text.specs.declared.card_ref.CardRef.{CardRef}
