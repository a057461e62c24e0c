-- What the proofs of this crate share: the words of its definitions and of those below, and the lemmas that more than one proof cites.
pub use Rattle.std.proofs.Common.{unwrap_or}
pub use Rattle.std.proofs.lemmas.List.Elements.{filter-append}
pub use Rattle.std.proofs.lemmas.List.Folds.{list_any-append}
pub use Rattle.std.proofs.lemmas.List.Sums.{sum_by-cons}
pub use Rattle.std.specs.Map.{update, update_all}
pub use Rattle.std.specs.Option.{option_or}
pub use Rattle.std.specs.Prelude.{◌⊎◌}
pub use Rattle.upd_apply.specs.Applying.{touched}
pub use Rattle.upd_core.proofs.ApartLemmas.{all_at, all_back, all_by_index, all_front, all_of_contained}
pub use Rattle.upd_core.proofs.Common.{[], ℕ, ◌&&◌, ◌++◌, ◌+◌, ◌-◌, ◌<◌, ◌==◌, ◌||◌, ◌∙◌, ◌∷◌, ◌≡◌, ◌≤◌, AllByRecursion, AreApart, Bool, CardView, Contains}
pub use Rattle.upd_core.proofs.Common.{Decides-eqb, DeckView, IsAged, IsSound, LibraryView, List, None, Option, Some, all_decks, ap, arith, common_steps}
pub use Rattle.upd_core.proofs.Common.{cond, count_in, counted_card, drop, false, filter, find, flat_map, get_or, if◌then◌else◌, is_active, is_deck, is_good}
pub use Rattle.upd_core.proofs.Common.{is_same, is_some, length, length-map, list_any, live_cards, live_targets, map, nat_tests, ne_eqb, not, ref_of, refl}
pub use Rattle.upd_core.proofs.Common.{same_Some, slice_get, status_of, stays_on, subst, suc, sym, take, targets_of, true, zero}
pub use Rattle.upd_core.proofs.CountedLemmas.{same_target}
pub use Rattle.upd_core.proofs.FoundLemmas.{status_at}
pub use Rattle.upd_core.specs.Actives.{without_past}
pub use Rattle.upd_core.specs.Counted.{CountedCardView, CountedView, counted_cards, others_of, yanks_of}
pub use Rattle.upd_core.specs.Library.{cards_of}
pub use Rattle.upd_core.specs.Parts.{part}
pub use Rattle.upd_core.specs.Reach.{differs, is_flipped, is_reached, is_retaken}
pub use Rattle.upd_core.specs.Serials.{Serial}
pub use Rattle.upd_core.specs.TargetCounts.{count_on, has_target, live_count}
pub use Rattle.upd_core.specs.declared.card.Entry.{Entry}
pub use Rattle.upd_core.specs.declared.ident.Ident.{Ident}
pub use Rattle.upd_core.specs.declared.library.Rest.{Rest}
pub use Rattle.upd_core.specs.declared.target.Target.{Target}
pub use Rattle.upd_core.specs.declared.target.Target.TheVariants.{Deck, Set, SetIn}
pub use Rattle.upd_deck.proofs.Common.{and_parts, length-append, or_cases, or_left, or_parts, or_right}
pub use Rattle.upd_diff.proofs.Common.{◌^◌, CardGone, CardNew, CardsMoved, ChangeView, Continues, CountNow, EntriesGone, EntryNew, IdentNew, IdentPurged}
pub use Rattle.upd_diff.proofs.Common.{Rows, StatusNow, TakeGone, TargetNew, TargetsGone, append-nil, at_contained, change_view, contained_at, done_all, inl}
pub use Rattle.upd_diff.proofs.Common.{inr, row_changes_state, same_ref, same_ref_own}
pub use Rattle.upd_records.proofs.EqualLemmas.{same_ref_is}
pub use Rattle.upd_records.specs.Rows.{ShowsStates, count_rows, state_rows}
pub use Rattle.upd_text.specs.declared.card_ref.CardRef.{CardRef}
pub use Rattle.upd_yank.specs.Affected.{is_other, is_touched, status_before}
pub use Rattle.upd_yank.specs.Cascade.{ArePut, AreYanks, IsRightBefore, TakesNoYanks, found_of, found_of_all, found_others, found_yanks, is_active_by, is_due}
pub use Rattle.upd_yank.specs.Cascade.{is_taken_by, live_now, status_now, stay, views}
pub use Rattle.upd_yank.specs.Renewed.{is_active_deck}
pub use Rattle.upd_yank.specs.Right.{AreCountable, CacheView, IsRight, IsRunBetween, kept_status, put_counts, was_active}
pub use Rattle.upd_yank.specs.StatusChanges.{all_count_changes, all_repeated_statuses, count_changes, repeated_statuses, status_change, status_changes}
pub use Rattle.upd_yank.specs.StatusChanges.{status_of_card, update_changes, zero_changes}
