-- What the proofs of this crate share: the words of its definitions and of those below, and the lemmas that more than one proof cites.
pub use Rattle.std.proofs.Common.{◌==◌, ◌^◌, Err, Ok, Result, append-nil, nat_le, remove, slice_index_or}
pub use Rattle.std.proofs.lemmas.Cmp.{nat_cmp_total, nat_list_cmp_total, on_total, then_total}
pub use Rattle.std.proofs.lemmas.Fn.{always_returns_same}
pub use Rattle.std.proofs.lemmas.List.{append_assoc, take_all}
pub use Rattle.std.proofs.lemmas.List.Elements.{filter-append}
pub use Rattle.std.proofs.lemmas.List.Filters.{dedup_is}
pub use Rattle.std.proofs.lemmas.List.Sorted.{ranks_by}
pub use Rattle.std.proofs.lemmas.Slice.Eq.{bytes_eq-Decides}
pub use Rattle.std.specs.Cmp.{IsStrictWeakOrder, IsTotalOrder, nat_cmp_is}
pub use Rattle.std.specs.Cmp.Lexicographic.{slice_cmp}
pub use Rattle.std.specs.List.{AllWithin, count_by, dedup, sum_by}
pub use Rattle.std.specs.List.Sorted.{IsPartitionPoint, IsPartitionedBy, IsPermutation, IsSorted, IsSortedBy}
pub use Rattle.std.specs.Ordering.{is_eq, is_le, is_lt, nat_cmp, ordering_then}
pub use Rattle.std.specs.Result.{IsErrAnd}
pub use Rattle.std.specs.Str.{bytes_eq}
pub use Rattle.std.specs.declared.cmp.Ordering.{Ordering}
pub use Rattle.std.specs.declared.cmp.Ordering.TheVariants.{Equal, Greater, Less}
pub use Rattle.upd_core.proofs.ApartLemmas.{all_back, all_by_index, all_front, at_contained}
pub use Rattle.upd_core.proofs.Common.{[], ℕ, ◌&&◌, ◌++◌, ◌+◌, ◌-◌, ◌<◌, ◌||◌, ◌∙◌, ◌∷◌, ◌≡◌, ◌≤◌, AllByRecursion, AreApart, Bool, CardView, Decides-eqb}
pub use Rattle.upd_core.proofs.Common.{DeckView, IsSound, LibraryView, List, None, Option, Some, all_decks, ap, arith, capped, cond, drop, false, filter}
pub use Rattle.upd_core.proofs.Common.{filter_same, flat_map, get_or, held_named, if◌then◌else◌, is_among, length, list_any, map, nat_tests, not, option_map}
pub use Rattle.upd_core.proofs.Common.{option_map_or, ref_of, refl, rules, same_Some, subst, suc, sym, take, true, zero}
pub use Rattle.upd_core.proofs.FoundLemmas.{held_found, refs_apart}
pub use Rattle.upd_core.specs.Library.{name_of}
pub use Rattle.upd_core.specs.Parts.{cards_of_decks, entries_of_decks, part_of}
pub use Rattle.upd_core.specs.Sound.{AreRising, BeginsWithItsOwn, IsOfHeld, all_cards}
pub use Rattle.upd_core.specs.declared.card.Entry.{Entry}
pub use Rattle.upd_core.specs.declared.ident.Ident.{Ident}
pub use Rattle.upd_core.specs.declared.target.Target.{Target}
pub use Rattle.upd_records.proofs.CountLemmas.{count_cons, same_filter, same_of, same_trans}
pub use Rattle.upd_records.proofs.EffectLemmas.{any_append}
pub use Rattle.upd_records.proofs.EqualLemmas.{other_ref, same_ref_is, same_ref_own}
pub use Rattle.upd_records.specs.Changes.{CardGone, CardNew, CardsMoved, ChangeView, CountNow, EntriesGone, EntryNew, IdentNew, IdentPurged, StatusNow}
pub use Rattle.upd_records.specs.Changes.{TargetNew, TargetsGone, done}
pub use Rattle.upd_records.specs.Rows.{CardRow, EntryRow, IsSame, Rows, Shows, ShowsStates, TargetRow, card_rows, entry_rows, rows_of, same_ref, target_rows}
pub use Rattle.upd_records.specs.declared.rows.LibraryRows.{LibraryRows}
pub use Rattle.upd_row_store.specs.Activating.{actives_from, actives_in, behind_yanks}
pub use Rattle.upd_row_store.specs.Asked.{is_asked}
pub use Rattle.upd_row_store.specs.Assembling.{AreByAge, AreByPlace, AreRowsOf, age_named, decks_from, decks_in, library_of}
pub use Rattle.upd_row_store.specs.Keeping.{MoreFailures, failures_after, failures_with}
pub use Rattle.upd_row_store.specs.Movable.{AllMoveListed}
pub use Rattle.upd_row_store.specs.PartRows.{part_rows}
pub use Rattle.upd_row_store.specs.Tables.{committed}
pub use Rattle.upd_text.proofs.OrderLemmas.{is_same-is_eq}
pub use Rattle.upd_text.specs.Order.{by_name, card_order, is_same_reference}
pub use Rattle.upd_text.specs.declared.card_ref.CardRef.{CardRef}
pub use Rattle.upd_text.specs.declared.fault.Fault.{Fault}
pub use Rattle.upd_text.specs.declared.fault.FaultKind.TheVariants.{NoMemory}
