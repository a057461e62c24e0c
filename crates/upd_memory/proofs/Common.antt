-- What the proofs of this crate share: the words of its definitions and of those below, and the lemmas that more than one proof cites.
pub use Rattle.std.proofs.Common.{IsTrue, inl}
pub use Rattle.std.proofs.lemmas.Bool.{and_parts}
pub use Rattle.std.proofs.lemmas.List.{map-append}
pub use Rattle.std.proofs.lemmas.List.Elements.{recursion_from_All}
pub use Rattle.std.proofs.lemmas.Map.Keys.{sorted_head, sorted_tail}
pub use Rattle.std.proofs.lemmas.Map.Lookups.{CmpEqualImpliesEq, exact_unsigned}
pub use Rattle.std.proofs.lemmas.Map.Views.{All-found}
pub use Rattle.std.specs.BTreeMap.{BTreeMap, IsOrdered, get, is_at}
pub use Rattle.std.specs.Cmp.{tied_itself}
pub use Rattle.std.specs.List.{list_all}
pub use Rattle.std.specs.List.Sorted.{IsStrictlySortedBy}
pub use Rattle.std.specs.Map.{keys_of, lookup}
pub use Rattle.std.specs.Ordering.{ordering_reverse}
pub use Rattle.std.specs.Prelude.{ℤ, ◌&&◌, ◌||◌, is_some}
pub use Rattle.std.specs.Result.{result_ok}
pub use Rattle.std.specs.declared.cmp.Ordering.{Ordering}
pub use Rattle.std.specs.declared.cmp.Ordering.TheVariants.{Equal, Greater, Less}
pub use Rattle.std.specs.declared.ops.Bound.TheVariants.{Included, Unbounded}
pub use Rattle.std.specs.declared.vec.Vec.{Vec}
pub use Rattle.upd_core.proofs.Common.{[], ℕ, ◌++◌, ◌+◌, ◌<◌, ◌∙◌, ◌∷◌, ◌≡◌, ◌≤◌, AllByRecursion, Bool, Decides-eqb, List, None, Option, Some, ap, arith}
pub use Rattle.upd_core.proofs.Common.{common_steps, cond, drop, drop_more, false, filter, filter_same, find, flat_map, get_or, if◌then◌else◌, is_among}
pub use Rattle.upd_core.proofs.Common.{is_same, length, list_any, map, nat_tests, not, option_map_or, refl, rules, subst, suc, sym, take, true, zero}
pub use Rattle.upd_core.proofs.InPlaceLemmas.{map_over_more}
pub use Rattle.upd_core.specs.declared.change.Change.{Change}
pub use Rattle.upd_core.specs.declared.ident.Ident.{Ident}
pub use Rattle.upd_core.specs.declared.target.Target.{Target}
pub use Rattle.upd_memory.specs.ActiveRows.{AreInOrder, rise_from, shown_decks, with_rows}
pub use Rattle.upd_memory.specs.Mirrored.{Agrees, state_row}
pub use Rattle.upd_memory.specs.MovedIdents.{adds_from, is_from, is_reached}
pub use Rattle.upd_memory.specs.RowsByKey.{AreCards, AreEntries, AreHomes, AreStatuses, cards_at, entries_at, is_home, pairs_at}
pub use Rattle.upd_memory.specs.Walk.{AreFound}
pub use Rattle.upd_records.proofs.ByKeyLemmas.{filter_twice, same_by_key}
pub use Rattle.upd_records.proofs.CountLemmas.{same_append, same_map}
pub use Rattle.upd_records.specs.Changes.{change_view, done_all, moved_row}
pub use Rattle.upd_records.specs.Fits.{AllFit, CanMove, Fits}
pub use Rattle.upd_records.specs.Rows.{CountRow, StateRow, state_rows}
pub use Rattle.upd_row_store.proofs.Common.{◌==◌, CardNew, CardRow, ChangeView, EntryRow, Err, IsPermutation, IsSame, IsTotalOrder, Ok, Result, Rows}
pub use Rattle.upd_row_store.proofs.Common.{append-nil, by_name, count_by, count_cons, done, filter-append, is_asked, is_eq, is_same-is_eq, nat_cmp}
pub use Rattle.upd_row_store.proofs.Common.{nat_cmp_total, nat_le, nat_list_cmp_total, same_filter, same_of, same_ref, same_trans}
pub use Rattle.upd_row_store.proofs.HolderLemmas.{any_same}
pub use Rattle.upd_row_store.proofs.PartLemmas.{same_length}
pub use Rattle.upd_row_store.proofs.StoreLemmas.{keeps_still, load_lost, read_lost, write_lost}
pub use Rattle.upd_row_store.specs.Assembling.{AreAgesOf}
pub use Rattle.upd_row_store.specs.Movable.{is_listed, moves_at}
pub use Rattle.upd_row_store.specs.PartRows.{is_loaded, is_of}
pub use Rattle.upd_row_store.specs.Tables.{count_pair, is_mark_of, state_pair}
pub use Rattle.upd_text.specs.declared.card_ref.CardRef.{CardRef}
