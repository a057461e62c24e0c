-- What the proofs of this crate share: the words of its definitions and of those below, and the lemmas that more than one proof cites.
pub use Rattle.std.proofs.Common.{IsPermutation, nat_cmp}
pub use Rattle.std.proofs.lemmas.Bool.{eq-eqb, lt-ltb, ltb-true}
pub use Rattle.std.proofs.lemmas.Map.Lookups.{CmpEqualImpliesEq, exact_bytes, exact_pairs, exact_unsigned}
pub use Rattle.std.specs.Ordering.{ordering_reverse}
pub use Rattle.std.specs.Prelude.{◌↔◌}
pub use Rattle.std.specs.declared.cmp.Ordering.{Ordering}
pub use Rattle.std.specs.declared.cmp.Ordering.TheVariants.{Equal, Greater, Less}
pub use Rattle.upd_core.proofs.Common.{[], ℕ, ◌&&◌, ◌++◌, ◌+◌, ◌-◌, ◌<◌, ◌==◌, ◌∙◌, ◌∷◌, ◌≡◌, ◌≤◌, AllByRecursion, AreApart, Bool, CardView, DeckView}
pub use Rattle.upd_core.proofs.Common.{IsSound, LibraryView, List, None, all_decks, ap, arith, cond, count_in, drop, false, filter, flat_map, get_or}
pub use Rattle.upd_core.proofs.Common.{if◌then◌else◌, is_deck, is_same, length, list_any, map, not, ref_of, refl, rules, subst, suc, sym, take, true, zero}
pub use Rattle.upd_core.proofs.FlatLemmas.{flat_more}
pub use Rattle.upd_core.specs.Sound.{IsWhole}
pub use Rattle.upd_core.specs.Status.{HasEntriesFrom}
pub use Rattle.upd_core.specs.contracts.deck.Deck.{the_view}
pub use Rattle.upd_core.specs.declared.card.Entry.{Entry}
pub use Rattle.upd_core.specs.declared.ident.Ident.{Ident}
pub use Rattle.upd_core.specs.declared.states.States.{States}
pub use Rattle.upd_core.specs.declared.target.Target.{Target}
pub use Rattle.upd_core.specs.declared.target.Target.TheVariants.{Set}
pub use Rattle.upd_deck.proofs.Common.{and_from, and_parts, eqb-true, le-leb, leb-true, list_all, or_cases, or_right}
pub use Rattle.upd_diff.proofs.Common.{◌||◌, EntryRow, IsSame, IsTrue, Rows, TargetRow, all_cards, card_rows, count_cons, entry_rows, inl, inr, key_of}
pub use Rattle.upd_diff.proofs.Common.{nat_le, nat_lt, same_of, target_rows}
pub use Rattle.upd_examine.specs.Findings.{AreLibraryRows, AreSoundRows}
pub use Rattle.upd_examine.specs.RowKeys.{card_key, entry_key, ident_key, target_row_key}
pub use Rattle.upd_examine.specs.RunForms.{AreRunsSound, is_run_right, run_key}
pub use Rattle.upd_examine.specs.SoundTests.{are_aged_from, are_yanks_from, begins_on, begins_with_its_own, held_at, held_decks}
pub use Rattle.upd_examine.specs.StateTests.{AreCounts, is_count, is_counted, own_state, own_states}
pub use Rattle.upd_examine.specs.TextTests.{has_line_texts}
pub use Rattle.upd_examine.specs.Whole.{IsDirectorySound}
pub use Rattle.upd_laws.proofs.Common.{AreAgedFrom, BeginsOn, is_held, is_within_limits}
pub use Rattle.upd_records.specs.Rows.{MarkRow, RunView}
pub use Rattle.upd_records.specs.declared.rows.LibraryRows.{LibraryRows}
pub use Rattle.upd_row_store.proofs.Common.{AreRowsOf, BeginsWithItsOwn, IsSorted, IsTotalOrder, count_by, is_eq, is_lt, ordering_then, rows_of, slice_cmp}
pub use Rattle.upd_row_store.proofs.SortLemmas.{weaker}
pub use Rattle.upd_text.specs.Units.{Bytes}
pub use Rattle.upd_text.specs.declared.card_ref.CardRef.{CardRef}
pub use Rattle.upd_yank.proofs.Common.{◌⊎◌, CacheView, IsRight, live_count, put_counts, same_target}
pub use Rattle.upd_yank.specs.Right.{AreStatesOf}
