-- What the proofs of this crate share: the words of its definitions and of those below, and the lemmas that more than one proof cites.
pub use Rattle.std.proofs.Common.{◌/◌, IfOk, IsErr, IsTrue, OnOk, ap₂, bytes_eq, codes, filter, ne_eqb, negsuc, option_copied, pos}
pub use Rattle.std.proofs.lemmas.Bool.{and_parts}
pub use Rattle.std.proofs.lemmas.List.{get_or-map, map-append, take_more}
pub use Rattle.std.specs.BTreeMap.{BTreeMap}
pub use Rattle.std.specs.List.{list_all}
pub use Rattle.std.specs.List.Sorted.{IsStrictlySortedBy}
pub use Rattle.std.specs.Map.{keys_of}
pub use Rattle.sqlite.proofs.Callers.{IsPlain, command_of, reads_as, runs_as, survives_begin}
pub use Rattle.sqlite.specs.Effect.{Database, value_rows}
pub use Rattle.sqlite.specs.Held.{state}
pub use Rattle.sqlite.specs.State.{Executes, HasCleanDisk, Shown, State, Survives}
pub use Rattle.sqlite.specs.declared.error.Error.{Error}
pub use Rattle.sqlite_keyed.proofs.ListLemmas.{all_weaker, filter-map, filter_same, map-map}
pub use Rattle.sqlite_rules.specs.Cast.{cast_all}
pub use Rattle.sqlite_schema.specs.declared.command.Command.TheVariants.{Delete, Insert, Update}
pub use Rattle.sqlite_schema.specs.declared.command.Source.TheVariants.{Values}
pub use Rattle.sqlite_sql.specs.Term.{Term, col, eval_all, holds, lit, op2}
pub use Rattle.sqlite_sql.specs.declared.ops.BinaryOp.TheVariants.{Compare}
pub use Rattle.sqlite_sql.specs.declared.ops.CompareOp.TheVariants.{Eq}
pub use Rattle.sqlite_value.specs.Order.{Row}
pub use Rattle.sqlite_value.specs.declared.keys.Collation.TheVariants.{Binary}
pub use Rattle.sqlite_value.specs.declared.keys.Key.{Key}
pub use Rattle.sqlite_value.specs.declared.value.Value.TheVariants.{Int, Null, Text}
pub use Rattle.upd_core.proofs.Common.{[], ℕ, ◌&&◌, ◌++◌, ◌+◌, ◌-◌, ◌<◌, ◌∙◌, ◌∷◌, ◌≡◌, AllByRecursion, Bool, List, None, Some, ap, arith, false, get_or}
pub use Rattle.upd_core.proofs.Common.{if◌then◌else◌, is_same, length, length-map, map, nat_tests, not, option_map_or, refl, rules, slice_get, subst, sym}
pub use Rattle.upd_core.proofs.Common.{take, true}
pub use Rattle.upd_core.specs.declared.ident.Ident.{Ident}
pub use Rattle.upd_core.specs.declared.target.Target.{Target}
pub use Rattle.upd_core.specs.declared.target.Target.TheVariants.{Deck, Set, SetIn}
pub use Rattle.upd_records.specs.Changes.{change_view, done_all, moved_row, restated, status_rows}
pub use Rattle.upd_records.specs.Fits.{Fits}
pub use Rattle.upd_records.specs.Rows.{CountRow, IsSame, MarkRow, RunView, StateRow}
pub use Rattle.upd_row_store.proofs.Common.{◌==◌, ◌^◌, CardRow, CardsMoved, ChangeView, EntryRow, Err, Ok, Result, Rows, TargetRow, done, nat_cmp, nat_le}
pub use Rattle.upd_row_store.proofs.Common.{same_ref, slice_cmp}
pub use Rattle.upd_row_store.specs.Movable.{MovesListed}
pub use Rattle.upd_row_store.specs.Tables.{count_pair, is_mark_of, is_run, is_settled, mark_at, run_at, state_pair, with_run}
pub use Rattle.upd_sql.specs.Commits.{CountsStatuses, MayCommit, MayKeep, WasOpen}
pub use Rattle.upd_sql.specs.Doable.{AllCanBeDone}
pub use Rattle.upd_sql.specs.Encoded.{card_row, count_row, entry_row, ident_row, mark_row, num, run_row, state_row, stored, target_code, target_row}
pub use Rattle.upd_sql.specs.LibraryTables.{AnyTables, HoldsTables}
pub use Rattle.upd_sql.specs.Making.{HasEmptyTables, MayMake, Transforms, no_rows}
pub use Rattle.upd_sql.specs.RowEdits.{CanMoveOf, covers, with_count, with_mark, with_moved, with_others_moved, with_restated, with_state, without_card_rows}
pub use Rattle.upd_sql.specs.RowEdits.{without_count, without_mark, without_runs, without_states}
pub use Rattle.upd_sql.specs.Schema.{card_columns, count_columns, entry_columns, ident_columns, library_schema, mark_columns, no_schema, run_columns}
pub use Rattle.upd_sql.specs.Schema.{state_columns, target_columns}
pub use Rattle.upd_sql.specs.Wanted.{key_indexes}
pub use Rattle.upd_sqlite.proofs.Chains.{clean_before, makes_as, makes_then, steps_then}
pub use Rattle.upd_sqlite.proofs.Frames.{is_lone, showing}
pub use Rattle.upd_sqlite.proofs.Shapes.{cast_int, inserts}
pub use Rattle.upd_sqlite.proofs.Tests.{eq_nat, eq_text, one_test, three_tests, two_tests}
pub use Rattle.upd_sqlite.specs.Keyed.{plain_query, row_order}
pub use Rattle.upd_sqlite.specs.Steps.{Makes, Ran, Steps}
pub use Rattle.upd_sqlite.specs.Stored.{HoldsAllRows, rows_at}
pub use Rattle.upd_text.specs.declared.card_ref.CardRef.{CardRef}
