-- What the proofs of this crate share: the words of its definitions and of those below, and the lemmas that more than one proof cites.
pub use Rattle.std.proofs.Common.{⊎_elim, ◌==◌, ◌↔◌, ◌⊎◌, Err, Global, Ok, Result, Vec, add-one, inl, inr, nat_lt, replicate, slice_index}
pub use Rattle.std.proofs.Math.ListN.{length-set, set}
pub use Rattle.std.proofs.lemmas.Bool.{and_from, and_parts, and_right, cases_Bool, eq-eqb, eqb-true, false≢true, lt-ltb, or_cases, or_left, or_right}
pub use Rattle.std.proofs.lemmas.List.{at_drop_more, take_more}
pub use Rattle.std.proofs.lemmas.List.Folds.{Any-from_list_any, list_any-from_Any}
pub use Rattle.std.proofs.lemmas.Option.{gets, slice_get-map, slice_get_within}
pub use Rattle.std.proofs.lemmas.Result.{IfOk-weaker}
pub use Rattle.std.specs.List.{cons_option, filter_map, zip}
pub use Rattle.std.specs.Option.{option_copied}
pub use Rattle.std.specs.Str.{bytes_eq}
pub use Rattle.upd_compile.specs.Chosen.{called_decks, has_chain, is_changed, is_common_deck, is_passed_on, same_cards}
pub use Rattle.upd_compile.specs.File.{FileView, written}
pub use Rattle.upd_compile.specs.Positions.{called_positions, held_kind, kind_and_age, position_aged, position_named}
pub use Rattle.upd_compile.specs.Progress.{ProgressView, after_event, after_events, at_start}
pub use Rattle.upd_compile.specs.Reach.{AreCallers, AreReached, FollowsMore, VisitsMore, follows, is_flagged, is_in}
pub use Rattle.upd_compile.specs.Walk.{Depth, Follow, Line, Unknown, WalkEvent, card_events, common_named, deck_aged, text_cards, walk}
pub use Rattle.upd_core.proofs.Common.{[], ℕ, ◌&&◌, ◌++◌, ◌+◌, ◌-◌, ◌<◌, ◌||◌, ◌∙◌, ◌∷◌, ◌≡◌, ◌≤◌, AllByRecursion, Bool, List, None, Option, Some, ap, arith}
pub use Rattle.upd_core.proofs.Common.{common_steps, cond, count_by, drop, false, filter, find, flat_map, get_or, held_named, if◌then◌else◌, index_from}
pub use Rattle.upd_core.proofs.Common.{length, length-map, list_any, map, ne_eqb, not, option_and_then, option_map, option_map_or, refl, rules, slice_get}
pub use Rattle.upd_core.proofs.Common.{subst, suc, sym, take, true, zero}
pub use Rattle.upd_core.specs.Actives.{ActiveCardView, ActiveDeckView, ActivesView}
pub use Rattle.upd_core.specs.Library.{is_common}
pub use Rattle.upd_core.specs.declared.ident.Ident.{Ident}
pub use Rattle.upd_text.specs.Lines.{called, is_call}
pub use Rattle.upd_text.specs.Outcome.{◌>>=◌, Does}
pub use Rattle.upd_text.specs.declared.fault.FaultKind.{FaultKind}
pub use Rattle.upd_text.specs.declared.limits.TheConstants.{MAX_DEPTH}
