-- What the proofs of this crate share: the words of its definitions and of those below, and the lemmas that more than one proof cites.
pub use Rattle.std.proofs.Common.{IfErr, OnOk, max}
pub use Rattle.std.specs.Str.{IsUtf8}
pub use Rattle.std.specs.Vec.{vec_len}
pub use Rattle.serde_json.specs.View.{view}
pub use Rattle.serde_json.specs.Written.{compact_text, has_float}
pub use Rattle.upd_compile.proofs.Common.{ActivesView, FileView, IfOk-weaker, nat_lt, walk}
pub use Rattle.upd_compile.specs.File.{compile_file_of, file_of}
pub use Rattle.upd_compile.specs.Listings.{card_listing, deck_listing}
pub use Rattle.upd_compile.specs.Modes.{mode_named}
pub use Rattle.upd_compile.specs.declared.mode.Mode.{Mode}
pub use Rattle.upd_core.proofs.Common.{[], ℕ, ◌&&◌, ◌++◌, ◌+◌, ◌<◌, ◌||◌, ◌∙◌, ◌∷◌, ◌≡◌, ◌≤◌, AllByRecursion, Bool, CardView, DeckView, IsSound, LibraryView}
pub use Rattle.upd_core.proofs.Common.{List, None, Option, Some, ap, arith, false, filter, find, flat_map, if◌then◌else◌, is_among, length, list_any}
pub use Rattle.upd_core.proofs.Common.{live_targets, map, nat_tests, not, option_map_or, place_of, ref_of, refl, rules, subst, suc, sym, take, true}
pub use Rattle.upd_core.specs.Actives.{actives_of}
pub use Rattle.upd_core.specs.declared.library.Place.{Place}
pub use Rattle.upd_deck.proofs.Common.{◌==◌, ◌>>=◌, ◌⊎◌, Err, IsTrue, LineView, Ok, Result, and_parts, at_line, bytes_eq, codes, false≢true, need, reading}
pub use Rattle.upd_deck.proofs.Common.{refuse_if}
pub use Rattle.upd_desk.specs.Arrivals.{ArrivalView, check_arrival, check_key, mode_number}
pub use Rattle.upd_desk.specs.Compiling.{IsAppliedRun, IsRefusal}
pub use Rattle.upd_desk.specs.Holding.{AddsRun, AreArrivalFaults, Arrives, Becomes, EndsInReply, Guards, Holds, HoldsIn, IsHeld, IsIdle, IsLeft, IsWork}
pub use Rattle.upd_desk.specs.Holding.{ReadsNeededByAll, RunAll, TriesRun, failures_after_all, is_lost, work_after_all}
pub use Rattle.upd_desk.specs.Journal.{Alike, Came, Carried, Event, Heard, Journal, Settled, answer, answered, distinct, has_key, kept, library_after}
pub use Rattle.upd_desk.specs.Journal.{made_by, mark, outcome_of, reply_to, run_of, with_arrival}
pub use Rattle.upd_desk.specs.Made.{IsMade, LeadTo, looked_at}
pub use Rattle.upd_desk.specs.Needed.{needed, needed_by}
pub use Rattle.upd_desk.specs.Outcomes.{Compiled, ReplyView, compiled, outcome, outcome_by}
pub use Rattle.upd_desk.specs.Queries.{listing}
pub use Rattle.upd_desk.specs.ReplyTexts.{AreShown, accepted_text, is_shown, refused_text}
pub use Rattle.upd_desk.specs.ReplyValues.{accepted_value, fault_value, refused_value}
pub use Rattle.upd_desk.specs.declared.outcome.AppliedRun.{AppliedRun}
pub use Rattle.upd_diff.proofs.Common.{◌^◌, AllFit, ChangeView, Rows, Shows, change_view, done_all, inl, inr, same_ref}
pub use Rattle.upd_laws.proofs.Common.{Reached, applied, empty}
pub use Rattle.upd_laws.proofs.SoundRunLemmas.{run_whole, run_within}
pub use Rattle.upd_partial.proofs.Common.{affected, and_right, cards_named, is_left_out, is_plain, is_yank_card, run_goes, run_sound}
pub use Rattle.upd_partial.proofs.CountLemmas.{decks_few, whole_part}
pub use Rattle.upd_partial.proofs.NeedLemmas.{part_of_others}
pub use Rattle.upd_partial.specs.Needed.{decks_needed}
pub use Rattle.upd_records.specs.Rows.{RunView}
pub use Rattle.upd_row_store.proofs.Common.{IsErrAnd, ShowsStates, committed, failures_after, is_asked, name_of, nat_le, part_of, same_ref_is}
pub use Rattle.upd_row_store.proofs.KeepingLemmas.{memory_is_lost, uncounted}
pub use Rattle.upd_row_store.proofs.StoreLemmas.{keeps_keeps, keeps_still, later_twice}
pub use Rattle.upd_row_store.proofs.TableLemmas.{is_same_bytes, max_left, max_right, same_bytes, same_key}
pub use Rattle.upd_row_store.specs.Asked.{decks_with}
pub use Rattle.upd_row_store.specs.Keeping.{IsLost, Keeps, OfMemory, Tries}
pub use Rattle.upd_row_store.specs.Tables.{is_run, mark_at, run_at, settled_to}
pub use Rattle.upd_row_store.specs.declared.meaning.Meaning.{Ghosts}
pub use Rattle.upd_text.specs.Faults.{fault_at}
pub use Rattle.upd_text.specs.Keys.{is_run_number, is_site}
pub use Rattle.upd_text.specs.Outcome.{FailsAt, FailsOf}
pub use Rattle.upd_text.specs.declared.card_ref.CardRef.{CardRef}
pub use Rattle.upd_text.specs.declared.fault.Fault.{Fault}
pub use Rattle.upd_text.specs.declared.fault.FaultKind.{FaultKind}
pub use Rattle.upd_text.specs.declared.fault.FaultKind.TheVariants.{NoMemory}
pub use Rattle.upd_text.specs.declared.limits.TheConstants.{MAX_DEPTH}
pub use Rattle.upd_yank.proofs.Common.{CountedCardView, counted_cards, part, touched}
pub use Rattle.upd_yank.specs.Affected.{altered}
pub use Rattle.upd_yank.specs.Enough.{IsEnough}
