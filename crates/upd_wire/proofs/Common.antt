-- What the proofs of this crate share: the words of its definitions and of those below, and the lemmas that more than one proof cites.
pub use Rattle.std.proofs.Common.{◌*◌, ◌≢◌, Bor, ap₂, decimal, lit<, ltb, option_map, take-append-drop, unwrap_or, vec_len}
pub use Rattle.std.proofs.KnownBytes.{Appends-nil, Appends-trans, Consumes-kept, Consumes-nil, Consumes-trans}
pub use Rattle.std.proofs.Math.Seq.{drop-append-add, drop-append_seam, drop-cons, take-append_seam}
pub use Rattle.std.proofs.lemmas.Bool.{cases_lt, cond-true, le-leb, ltb-true, or_from}
pub use Rattle.std.proofs.lemmas.List.{take_rest}
pub use Rattle.std.proofs.lemmas.List.Concat.{flat_map-append}
pub use Rattle.std.proofs.lemmas.List.Folds.{list_any-append}
pub use Rattle.std.proofs.lemmas.Str.{IsUtf8-from_is_utf8}
pub use Rattle.std.specs.Io.KnownBytes.{Appends, Consumes}
pub use Rattle.std.specs.List.{after_first, before_first, concat, list_all, position_or_len}
pub use Rattle.std.specs.Result.{result_map_both}
pub use Rattle.httparse.specs.Grammar.{HasNoRequest}
pub use Rattle.httparse.specs.Spans.{IsRequestAt, RequestExceeds}
pub use Rattle.matchit.specs.Params.{AllText, part_of, walk}
pub use Rattle.matchit.specs.Router.{RouteOf}
pub use Rattle.matchit.specs.Rows.{RowsOf}
pub use Rattle.matchit.specs.Seek.{cuts, first, has_slash, segment}
pub use Rattle.upd_compile.proofs.Common.{◌⊎◌, add-one, and_parts, at_drop_more, eqb-true, false≢true, inl, inr, lt-ltb, nat_lt, or_right, zip}
pub use Rattle.upd_core.proofs.Common.{[], ℕ, ◌&&◌, ◌++◌, ◌+◌, ◌-◌, ◌<◌, ◌||◌, ◌∙◌, ◌∷◌, ◌≡◌, ◌≤◌, Bool, List, None, Option, Some, ap, append_assoc, arith}
pub use Rattle.upd_core.proofs.Common.{common_steps, cond, drop, false, flat_map, get_or, if◌then◌else◌, length, length-append, length-take-le, map}
pub use Rattle.upd_core.proofs.Common.{nat_tests, not, refl, rules, subst, suc, sym, take, true, zero}
pub use Rattle.upd_desk.proofs.Common.{ArrivalView, Arrives, Event, HoldsIn, IsLeft, IsTrue, IsUtf8, Journal, ReplyView, Settled, codes, is_site}
pub use Rattle.upd_desk.specs.Holding.{after, in_hand_after}
pub use Rattle.upd_row_store.proofs.Common.{◌==◌, ◌^◌, Err, Ok, Result, append-nil, bytes_eq, bytes_eq-Decides, nat_le, take_all}
pub use Rattle.upd_row_store.specs.declared.meaning.Meaning.{Ghosts}
pub use Rattle.upd_text.specs.Names.{is_digit, number_behind}
pub use Rattle.upd_text.specs.declared.fault.Fault.{Fault}
pub use Rattle.upd_text.specs.declared.fault.FaultKind.{FaultKind}
pub use Rattle.upd_text.specs.declared.fault.FaultKind.TheVariants.{BadFrame, NoMemory, Read}
pub use Rattle.upd_text.specs.declared.limits.TheConstants.{MAX_RUN_BYTES}
pub use Rattle.upd_wire.specs.AnswerViews.{answer_seen, response, served_view}
pub use Rattle.upd_wire.specs.Calls.{Asked, asked, card, compile, deck, idents, run, settle, yanks}
pub use Rattle.upd_wire.specs.Exchange.{StopsRun}
pub use Rattle.upd_wire.specs.Frames.{IsBad, IsCut, IsFrame, arrival_of, frame_text, frames_text, has_lf}
pub use Rattle.upd_wire.specs.Frames.IsBad.{no_end, no_header, no_lf}
pub use Rattle.upd_wire.specs.Frames.IsCut.{in_line, in_run}
pub use Rattle.upd_wire.specs.Header.{◌>>=◌, HeaderView, IsHeader, cut, header_text, where_true}
pub use Rattle.upd_wire.specs.Inputs.{Begins, IsInput}
pub use Rattle.upd_wire.specs.LogLines.{ExchangeView, IsAskOf, asked_of, piece}
pub use Rattle.upd_wire.specs.Parameters.{segments_of}
pub use Rattle.upd_wire.specs.Paths.{AreBytes, Part, any, fits, part_fits, word}
pub use Rattle.upd_wire.specs.Requests.{IsFailure, IsRead, RefusesHead, Says, judged}
pub use Rattle.upd_wire.specs.Responses.{Response, page, reply_response}
pub use Rattle.upd_wire.specs.Routes.{parameters_of, routes}
pub use Rattle.upd_wire.specs.Serving.{DoesAsAsked, IsMarkResponse, LeadsThrough, Made, Sends, no_memory}
pub use Rattle.upd_wire.specs.Spools.{Answered, Stops}
pub use Rattle.upd_wire.specs.declared.call.DeskCall.{DeskCall}
pub use Rattle.upd_wire.specs.declared.call.Refusal.{Refusal}
pub use Rattle.upd_wire.specs.declared.frames.TheConstants.{MAX_FRAMES}
pub use Rattle.upd_wire.specs.declared.head.TheConstants.{MAX_HEADERS, MAX_HEAD_BYTES}
pub use Rattle.upd_wire.specs.declared.http_answer.Answer.{Answer}
pub use Rattle.upd_wire.specs.declared.routes.Route.{Route}
