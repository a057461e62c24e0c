-- What the proofs of this crate share: the words of its definitions and of those below, and the lemmas that more than one proof cites.
pub use Rattle.std.proofs.Common.{[], ℕ, ⊎_elim, ◌&&◌, ◌++◌, ◌+◌, ◌-◌, ◌<◌, ◌==◌, ◌||◌, ◌↔◌, ◌∙◌, ◌∷◌, ◌≡◌, ◌≤◌, ◌⊎◌, Bool, Err, IsTrue, List, None, Ok}
pub use Rattle.std.proofs.Common.{Option, Result, Some, ap, append-nil, append_assoc, arith, codes, cond, drop, eqb, false, get_or, inl, inr, leb, length}
pub use Rattle.std.proofs.Common.{length-append, ltb, map, not, refl, subst, suc, sym, take, true, zero}
pub use Rattle.std.proofs.Math.Seq.{take-append_seam}
pub use Rattle.std.proofs.lemmas.Bool.{and_from, and_parts, both_ways, cond-false, cond_both, eqb-false, eqb-true, false_from_ne_true, false≢true, le-leb}
pub use Rattle.std.proofs.lemmas.Bool.{le-ltb, leb-true, ltb-false, ne_eqb, not-false, not-true, not_from_false, or_cases, or_left, or_parts, or_right}
pub use Rattle.std.proofs.lemmas.List.{length-replicate, take_all, take_more}
pub use Rattle.std.proofs.lemmas.List.Splits.{join_with_byte-slice_split}
pub use Rattle.std.proofs.lemmas.Slice.Eq.{bytes_eq-Decides}
pub use Rattle.std.specs.List.{AllByRecursion, AllZip, Contains, after_first, before_first, join_with_byte, list_all, list_any, onto_first, slice_split}
pub use Rattle.std.specs.List.{suffix_len}
pub use Rattle.std.specs.Str.{bytes_eq}
pub use Rattle.std.specs.Str.Lines.{strip_carriage_return}
pub use Rattle.upd_deck.specs.Grammar.{AreLines, Bare, BeginsInked, Blanks, Card, Comma, Comment, Directive, Feed, Fields, IsAllowed, IsCard, IsField, IsInk}
pub use Rattle.upd_deck.specs.Grammar.{IsLead, IsLine, IsName, IsPair, IsRange, IsStarLine, IsTextOf, LastLine, Line, Lone, NextLine, NoMore, Other, Pair}
pub use Rattle.upd_deck.specs.Grammar.{ReturnFeed, Says, Separator, Takes, TakesBefore, TakesCall, TakesCommon, TakesCompile, TakesDeck, TakesDelete}
pub use Rattle.upd_deck.specs.Grammar.{TakesDeletes, TakesIdent, TakesInsert, TakesMarked, TakesPurDeck, TakesPurge, TakesPurgeFrom, TakesRestore}
pub use Rattle.upd_deck.specs.Grammar.{TakesRestores, TakesSelPurge, TakesSelYank, TakesYank, TakesYankDeck, Trimmed, Two, blanks}
pub use Rattle.upd_deck.specs.Items.{Before, Call, CommonDeck, Compile, Deck, Delete, Ident, Insert, ItemView, LineView, PurDeck, Purge, PurgeFrom, Restore}
pub use Rattle.upd_deck.specs.Items.{SelPurge, SelYank, Text, Yank, YankDeck, line_view}
pub use Rattle.upd_deck.specs.Reading.{CutLine, Spelling, are_its_fields, card_ref_in, cut, cut_from, each_in, first_field, ident_in, is_allowed, is_feed}
pub use Rattle.upd_deck.specs.Reading.{is_from_name, item_by, item_of, item_with, last_of_two, meaning, name_in, names_in, one_in, range_in, reading, said}
pub use Rattle.upd_deck.specs.Reading.{said_at, spelled, spellings, text_of, trimmed}
pub use Rattle.upd_deck.specs.declared.item.IdentIn.{IdentIn}
pub use Rattle.upd_deck.specs.declared.item.NameRange.{NameRange}
pub use Rattle.upd_deck.specs.declared.word.Word.{Word}
pub use Rattle.upd_text.proofs.EachLemmas.{each_behind, each_behind-none}
pub use Rattle.upd_text.specs.Lines.{after_blanks, after_comma, ends_word, field, fields, fields_of, from_first, is_blank, is_comma, is_comment, is_starred}
pub use Rattle.upd_text.specs.Lines.{remark, up_to, word}
pub use Rattle.upd_text.specs.Names.{is_name, is_point}
pub use Rattle.upd_text.specs.Outcome.{◌>>=◌, at_line, each, need, refuse_if}
pub use Rattle.upd_text.specs.declared.card_ref.CardRef.{CardRef}
pub use Rattle.upd_text.specs.declared.fault.Fault.{Fault}
pub use Rattle.upd_text.specs.declared.fault.FaultKind.{FaultKind}
pub use Rattle.upd_text.specs.declared.limits.TheConstants.{MAX_LINE_BYTES, MAX_RUN_BYTES, MAX_RUN_LINES}
