-- What the proofs of this crate share: the words of its definitions and of those below, and the lemmas that more than one proof cites.
pub use Rattle.std.proofs.Common.{append-nil, inr, length-drop}
pub use Rattle.std.proofs.lemmas.List.{map-append}
pub use Rattle.std.proofs.lemmas.List.Concat.{flat_map-append}
pub use Rattle.std.proofs.lemmas.Slice.Eq.{slice_eq-Decides}
pub use Rattle.std.specs.Borrow.{Bor}
pub use Rattle.std.specs.Prelude.{Err, IsTrue, Ok, codes}
pub use Rattle.upd_apply.proofs.Common.{Result}
pub use Rattle.upd_apply.specs.Applying.{Reached}
pub use Rattle.upd_compile.proofs.Common.{Global, Vec, filter_map, nat_lt}
pub use Rattle.upd_core.proofs.Common.{[], ℕ, ◌++◌, ◌+◌, ◌-◌, ◌<◌, ◌==◌, ◌∙◌, ◌∷◌, ◌≡◌, ◌≤◌, AllByRecursion, Bool, CardView, Decides-eqb, DeckView}
pub use Rattle.upd_core.proofs.Common.{LibraryView, List, None, Option, Some, ap, append_assoc, arith, drop, false, filter, flat_map, get_or}
pub use Rattle.upd_core.proofs.Common.{index_from, is_active, is_deck, is_some, length, length-map, live_targets, map, nat_tests, not}
pub use Rattle.upd_core.proofs.Common.{option_map_or, refl, rules, subst, suc, sym, take, true, zero}
pub use Rattle.upd_core.specs.Edits.{next_age}
pub use Rattle.upd_core.specs.Library.{cards_of, deck_of}
pub use Rattle.upd_core.specs.Status.{LiveView}
pub use Rattle.upd_core.specs.declared.target.Target.{Target}
pub use Rattle.upd_correct.specs.Checked.{AreDecksFrom, AreLeft, Corrects, Empty, HasTexts, IsChecked, IsDeckLeft, LeadsCards, New, Old, held_serials}
pub use Rattle.upd_correct.specs.Checked.{new_decks}
pub use Rattle.upd_correct.specs.Correcting.{CorrectsSince, CorrectsTo}
pub use Rattle.upd_correct.specs.EditedText.{NewDeck, lines_in, texts_of}
pub use Rattle.upd_correct.specs.LineReads.{HasDecks, HasReading}
pub use Rattle.upd_correct.specs.ListedDeck.{ListedView, is_other, listed_card, listed_name}
pub use Rattle.upd_correct.specs.Parts.{Follows, part_name}
pub use Rattle.upd_correct.specs.Problems.{deck_problem, line_problem}
pub use Rattle.upd_correct.specs.ReadDecks.{AreReadFrom}
pub use Rattle.upd_correct.specs.Refusals.{head_read, lines_refusals, refusals_at, refusals_of}
pub use Rattle.upd_correct.specs.declared.refusal.CorrectError.{CorrectError}
pub use Rattle.upd_correct.specs.declared.refusal.Refusal.{Refusal}
pub use Rattle.upd_deck.proofs.Common.{AllZip, is_allowed, is_feed, reading, take_all, take_more}
pub use Rattle.upd_text.specs.Units.{Bytes}
pub use Rattle.upd_text.specs.declared.limits.TheConstants.{MAX_CARDS}
