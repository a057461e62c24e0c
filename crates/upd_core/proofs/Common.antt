-- What the proofs of this crate share: the words of its definitions and of those below, and the lemmas that more than one proof cites.
pub use Rattle.std.proofs.Common.{[], ℕ, ◌&&◌, ◌++◌, ◌+◌, ◌-◌, ◌<◌, ◌||◌, ◌∙◌, ◌∷◌, ◌≡◌, ◌≤◌, All, Bool, List, None, Option, Some, ap, append_assoc, arith}
pub use Rattle.std.proofs.Common.{cond, count_by, drop, false, get_or, if◌then◌else◌, insert, is_some, length, map, min, not, refl, rules, set, slice_get}
pub use Rattle.std.proofs.Common.{subst, suc, sum_by, sym, take, true, zero}
pub use Rattle.std.proofs.lemmas.Bool.{ne_eqb}
pub use Rattle.std.proofs.lemmas.Bool.Decides.{Decides-eqb, nat_tests}
pub use Rattle.std.proofs.lemmas.Fn.{filter_same}
pub use Rattle.std.proofs.lemmas.Grind.{common_steps}
pub use Rattle.std.proofs.lemmas.List.{drop_more, length-append, length-drop, length-map, length-take-le}
pub use Rattle.std.proofs.lemmas.List.Sums.{sum_by-take-drop}
pub use Rattle.std.proofs.lemmas.Option.{same_Some}
pub use Rattle.std.specs.List.{AllByRecursion, Contains, filter, find, flat_map, list_any}
pub use Rattle.std.specs.Option.{option_and_then, option_map, option_map_or}
pub use Rattle.std.specs.Prelude.{◌==◌}
pub use Rattle.upd_core.specs.ActiveTexts.{card_in_texts}
pub use Rattle.upd_core.specs.Counted.{counted_card}
pub use Rattle.upd_core.specs.Counts.{capped}
pub use Rattle.upd_core.specs.EditParts.{entered_count, entered_in, inserted_in, without_last}
pub use Rattle.upd_core.specs.Edits.{deck_without, entered, entered_range, is_among, unheld, without_entries, without_idents}
pub use Rattle.upd_core.specs.First.{at_first, index_from}
pub use Rattle.upd_core.specs.Gone.{is_gone}
pub use Rattle.upd_core.specs.Homes.{AreHome, StayNoted, is_home}
pub use Rattle.upd_core.specs.Library.{CardView, DeckView, LibraryView, all_decks, card_in, held_named, is_card, is_deck, place_in, place_of, ref_of}
pub use Rattle.upd_core.specs.Reach.{covers}
pub use Rattle.upd_core.specs.Sound.{AreApart, IsSound}
pub use Rattle.upd_core.specs.Status.{IsAged, TakesOlder, ends_on, is_active, is_good, is_taken, live_cards, live_of, live_targets, live_yank, liveness}
pub use Rattle.upd_core.specs.Status.{status_of, stays_on, takes, targets_of, yank_at}
pub use Rattle.upd_core.specs.TargetCounts.{count_in}
pub use Rattle.upd_core.specs.Targets.{is_same}
pub use Rattle.upd_core.specs.contracts.deck.Deck.{the_view}
pub use Rattle.upd_core.specs.declared.card.Entry.{Entry}
pub use Rattle.upd_core.specs.declared.ident.Ident.{Ident}
pub use Rattle.upd_core.specs.declared.library.Place.{Place}
pub use Rattle.upd_core.specs.declared.target.Target.{Target}
pub use Rattle.upd_core.specs.declared.target.Target.TheVariants.{Deck, Set, SetIn}
pub use Rattle.upd_text.specs.declared.card_ref.CardRef.{CardRef}
