-- The cards whose status a run may have changed.
use Rattle.std.specs.Prelude.{Bool, true, false, not, List, Option, Some, None}
use Rattle.std.specs.List.{list_any, filter}
use Rattle.std.specs.Option.{option_map, option_and_then}
use Rattle.upd_text.specs.declared.card_ref.CardRef.{CardRef}
use Rattle.upd_core.specs.Counted.{CountedCardView, counted_cards}
use Rattle.upd_core.specs.Library.{CardView, LibraryView, all_decks, card_in, place_in}
use Rattle.upd_core.specs.Status.{is_active, live_targets}
use Rattle.upd_core.specs.TargetCounts.{live_count}
use Rattle.upd_records.specs.Rows.{same_ref}
use Rattle.upd_yank.specs.Cascade.{is_due}

-- whether a card is among the touched ones
abbrev pub is_touched : List CardRef → CountedCardView → Bool
is_touched touched k = list_any (same_ref k.card) touched

-- the cards of a library after a run that are touched, or covered by a target that has live cards either before it or after it, but not both
abbrev pub affected : List CardRef → LibraryView → LibraryView → List CountedCardView
affected touched old new = filter (is_due (is_touched touched) (live_count old) (live_count new)) (counted_cards new)

-- whether a status is new or differs
abbrev pub is_other : Bool → Option Bool → Bool
is_other now None = true
is_other true (Some was) = not was
is_other false (Some was) = was

-- whether the card of the same ident and number was active in a library before, if it was there: a card that a run purges and adds again under
-- its old name is of a younger ident, and so was not there
abbrev pub status_before : LibraryView → CardView → Option Bool
status_before old c =
    option_and_then (λ p. option_map (is_active (live_targets old) p.deck) (card_in p old)) (place_in (all_decks old) c.ident c.number)

-- the cards of a library after a run that are new or whose status differs from before
abbrev pub altered : LibraryView → LibraryView → List CountedCardView
altered old new = filter (λ k. is_other (is_active (live_targets new) k.deck k.view) (status_before old k.view)) (counted_cards new)
