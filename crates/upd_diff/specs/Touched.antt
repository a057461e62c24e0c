-- The cards that a run touched: those that are new, or whose history differs from before.
use Rattle.std.specs.Prelude.{◌≡◌, Bool, true, false, not, ◌&&◌, List, [], ◌∷◌, map}
use Rattle.std.specs.List.{list_any, filter, flat_map, Contains}
use Rattle.upd_core.specs.declared.card.Entry.{Entry}
use Rattle.upd_core.specs.declared.ident.Ident.{Ident}
use Rattle.upd_text.specs.declared.card_ref.CardRef.{CardRef}
use Rattle.upd_core.specs.Entries.{same_entry}
use Rattle.upd_diff.specs.CardDiffs.{CardDiffView, Kept, Gone, New, IsKept}
use Rattle.upd_core.specs.Library.{CardView, DeckView, LibraryView, all_decks, cards_of, ref_of, is_card}

-- the same entries in the same order
abbrev pub same_history : List Entry → List Entry → Bool
same_history [] [] = true
same_history [] (f ∷ fs) = false
same_history (e ∷ es) [] = false
same_history (e ∷ es) (f ∷ fs) = same_entry e f && same_history es fs

-- whether a card is among these cards, with the same history
abbrev pub stood_in : List CardView → CardView → Bool
stood_in cards c = list_any (λ b. is_card c.ident c.number b && same_history b.history c.history) cards

-- the touched cards of a deck
abbrev pub touched_in : List Ident → LibraryView → DeckView → List CardRef
touched_in idents before d = map (ref_of idents) (filter (λ c. not (stood_in (cards_of d.ident before) c)) d.cards)

-- the touched cards, in order of deck (`YANK$$$` first) and place
abbrev pub touched : LibraryView → LibraryView → List CardRef
touched before after = flat_map (touched_in after.idents before) (all_decks after)

-- a kept card differs only in its history, and where `sure` holds, the card before is one of these
abbrev pub IsOf : List CardView → Bool → CardDiffView → Type 0
IsOf cards sure (Kept was is) = IsKept (Kept was is) × (sure ≡ true → Contains cards was)
IsOf cards sure (Gone was) = Unit {0}
IsOf cards sure (New is) = Unit {0}
