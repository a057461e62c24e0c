-- A library that counts the histories that callers read.
use Rattle.std.specs.Prelude.{ℕ, ◌+◌, ◌-◌, ◌^◌, min, List, ◌++◌, map}
use Rattle.std.specs.List.{flat_map}
use Rattle.upd_core.specs.declared.ident.Ident.{Ident}
use Rattle.upd_text.specs.declared.card_ref.CardRef.{CardRef}
use Rattle.upd_core.specs.Library.{CardView, LibraryView, ref_of}

-- A library, and the number of its histories that were read.
pub record CountedView : Type 0 where
  pub library : LibraryView
  pub histories_read : ℕ

-- A card with its reference and the serial of its deck.
pub record CountedCardView : Type 0 where
  pub card : CardRef
  pub deck : ℕ
  pub view : CardView

-- one read more; the count saturates
abbrev pub one_more : CountedView → CountedView
one_more c = record c { histories_read = min (c.histories_read + 1) (2 ^ 64 - 1) }

-- a card of deck d
abbrev pub counted_card : List Ident → ℕ → CardView → CountedCardView
counted_card idents d c = record { card = ref_of idents c; deck = d; view = c }

-- the cards of `YANK$$$`
abbrev pub yanks_of : LibraryView → List CountedCardView
yanks_of l = map (counted_card l.idents 0) l.yanks

-- the cards of the other decks, in order of deck and place
abbrev pub others_of : LibraryView → List CountedCardView
others_of l = flat_map (λ d. map (counted_card l.idents d.ident) d.cards) l.decks

-- all cards, in order of deck (`YANK$$$` first) and place
abbrev pub counted_cards : LibraryView → List CountedCardView
counted_cards l = yanks_of l ++ others_of l
