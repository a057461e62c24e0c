-- Card diffs: which cards of a library are kept, gone or new, deck by deck.
use Rattle.std.specs.Prelude.{◌≡◌, ℕ, ◌<◌, ◌^◌, ◌⊎◌, Bool, true, List, [], ◌∷◌, ◌++◌, map, length}
use Rattle.std.specs.List.{list_any, filter, flat_map, AllByRecursion}
use Rattle.upd_core.specs.Library.{CardView, DeckView}
use Rattle.upd_diff.specs.declared.card_diffs.CardDiff.{CardDiff}
use Rattle.upd_diff.specs.declared.card_diffs.CardDiff.TheVariants as seen

-- The diff of a card: it is kept (before, after), gone, or new.
pub data CardDiffView : Type 0 where
  Kept : CardView → CardView → CardDiffView
  Gone : CardView → CardDiffView
  New : CardView → CardDiffView

-- a card diff as clauses see it
abbrev pub card_diff_view : CardDiff → CardDiffView
card_diff_view (seen.Kept was is) = Kept was.now is.now
card_diff_view (seen.Gone was) = Gone was.now
card_diff_view (seen.New is) = New is.now

-- The card diffs of a deck, in order.
pub record DeckDiffView : Type 0 where
  pub deck : ℕ
  pub card_diffs : List CardDiffView

-- the card before; none for a new card
abbrev pub card_before : CardDiffView → List CardView
card_before (Kept was is) = was ∷ []
card_before (Gone was) = was ∷ []
card_before (New is) = []

-- the card after; none for a card that is gone
abbrev pub card_after : CardDiffView → List CardView
card_after (Kept was is) = is ∷ []
card_after (Gone was) = []
card_after (New is) = is ∷ []

-- the deck before
abbrev pub deck_before : DeckDiffView → DeckView
deck_before k = record { ident = k.deck; cards = flat_map card_before k.card_diffs }

-- the deck after
abbrev pub deck_after : DeckDiffView → DeckView
deck_after k = record { ident = k.deck; cards = flat_map card_after k.card_diffs }

-- a kept card differs only in its history
abbrev pub IsKept : CardDiffView → Type 0
IsKept (Kept was is) = is ≡ record was { history = is.history }
IsKept (Gone was) = Unit {0}
IsKept (New is) = Unit {0}

-- the diffs are few enough that positions are numbers of 32 bits
abbrev pub IsShort : DeckDiffView → Type 0
IsShort k = length k.card_diffs < 2 ^ 32

-- whether a deck has cards
abbrev pub has_cards : DeckView → Bool
has_cards d = list_any (λ c. true) d.cards

-- the decks that have cards
abbrev pub standing : List DeckView → List DeckView
standing decks = filter has_cards decks

-- Diffs of a list of cards: they cover the cards before and the cards after, each in order.
pub record AreCardDiffs (before after : List CardView) (card_diffs : List CardDiffView) : Type 0 where
  pub olds : flat_map card_before card_diffs ≡ before
  pub news : flat_map card_after card_diffs ≡ after
  pub kept : AllByRecursion IsKept card_diffs

-- Deck diffs of two lists of decks, where decks without cards don't count.
pub record Lead (before after : List DeckView) (decks : List DeckDiffView) : Type 0 where
  pub olds : standing (map deck_before decks) ≡ standing before
  pub news : standing (map deck_after decks) ≡ standing after
  pub kept : AllByRecursion (λ k. AllByRecursion IsKept k.card_diffs) decks
  pub short : AllByRecursion IsShort decks

-- The diff of one deck: it has this serial, and few enough card diffs, which are those of its cards before and after.
pub record AreOfDeck (age : ℕ) (before after : List CardView) (k : DeckDiffView) : Type 0 where
  pub deck : k.deck ≡ age
  pub card_diffs : AreCardDiffs before after k.card_diffs
  pub short : IsShort k

-- Deck diffs in order. The first old deck is paired with the first new deck where these have the same serial; otherwise the old deck is gone.
-- When no old deck is left, the remaining new decks are new.
abbrev pub Paired : List DeckView → List DeckView → List DeckDiffView → Type 0
Paired [] [] [] = Unit {0}
Paired [] [] (k ∷ ks) = ⊥
Paired [] (e ∷ news) [] = ⊥
Paired [] (e ∷ news) (k ∷ ks) = AreOfDeck e.ident [] e.cards k × Paired [] news ks
Paired (d ∷ olds) news [] = ⊥
Paired (d ∷ olds) [] (k ∷ ks) = AreOfDeck d.ident d.cards [] k × Paired olds [] ks
Paired (d ∷ olds) (e ∷ news) (k ∷ ks) =
    ((e.ident ≡ d.ident) × AreOfDeck d.ident d.cards e.cards k × Paired olds news ks)
    ⊎ ((e.ident ≡ d.ident → ⊥) × AreOfDeck d.ident d.cards [] k × Paired olds (e ∷ news) ks)

-- Deck diffs so far: followed by any diffs that pair the remaining decks, they pair all decks.
abbrev pub Await : List DeckView → List DeckView → List DeckDiffView → List DeckView → List DeckView → Type 0
Await before after decks olds news = (rest : List DeckDiffView) → Paired olds news rest → Paired before after (decks ++ rest)

-- a diff of the next card before, of the next card after, or of both where these are the same card
abbrev pub IsNextOf : CardView → CardView → CardDiffView → Type 0
IsNextOf was is (Kept c d) = (c ≡ was) × (d ≡ is) × IsKept (Kept c d)
IsNextOf was is (Gone c) = c ≡ was
IsNextOf was is (New d) = d ≡ is
