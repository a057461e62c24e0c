-- The invariant of libraries: it holds of every library that runs can reach.
use Rattle.std.specs.Prelude.{◌≡◌, ℕ, ◌+◌, ◌<◌, ◌==◌, Bool, true, false, ◌&&◌, ◌⊎◌, IsTrue, List, [], ◌∷◌, map, None}
use Rattle.std.specs.List.{list_any, filter, flat_map, AllByRecursion}
use Rattle.upd_text.specs.Names.{yank_name}
use Rattle.upd_core.specs.declared.card.Entry.{Entry}
use Rattle.upd_core.specs.declared.ident.Ident.{Ident}
use Rattle.upd_core.specs.Library.{CardView, DeckView, LibraryView, empty, all_decks, held_named, is_deck, is_deck_kind}
use Rattle.upd_core.specs.Status.{IsAged}

-- no two elements of a list are the same
abbrev pub AreApart : {A : Type 0} → List A → Type 0
AreApart [] = Unit {0}
AreApart (x ∷ xs) = AllByRecursion (λ y. x ≡ y → ⊥) xs × AreApart xs

-- each number is less than all that follow it
abbrev pub AreRising : List ℕ → Type 0
AreRising [] = Unit {0}
AreRising (n ∷ ns) = AllByRecursion (λ m. n < m) ns × AreRising ns

-- the serials of a directory are n, n + 1, ..
abbrev pub AreAgedFrom : ℕ → List Ident → Type 0
AreAgedFrom n [] = Unit {0}
AreAgedFrom n (i ∷ rest) = (i.age ≡ n) × AreAgedFrom (n + 1) rest

-- whether a serial is that of a held ident
abbrev pub is_held : List Ident → ℕ → Bool
is_held idents z = list_any (λ i. i.held && (i.age == z)) idents

-- whether a serial is that of a held deck
abbrev pub is_held_deck : List Ident → ℕ → Bool
is_held_deck idents z = list_any (λ i. i.held && is_deck_kind i.kind && (i.age == z)) idents

-- whether a deck is in a library
abbrev pub stands : ℕ → LibraryView → Bool
stands d l = list_any (is_deck d) (all_decks l)

-- all decks of a library are loaded
abbrev pub IsWhole : LibraryView → Type 0
IsWhole l = l.rest ≡ empty.rest

-- a deck begins with card 1 of its own ident
abbrev pub BeginsWithItsOwn : DeckView → Type 0
BeginsWithItsOwn d = FirstIs d.cards
  where
    FirstIs : List CardView → Type 0
    FirstIs [] = ⊥
    FirstIs (c ∷ cs) = (c.ident ≡ d.ident) × (c.number ≡ 1)

-- a card's history begins with its own ident, switched on
abbrev pub BeginsOn : CardView → Type 0
BeginsOn c = FirstIs c.history
  where
    FirstIs : List Entry → Type 0
    FirstIs [] = ⊥
    FirstIs (e ∷ es) = (e.ident ≡ c.ident) × (e.active ≡ true)

-- a deck's cards have no targets
abbrev pub HasNoTargets : DeckView → Type 0
HasNoTargets d = AllByRecursion (λ c. c.targets ≡ []) d.cards

-- a card's ident is held, and so are those of its entries
abbrev pub IsOfHeld : List Ident → CardView → Type 0
IsOfHeld idents c = IsTrue (is_held idents c.ident) × AllByRecursion (λ e. IsTrue (is_held idents e.ident)) c.history

-- the key of a card: its ident and its number
abbrev pub key_of : CardView → ℕ × ℕ
key_of c = (c.ident, c.number)

-- the cards of all decks
abbrev pub all_cards : LibraryView → List CardView
all_cards l = flat_map (λ d. d.cards) (all_decks l)

-- the invariant of a library
pub record IsSound (l : LibraryView) : Type 0 where
  -- the serials of the directory are 1, 2, ..; held names differ; no held name is that of `YANK$$$`
  pub ages : AreAgedFrom 1 l.idents
  pub names : AreApart (map (λ i. i.name) (filter (λ i. i.held) l.idents))
  pub reserved : held_named yank_name l.idents ≡ None
  -- decks are held, in order of serial after `YANK$$$`; each begins with its own card 1; in a whole library each held deck is present
  pub decks : AllByRecursion (λ d. IsTrue (is_held_deck l.idents d.ident)) l.decks
  pub deck_ages : AreRising (map (λ d. d.ident) (all_decks l))
  pub firsts : AllByRecursion BeginsWithItsOwn l.decks
  pub standing : IsWhole l → (d : ℕ) → IsTrue (is_held_deck l.idents d) → IsTrue (stands d l)
  -- cards and entries are of held idents, histories begin with the card's own ident, and no two cards have the same ident and number
  pub cards : AllByRecursion (IsOfHeld l.idents) (all_cards l)
  pub histories : AllByRecursion BeginsOn (all_cards l)
  pub keys : AreApart (map key_of (all_cards l))
  -- `YANK$$$` is in order of serial, no yank card has a target twice, and no other card has targets
  pub yanks : IsAged l.yanks
  pub targets : AllByRecursion (λ c. AreApart c.targets) l.yanks
  pub plain : AllByRecursion HasNoTargets l.decks

-- How a directory changes: idents are appended, and some are no longer held.
abbrev pub Continues : List Ident → List Ident → Type 0
Continues [] later = Unit {0}
Continues (i ∷ idents) [] = ⊥
Continues (i ∷ idents) (j ∷ later) = ((j ≡ i) ⊎ (j ≡ record i { held = false })) × Continues idents later
