-- What the cards of all decks have, deck by deck.
use Rattle.upd_examine.proofs.Common.{◌≡◌, List, [], ◌∷◌, ◌++◌, refl, sym, ap, ◌∙◌, flat_map, Ident, CardView, DeckView, LibraryView, all_decks, ref_of}
use Rattle.upd_examine.proofs.Common.{all_cards, EntryRow, TargetRow, entry_rows, rows_of, target_rows}
use Rattle.std.proofs.lemmas.Grind.{flat_map-append}

flat_twice : {A : Type 0} (f : CardView → List A) (ds : List DeckView) → flat_map (λ d. flat_map f d.cards) ds ≡ flat_map f (flat_map (λ d. d.cards) ds)
flat_twice f [] = refl
flat_twice f (d ∷ ds) = ap (λ t. flat_map f d.cards ++ t) (flat_twice f ds) ∙ sym (flat_map-append f d.cards (flat_map (λ e. e.cards) ds))

pub of_all_cards : {A : Type 0} (f : CardView → List A) (l : LibraryView)
    → flat_map f l.yanks ++ flat_map (λ d. flat_map f d.cards) l.decks ≡ flat_map f (all_cards l)
of_all_cards f l = flat_twice f (all_decks l)

pub entries_own : (l : LibraryView) (is : List Ident) (ys : List CardView) (ds : List DeckView) (rows : List EntryRow) → is ≡ l.idents → ys ≡ l.yanks
    → ds ≡ l.decks
    → rows ≡ flat_map (λ c. entry_rows (ref_of is c) 0 c.history) ys ++ flat_map (λ d. flat_map (λ c. entry_rows (ref_of is c) 0 c.history) d.cards) ds
    → rows ≡ (rows_of l).entries
entries_own l is ys ds rows p q r e =
    e
    ∙ (λ i. flat_map (λ (c : CardView). entry_rows (ref_of (p i) c) 0 c.history) (q i)
    ++ flat_map (λ (d : DeckView). flat_map (λ (c : CardView). entry_rows (ref_of (p i) c) 0 c.history) d.cards) (r i))
    ∙ of_all_cards (λ c. entry_rows (ref_of l.idents c) 0 c.history) l

pub targets_own : (l : LibraryView) (is : List Ident) (ys : List CardView) (ds : List DeckView) (rows : List TargetRow) → is ≡ l.idents → ys ≡ l.yanks
    → ds ≡ l.decks
    → rows ≡ flat_map (λ c. target_rows (ref_of is c) 0 c.targets) ys ++ flat_map (λ d. flat_map (λ c. target_rows (ref_of is c) 0 c.targets) d.cards) ds
    → rows ≡ (rows_of l).targets
targets_own l is ys ds rows p q r e =
    e
    ∙ (λ i. flat_map (λ (c : CardView). target_rows (ref_of (p i) c) 0 c.targets) (q i)
    ++ flat_map (λ (d : DeckView). flat_map (λ (c : CardView). target_rows (ref_of (p i) c) 0 c.targets) d.cards) (r i))
    ∙ of_all_cards (λ c. target_rows (ref_of l.idents c) 0 c.targets) l
