-- What a test of some finds, and the deck that has a card found by serial.
use Rattle.upd_yank.proofs.Common.{◌≡◌, ℕ, zero, suc, Bool, true, false, List, [], ◌∷◌, slice_get, Option, Some, None, refl, list_any, find, Contains}
use Rattle.upd_yank.proofs.Common.{Decides-eqb, at_contained, CardView, DeckView, LibraryView, all_decks, cards_of, is_deck}
use Rattle.upd_core.proofs.ApartLemmas.{find_at}

pub any_at : {A : Type 0} (test : A → Bool) (xs : List A) → list_any test xs ≡ true → (k : ℕ) × (x : A) × (slice_get xs k ≡ Some x) × (test x ≡ true)
any_at test [] e = absurd (cc)
any_at test (x ∷ xs) e = go (test x) refl (any_at test xs)
  where
    go : (b : Bool) → test x ≡ b → (list_any test xs ≡ true → (k : ℕ) × (y : _) × (slice_get xs k ≡ Some y) × (test y ≡ true)) →
        (k : ℕ) × (y : _) × (slice_get (x ∷ xs) k ≡ Some y) × (test y ≡ true)
    go true f later = (zero, x, refl, f)
    go false f later = let found = later (rw f at e) in (suc found.0, found.1, found.2, found.3)

pub cards_found : (l : LibraryView) (age k : ℕ) (b : CardView) → slice_get (cards_of age l) k ≡ Some b →
    (e : DeckView) × Contains (all_decks l) e × (e.ident ≡ age) × Contains e.cards b
cards_found l age k b at = go (find (is_deck age) (all_decks l)) refl
  where
    go : (o : Option DeckView) → find (is_deck age) (all_decks l) ≡ o → (e : DeckView) × Contains (all_decks l) e × (e.ident ≡ age) × Contains e.cards b
    go None f = let none = rw f at at in absurd (cc)
    go (Some e) f =
        let found = find_at (is_deck age) (all_decks l) e f in
        (e, at_contained (all_decks l) found.0 e found.1, (Decides-eqb e.ident age).0 found.2, at_contained e.cards k b (rw f at at))
