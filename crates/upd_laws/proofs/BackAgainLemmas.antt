-- Purging back restores a library that has only grown, and runs without new idents change nothing.
use Rattle.upd_laws.proofs.Common.{◌≡◌, ℕ, ◌<◌, ◌≤◌, Bool, false, ◌&&◌, List, [], ◌∷◌, ◌++◌, map, length, refl, ap, ◌∙◌, arith, append-nil, length-append}
use Rattle.upd_laws.proofs.Common.{nat_le, AllByRecursion, bytes_eq, Entry, CardRef, Ident, next_age, purged_back, unheld, CardView, DeckView, LibraryView}
use Rattle.upd_laws.proofs.Common.{held_named, GoesOn, AreAmong, Ended, Kept, Come, DecksGoOn, IsNewDeck, IsAgain}
use Rattle.upd_core.specs.Status.{status_of}
use Rattle.upd_laws.proofs.BackGrowthLemmas.{all_weaker}
use Rattle.upd_laws.proofs.BackLibraryLemmas.{Within, Grows}
use Rattle.upd_laws.proofs.BackOldLemmas.{IsOld, ages_below}
use Rattle.upd_laws.proofs.BackPurgeLemmas.{cards_back, decks_back, idents_back, none_held, none_found}

-- ---- the library restored

pub again : (l m : LibraryView) → IsOld (next_age l) l → Grows (next_age l) l m → IsAgain l (purged_back (next_age l) m)
again l m old g =
    let x = next_age l in
    let new : AllByRecursion (λ i. x ≤ i.age) g.brought = all_weaker _ _ (λ i w. w.0) g.brought (ages_below x g.brought g.ages) in
    record {
      gone = map (unheld (nat_le x)) g.brought;
      idents = ap (map (unheld (nat_le x))) g.idents ∙ idents_back x l.idents g.brought old.idents;
      unheld = none_held x g.brought new;
      decks = decks_back x (length m.idents) l.decks m.decks old.decks g.decks;
      yanks = cards_back x (length m.idents) old.yanks g.yanks;
      rest = g.rest;
    }

same_status : (l m : LibraryView) (card : CardRef) → held_named card.name m.idents ≡ held_named card.name l.idents → m.decks ≡ l.decks
    → m.yanks ≡ l.yanks → status_of card m ≡ status_of card l
same_status l m card h d y = rw (h, d, y) refl

pub status_again : (l m : LibraryView) → IsAgain l m → (card : CardRef) → status_of card m ≡ status_of card l
status_again l m a card =
    let test : Ident → Bool = λ i. i.held && bytes_eq i.name card.name in
    let none : AllByRecursion (λ i. test i ≡ false) a.gone = all_weaker _ _ (λ i e. rw e refl) a.gone a.unheld in
    same_status l m card (rw a.idents (none_found test l.idents a.gone none)) a.decks a.yanks

-- ---- nothing new

nothing : {A : Type 0} (P : A → Type 0) → ((x : A) → P x → ⊥) → (xs : List A) → AllByRecursion P xs → xs ≡ []
nothing P none [] a = refl
nothing P none (x ∷ xs) a = absurd (none x a.0)

none_left : {A : Type 0} (xs : List A) → length xs ≡ 0 → xs ≡ []
none_left [] e = refl
none_left (x ∷ xs) e = absurd (omega arith)

same_card : (P : ℕ → Type 0) → ((z : ℕ) → P z → ⊥) → (c d : CardView) → GoesOn P c d → d ≡ c
same_card P none c d g =
    let e = nothing (λ (e : Entry). P e.ident) (λ e. none e.ident) g.0 g.1 in
    g.2 ∙ ap (λ (h : List Entry). record c { history = c.history ++ h }) e ∙ ap (λ (h : List Entry). record c { history = h }) (append-nil c.history)

same_cards : (P : ℕ → Type 0) → ((z : ℕ) → P z → ⊥) → {cs ds : List CardView} → AreAmong P cs ds → ds ≡ cs
same_cards P none Ended = refl
same_cards P none (Kept {c = c} {d = d} g r) = cc (same_card P none c d g, same_cards P none r)
same_cards P none (Come {d = d} new all r) = absurd (none d.ident new)

same_deck : (d e : DeckView) → e.ident ≡ d.ident → e.cards ≡ d.cards → e ≡ d
same_deck d e p q = λ t. record { ident = p t; cards = q t }

same_decks : (P : ℕ → Type 0) → ((z : ℕ) → P z → ⊥) → (ds es : List DeckView) → DecksGoOn P ds es → es ≡ ds
same_decks P none [] es g = nothing (IsNewDeck P) (λ d new. none d.ident new.0) es g
same_decks P none (d ∷ ds) [] g = absurd g
same_decks P none (d ∷ ds) (e ∷ es) g = cc (same_deck d e g.0 (same_cards P none g.1), same_decks P none ds es g.2)

pub same_library : (x : ℕ) (l m : LibraryView) → length l.idents < x → length m.idents ≡ length l.idents → Grows x l m → m ≡ l
same_library x l m old same g =
    let none : (z : ℕ) → Within x (length m.idents) z → ⊥ = λ z w. omega arith in
    let e : g.brought ≡ [] = none_left g.brought (omega (arith, ap length g.idents, length-append l.idents g.brought)) in
    let idents : m.idents ≡ l.idents = g.idents ∙ ap (λ (i : List Ident). l.idents ++ i) e ∙ append-nil l.idents in
    let decks = same_decks _ none l.decks m.decks g.decks in
    let yanks = same_cards _ none g.yanks in
    λ t. record { idents = idents t; decks = decks t; yanks = yanks t; rest = g.rest t }
