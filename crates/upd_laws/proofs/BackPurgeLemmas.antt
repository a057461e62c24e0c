-- A purge of an ident and of all younger ones removes what is of them, and leaves what is older.
use Rattle.upd_laws.proofs.Common.{◌≡◌, ℕ, ◌<◌, ◌≤◌, Bool, false, not, cond, List, [], ◌∷◌, ◌++◌, map, refl, ap, nat_le, AllByRecursion, filter, find, lt-leb}
use Rattle.upd_laws.proofs.Common.{Entry, Ident, without_entries, without_idents, decks_without, unheld, CardView, DeckView, GoesOn, AreAmong, Ended, Kept}
use Rattle.upd_laws.proofs.Common.{Come, DecksGoOn, IsNewDeck}
use Rattle.std.proofs.Common.{leb, Option, Some, le-leb}
use Rattle.std.proofs.Math.Bool.{and-true, and-false}
use Rattle.upd_laws.proofs.BackLibraryLemmas.{Within}

-- ---- what is older than x

abbrev pub IsOldCard : ℕ → CardView → Type 0
IsOldCard x c = (c.ident < x) × AllByRecursion (λ e. e.ident < x) c.history

abbrev pub IsOldDeck : ℕ → DeckView → Type 0
IsOldDeck x d = (d.ident < x) × AllByRecursion (IsOldCard x) d.cards

-- ---- entries

kept_entries : ℕ → List Entry → List Entry
kept_entries x es = filter (λ e. not (nat_le x e.ident)) es

entries_back : (x n : ℕ) (es more : List Entry) → AllByRecursion (λ e. e.ident < x) es → AllByRecursion (λ e. Within x n e.ident) more
    → kept_entries x (es ++ more) ≡ es
unfolding kept_entries
entries_back x n [] [] old new = refl
entries_back x n [] (e ∷ more) old new = rw (le-leb x e.ident new.0.0) (entries_back x n [] more tt new.1)
entries_back x n (e ∷ es) more old new = rw (lt-leb x e.ident old.0) (ap (λ (l : List Entry). e ∷ l) (entries_back x n es more old.1 new))

-- ---- cards

card_back : (x n : ℕ) (c d : CardView) → IsOldCard x c → GoesOn (Within x n) c d → without_entries (nat_le x) d ≡ c
unfolding kept_entries
card_back x n c d old g = rw g.2 (ap (λ (h : List Entry). record c { history = h }) (entries_back x n c.history g.0 old.1 g.1))

pub cards_back : (x n : ℕ) {cs ds : List CardView} → AllByRecursion (IsOldCard x) cs → AreAmong (Within x n) cs ds → without_idents (nat_le x) ds ≡ cs
cards_back x n old Ended = refl
cards_back x n old (Kept {c = c} {d = d} g r) =
    let same : d.ident ≡ c.ident = ap (λ (y : CardView). y.ident) g.2 in
    let older : leb x d.ident ≡ false = lt-leb x d.ident (rw same old.0.0) in
    rw older (cc (card_back x n c d old.0 g, cards_back x n old.1 r))
cards_back x n old (Come {d = d} new all r) = rw (le-leb x d.ident new.0) (cards_back x n old r)

-- ---- decks

deck_is : (i : ℕ) (cs : List CardView) (d : DeckView) → i ≡ d.ident → cs ≡ d.cards → ◌≡◌ {A = DeckView} (record { ident = i; cards = cs }) d
deck_is i cs d p q = λ t. record { ident = p t; cards = q t }

decks_gone : (x n : ℕ) (es : List DeckView) → AllByRecursion (IsNewDeck (Within x n)) es → decks_without (nat_le x) es ≡ []
decks_gone x n [] a = refl
decks_gone x n (e ∷ es) a = rw (le-leb x e.ident a.0.0.0) (decks_gone x n es a.1)

pub decks_back : (x n : ℕ) (ds es : List DeckView) → AllByRecursion (IsOldDeck x) ds → DecksGoOn (Within x n) ds es → decks_without (nat_le x) es ≡ ds
decks_back x n [] es old g = decks_gone x n es g
decks_back x n (d ∷ ds) [] old g = absurd g
decks_back x n (d ∷ ds) (e ∷ es) old g =
    let older : leb x e.ident ≡ false = lt-leb x e.ident (rw g.0 old.0.0) in
    let same = deck_is e.ident (without_idents (nat_le x) e.cards) d g.0 (cards_back x n old.0.1 g.1) in
    rw older (cc (same, decks_back x n ds es old.1 g.2))

-- ---- the directory

pub idents_back : (x : ℕ) (is more : List Ident) → AllByRecursion (λ i. i.age < x) is
    → map (unheld (nat_le x)) (is ++ more) ≡ is ++ map (unheld (nat_le x)) more
idents_back x [] more old = refl
idents_back x (i ∷ is) more old =
    rw (lt-leb x i.age old.0, and-true i.held) (ap (λ (l : List Ident). i ∷ l) (idents_back x is more old.1))

pub none_held : (x : ℕ) (more : List Ident) → AllByRecursion (λ i. x ≤ i.age) more → AllByRecursion (λ i. i.held ≡ false) (map (unheld (nat_le x)) more)
none_held x [] new = tt
none_held x (i ∷ more) new = (rw (le-leb x i.age new.0) (and-false i.held), none_held x more new.1)

pub none_found : (test : Ident → Bool) (is gone : List Ident) → AllByRecursion (λ i. test i ≡ false) gone → find test (is ++ gone) ≡ find test is
none_found test [] [] none = refl
none_found test [] (i ∷ gone) none = rw none.0 (none_found test [] gone none.1)
none_found test (i ∷ is) gone none = ap (λ (o : Option Ident). cond (test i) (Some i) o) (none_found test is gone none)
