-- Cards among others, and decks that are extended: what each edit of a list leaves, and two steps in one.
use Rattle.upd_laws.proofs.Common.{◌≡◌, ℕ, ◌+◌, ◌≤◌, Bool, true, false, cond, List, [], ◌∷◌, ◌++◌, map, length, take, drop, refl, sym, ap, ◌∙◌, arith}
use Rattle.upd_laws.proofs.Common.{append_assoc, append-nil, ◌==◌, insert, AllByRecursion, Entry, Ident, entered, at_first, CardView, DeckView, is_deck}
use Rattle.upd_laws.proofs.Common.{AreAgedFrom, GoesOn, AreAmong, Ended, Kept, Come, DecksGoOn, IsNewDeck}
use Rattle.std.proofs.Common.{add-zero, take-append-drop, take-take}
use Rattle.upd_laws.proofs.SoundListLemmas.{all_append}

-- ---- what holds of all elements

pub all_weaker : {A : Type 0} (P Q : A → Type 0) → ((x : A) → P x → Q x) → (xs : List A) → AllByRecursion P xs → AllByRecursion Q xs
all_weaker P Q w [] a = tt
all_weaker P Q w (x ∷ xs) a = (w x a.0, all_weaker P Q w xs a.1)

pub aged_append : (n : ℕ) (xs ys : List Ident) → AreAgedFrom n xs → AreAgedFrom (n + length xs) ys → AreAgedFrom n (xs ++ ys)
aged_append n [] ys a b = rw add-zero at b
aged_append n (x ∷ xs) ys a b =
    let e : n + length (x ∷ xs) ≡ n + 1 + length xs = omega arith in
    (a.0, aged_append (n + 1) xs ys a.1 (rw e at b))

-- ---- cards

with_history : CardView → List Entry → CardView
with_history c h = record c { history = h }

pub goes_on : (P : ℕ → Type 0) (c : CardView) → GoesOn P c c
unfolding with_history
goes_on P c = ([], tt, ap (with_history c) (sym (append-nil c.history)))

pub goes_on_twice : (P Q : ℕ → Type 0) → ((z : ℕ) → P z → Q z) → (a b c : CardView) → GoesOn P a b → GoesOn Q b c → GoesOn Q a c
unfolding with_history
goes_on_twice P Q w a b c g h =
    let e : with_history b (b.history ++ h.0) ≡ with_history a (a.history ++ g.0 ++ h.0) = ap (λ (x : CardView). with_history x (x.history ++ h.0)) g.2 in (
      g.0 ++ h.0,
      all_append _ g.0 h.0 (all_weaker _ _ (λ e. w e.ident) g.0 g.1) h.1,
      h.2 ∙ e ∙ ap (with_history a) (append_assoc a.history g.0 h.0),
    )

pub among : (P : ℕ → Type 0) (cs : List CardView) → AreAmong P cs cs
among P [] = Ended
among P (c ∷ cs) = Kept (goes_on P c) (among P cs)

pub among_append : (P : ℕ → Type 0) {bs cs ds es : List CardView} → AreAmong P bs cs → AreAmong P ds es → AreAmong P (bs ++ ds) (cs ++ es)
among_append P Ended s = s
among_append P (Kept g r) s = Kept g (among_append P r s)
among_append P (Come n a r) s = Come n a (among_append P r s)

pub among_entered : (P : ℕ → Type 0) (e : Entry) → P e.ident → (cs : List CardView) → AreAmong P cs (map (entered e) cs)
among_entered P e p [] = Ended
among_entered P e p (c ∷ cs) = Kept (e ∷ [], (p, tt), refl) (among_entered P e p cs)

-- a new card anywhere
pub among_insert : (P : ℕ → Type 0) (c : CardView) → P c.ident → AllByRecursion (λ e. P e.ident) c.history
    → (cs : List CardView) (i : ℕ) → AreAmong P cs (insert cs i c)
among_insert P c n a cs i = rw take-append-drop at (among_append P (among P (take i cs)) (Come {d = c} n a (among P (drop i cs))))

parts : (cs : List CardView) (from to : ℕ) → from ≤ to → take from cs ++ drop from (take (to + 1) cs) ++ drop (to + 1) cs ≡ cs
parts cs from to le =
    let front : take from (take (to + 1) cs) ≡ take from cs = take-take from (to + 1) cs (omega arith) in
    let fore : take from cs ++ drop from (take (to + 1) cs) ≡ take (to + 1) cs = rw (← front) (take-append-drop from (take (to + 1) cs)) in
    rw fore (take-append-drop (to + 1) cs)

-- an entry on each card of a range
pub among_range : (P : ℕ → Type 0) (e : Entry) → P e.ident → (cs : List CardView) (from to : ℕ) → from ≤ to
    → AreAmong P cs (take from cs ++ map (entered e) (drop from (take (to + 1) cs)) ++ drop (to + 1) cs)
among_range P e p cs from to le =
    let r = among_append P (among_append P (among P (take from cs)) (among_entered P e p (drop from (take (to + 1) cs)))) (among P (drop (to + 1) cs)) in
    rw (parts cs from to le) at r

newer_twice : (P Q : ℕ → Type 0) → ((z : ℕ) → P z → Q z) → (b c : CardView) → AllByRecursion (λ e. P e.ident) b.history → GoesOn Q b c
    → AllByRecursion (λ e. Q e.ident) c.history
newer_twice P Q w b c a g = rw g.2 (all_append _ b.history g.0 (all_weaker _ _ (λ e. w e.ident) b.history a) g.1)

pub among_twice : (P Q : ℕ → Type 0) → ((z : ℕ) → P z → Q z) → {bs cs ds : List CardView} → AreAmong P bs cs → AreAmong Q cs ds → AreAmong Q bs ds
among_twice P Q w Ended Ended = Ended
among_twice P Q w (Kept g r) (Kept h s) = Kept (goes_on_twice P Q w _ _ _ g h) (among_twice P Q w r s)
among_twice P Q w (Come n a r) (Kept h s) = Come (rw h.2 (w _ n)) (newer_twice P Q w _ _ a h) (among_twice P Q w r s)
among_twice P Q w r (Come m b s) = Come m b (among_twice P Q w r s)

-- ---- decks

pub decks_on : (P : ℕ → Type 0) (ds more : List DeckView) → AllByRecursion (IsNewDeck P) more → DecksGoOn P ds (ds ++ more)
decks_on P [] more a = a
decks_on P (d ∷ ds) more a = (refl, among P d.cards, decks_on P ds more a)

pub decks : (P : ℕ → Type 0) (ds : List DeckView) → DecksGoOn P ds ds
decks P [] = tt
decks P (d ∷ ds) = (refl, among P d.cards, decks P ds)

-- the cards of one deck changed
pub decks_at_first : (P : ℕ → Type 0) (change : List CardView → List CardView) → ((cs : List CardView) → AreAmong P cs (change cs))
    → (k : ℕ) (ds : List DeckView) → DecksGoOn P ds (at_first (is_deck k) (λ d. record d { cards = change d.cards }) ds)
decks_at_first P change r k [] = tt
decks_at_first P change r k (d ∷ ds) = here_or (decks_at_first P change r k ds) (d.ident == k)
  where
    changed : List DeckView
    changed = at_first (is_deck k) (λ e. record e { cards = change e.cards }) ds

    here_or : DecksGoOn P ds changed → (b : Bool) → DecksGoOn P (d ∷ ds) (cond b (record d { cards = change d.cards } ∷ ds) (d ∷ changed))
    here_or later true = (refl, r d.cards, decks P ds)
    here_or later false = (refl, among P d.cards, later)

-- cards among new ones are new where they were new before
cards_newer : (P Q : ℕ → Type 0) → ((z : ℕ) → P z → Q z) → {cs ds : List CardView} → AllByRecursion (λ c. P c.ident) cs → AreAmong Q cs ds
    → AllByRecursion (λ c. Q c.ident) ds
cards_newer P Q w a Ended = tt
cards_newer P Q w a (Kept h r) = (rw h.2 (w _ a.0), cards_newer P Q w a.1 r)
cards_newer P Q w a (Come n b r) = (n, cards_newer P Q w a r)

decks_newer : (P Q : ℕ → Type 0) → ((z : ℕ) → P z → Q z) → (ds es : List DeckView) → AllByRecursion (IsNewDeck P) ds → DecksGoOn Q ds es
    → AllByRecursion (IsNewDeck Q) es
decks_newer P Q w [] es a g = g
decks_newer P Q w (d ∷ ds) [] a g = absurd g
decks_newer P Q w (d ∷ ds) (e ∷ es) a g = ((rw g.0 (w _ a.0.0), cards_newer P Q w a.0.1 g.1), decks_newer P Q w ds es a.1 g.2)

pub decks_twice : (P Q : ℕ → Type 0) → ((z : ℕ) → P z → Q z) → (cs ds es : List DeckView) → DecksGoOn P cs ds → DecksGoOn Q ds es → DecksGoOn Q cs es
decks_twice P Q w [] ds es g h = decks_newer P Q w ds es g h
decks_twice P Q w (c ∷ cs) [] es g h = absurd g
decks_twice P Q w (c ∷ cs) (d ∷ ds) [] g h = absurd h
decks_twice P Q w (c ∷ cs) (d ∷ ds) (e ∷ es) g h = (h.0 ∙ g.0, among_twice P Q w g.1 h.1, decks_twice P Q w cs ds es g.2 h.2)
