-- Purges of pairs: those of one deck may go first, and together.
use Rattle.upd_apply.proofs.Common.{◌≡◌, ℕ, ◌==◌, Bool, true, false, not, List, [], ◌∷◌, LibraryView, refl, ap, sym, ◌∙◌, filter, map, list_any, purged_in_all}
use Rattle.std.proofs.Common.{◌||◌, ◌<◌, ◌≤◌, arith, get_or, length}
use Rattle.std.proofs.lemmas.Bool.Decides.{Decides-eqb}
use Rattle.upd_apply.specs.Purges.{AgesIn, idents_with}
use Rattle.upd_core.specs.Edits.{is_among, purged_among, purged_in, without_idents}
use Rattle.upd_core.specs.First.{at_first}
use Rattle.upd_core.specs.Library.{CardView, DeckView, is_deck, with_cards}
use Rattle.upd_core.specs.declared.card.Entry.{Entry}

both_numbers : (a b c : ℕ) → (a == b) ≡ true → (a == c) ≡ true → (c == b) ≡ true
both_numbers a b c e f = (Decides-eqb c b).1 (sym ((Decides-eqb a c).0 f) ∙ (Decides-eqb a b).0 e)

turned : (a b : ℕ) → (a == b) ≡ (b == a)
turned a b = go (a == b) refl (b == a) refl
  where
    go : (s : Bool) → (a == b) ≡ s → (t : Bool) → (b == a) ≡ t → s ≡ t
    go true e true f = refl
    go true e false f = let g = (Decides-eqb b a).1 (sym ((Decides-eqb a b).0 e)) in cc
    go false e true f = let g = (Decides-eqb a b).1 (sym ((Decides-eqb b a).0 f)) in cc
    go false e false f = refl

joined : (c : CardView) {s t : List Entry} {xs ys : List CardView} → s ≡ t → xs ≡ ys → record c { history = s } ∷ xs ≡ record c { history = t } ∷ ys
joined c {s} {t} {xs} {ys} e f = ap (λ (es : List Entry). record c { history = es } ∷ xs) e ∙ ap (λ zs. record c { history = t } ∷ zs) f

-- ---- two purges of one deck, of the idents that pass g and then f, are one of those that pass h

entries_twice : (f g h : ℕ → Bool) → ((z : ℕ) → h z ≡ (g z || f z)) → (es : List Entry)
    → filter (λ e. not (f e.ident)) (filter (λ e. not (g e.ident)) es) ≡ filter (λ e. not (h e.ident)) es
entries_twice f g h p [] = refl
entries_twice f g h p (e ∷ es) = go (f e.ident) refl (g e.ident) refl (entries_twice f g h p es)
  where
    go : (a : Bool) → f e.ident ≡ a → (b : Bool) → g e.ident ≡ b
        → filter (λ e. not (f e.ident)) (filter (λ e. not (g e.ident)) es) ≡ filter (λ e. not (h e.ident)) es
        → filter (λ e. not (f e.ident)) (filter (λ e. not (g e.ident)) (e ∷ es)) ≡ filter (λ e. not (h e.ident)) (e ∷ es)
    go true i true j later = rw (p e.ident, j) later
    go false i true j later = rw (p e.ident, j) later
    go true i false j later = rw (p e.ident, j, i) later
    go false i false j later = rw (p e.ident, j, i) (ap (λ t. e ∷ t) later)

cards_twice : (f g h : ℕ → Bool) → ((z : ℕ) → h z ≡ (g z || f z)) → (cs : List CardView)
    → without_idents f (without_idents g cs) ≡ without_idents h cs
cards_twice f g h p [] = refl
cards_twice f g h p (c ∷ cs) = go (f c.ident) refl (g c.ident) refl (cards_twice f g h p cs)
  where
    go : (a : Bool) → f c.ident ≡ a → (b : Bool) → g c.ident ≡ b → without_idents f (without_idents g cs) ≡ without_idents h cs
        → without_idents f (without_idents g (c ∷ cs)) ≡ without_idents h (c ∷ cs)
    go true i true j later = rw (p c.ident, j) later
    go false i true j later = rw (p c.ident, j) later
    go true i false j later = rw (p c.ident, j, i) later
    go false i false j later = rw (p c.ident, j, i) (joined c (entries_twice f g h p c.history) later)

-- ---- changes of the cards of one deck

abbrev changed : (List CardView → List CardView) → DeckView → DeckView
changed change d = record d { cards = change d.cards }

first_twice : (k : ℕ) (f g h : List CardView → List CardView) → ((cs : List CardView) → f (g cs) ≡ h cs) → (ds : List DeckView)
    → at_first (is_deck k) (changed f) (at_first (is_deck k) (changed g) ds) ≡ at_first (is_deck k) (changed h) ds
first_twice k f g h p [] = refl
first_twice k f g h p (d ∷ ds) = go (d.ident == k) refl (first_twice k f g h p ds)
  where
    go : (b : Bool) → (d.ident == k) ≡ b
        → at_first (is_deck k) (changed f) (at_first (is_deck k) (changed g) ds) ≡ at_first (is_deck k) (changed h) ds
        → at_first (is_deck k) (changed f) (at_first (is_deck k) (changed g) (d ∷ ds)) ≡ at_first (is_deck k) (changed h) (d ∷ ds)
    go true e later = rw (e, e) (ap (λ cs. record d { cards = cs } ∷ ds) (p d.cards))
    go false e later = rw (e, e) (ap (λ t. d ∷ t) later)

with_cards_twice : (k : ℕ) (f g h : List CardView → List CardView) → ((cs : List CardView) → f (g cs) ≡ h cs) → (l : LibraryView)
    → with_cards k f (with_cards k g l) ≡ with_cards k h l
with_cards_twice k f g h p l = go (k == 0) refl
  where
    go : (b : Bool) → (k == 0) ≡ b → with_cards k f (with_cards k g l) ≡ with_cards k h l
    go true e = rw e (ap (λ cs. record l { yanks = cs }) (p l.yanks))
    go false e = rw e (ap (λ ds. record l { decks = ds }) (first_twice k f g h p l.decks))

-- ---- a purge of no idents

entries_stay : (es : List Entry) → filter (λ e. not (is_among [] e.ident)) es ≡ es
entries_stay [] = refl
entries_stay (e ∷ es) = ap (λ t. e ∷ t) (entries_stay es)

cards_stay : (cs : List CardView) → without_idents (is_among []) cs ≡ cs
cards_stay [] = refl
cards_stay (c ∷ cs) = joined c (entries_stay c.history) (cards_stay cs)

first_stays : (k : ℕ) (f : List CardView → List CardView) → ((cs : List CardView) → f cs ≡ cs) → (ds : List DeckView) → at_first (is_deck k) (changed f) ds ≡ ds
first_stays k f p [] = refl
first_stays k f p (d ∷ ds) = go (d.ident == k) refl (first_stays k f p ds)
  where
    go : (b : Bool) → (d.ident == k) ≡ b → at_first (is_deck k) (changed f) ds ≡ ds → at_first (is_deck k) (changed f) (d ∷ ds) ≡ d ∷ ds
    go true e later = rw e (ap (λ cs. record d { cards = cs } ∷ ds) (p d.cards))
    go false e later = rw e (ap (λ t. d ∷ t) later)

none_purged : (k : ℕ) (l : LibraryView) → purged_among k [] l ≡ l
none_purged k l = go (k == 0) refl
  where
    go : (b : Bool) → (k == 0) ≡ b → purged_among k [] l ≡ l
    go true e = rw e (ap (λ cs. record l { yanks = cs }) (cards_stay l.yanks))
    go false e = rw e (ap (λ ds. record l { decks = ds }) (first_stays k _ cards_stay l.decks))

-- ---- changes of two decks

first_apart : (k m : ℕ) (f g : List CardView → List CardView) → (m == k) ≡ false → (ds : List DeckView)
    → at_first (is_deck k) (changed f) (at_first (is_deck m) (changed g) ds) ≡ at_first (is_deck m) (changed g) (at_first (is_deck k) (changed f) ds)
first_apart k m f g other [] = refl
first_apart k m f g other (d ∷ ds) = go (d.ident == k) refl (d.ident == m) refl (first_apart k m f g other ds)
  where
    go : (a : Bool) → (d.ident == k) ≡ a → (b : Bool) → (d.ident == m) ≡ b
        → at_first (is_deck k) (changed f) (at_first (is_deck m) (changed g) ds) ≡ at_first (is_deck m) (changed g) (at_first (is_deck k) (changed f) ds)
        → at_first (is_deck k) (changed f) (at_first (is_deck m) (changed g) (d ∷ ds))
        ≡ at_first (is_deck m) (changed g) (at_first (is_deck k) (changed f) (d ∷ ds))
    go true i true j later = let same = both_numbers d.ident k m i j in absurd (cc)
    go true i false j later = rw (i, j, i) refl
    go false i true j later = rw (i, j, i) refl
    go false i false j later = rw (i, j, i) (ap (λ t. d ∷ t) later)

with_cards_apart : (k m : ℕ) (f g : List CardView → List CardView) → (m == k) ≡ false → (l : LibraryView)
    → with_cards k f (with_cards m g l) ≡ with_cards m g (with_cards k f l)
with_cards_apart k m f g other l = go (k == 0) refl (m == 0) refl
  where
    go : (a : Bool) → (k == 0) ≡ a → (b : Bool) → (m == 0) ≡ b → with_cards k f (with_cards m g l) ≡ with_cards m g (with_cards k f l)
    go true i true j = let same = both_numbers 0 k m (rw (turned 0 k) i) (rw (turned 0 m) j) in absurd (cc)
    go true i false j = rw (i, j) refl
    go false i true j = rw (i, j) refl
    go false i false j = rw (i, j) (ap (λ ds. record l { decks = ds }) (first_apart k m f g other l.decks))

-- ---- a list of pairs

-- the pairs with another deck than d
abbrev pub others : ℕ → List AgesIn → List AgesIn
others d pairs = filter (λ a. not (a.deck == d)) pairs

-- the purges of one deck go first, as one
pub purged_apart : (d : ℕ) (pairs : List AgesIn) (l : LibraryView)
    → purged_in_all (others d pairs) (purged_among d (idents_with d pairs) l) ≡ purged_in_all pairs l
purged_apart d [] l = none_purged d l
purged_apart d (a ∷ more) l =
    go (a.deck == d) refl (purged_apart d more (purged_in a.deck a.ident l))
  where
    zs : List ℕ
    zs = idents_with d more

    once : a.deck ≡ d → purged_among d zs (purged_in a.deck a.ident l) ≡ purged_among d (a.ident ∷ zs) l
    once e = ap (λ k. purged_among d zs (purged_in k a.ident l)) e
        ∙ with_cards_twice d (without_idents (is_among zs)) (without_idents (λ x. x == a.ident)) (without_idents (is_among (a.ident ∷ zs)))
        (cards_twice (is_among zs) (λ x. x == a.ident) (is_among (a.ident ∷ zs)) (λ z. ap (λ b. b || is_among zs z) (turned a.ident z))) l

    go : (b : Bool) → (a.deck == d) ≡ b
        → purged_in_all (others d more) (purged_among d zs (purged_in a.deck a.ident l)) ≡ purged_in_all more (purged_in a.deck a.ident l)
        → purged_in_all (others d (a ∷ more)) (purged_among d (idents_with d (a ∷ more)) l) ≡ purged_in_all (a ∷ more) l
    go true e later = rw e (ap (purged_in_all (others d more)) (sym (once ((Decides-eqb a.deck d).0 e))) ∙ later)
    go false e later =
        rw e (ap (purged_in_all (others d more)) (sym (with_cards_apart d a.deck (without_idents (is_among zs))
        (without_idents (λ x. x == a.ident)) e l)) ∙ later)

no_more : (test : AgesIn → Bool) (pairs : List AgesIn) → length (filter test pairs) ≤ length pairs
no_more test [] = omega arith
no_more test (a ∷ more) = go (test a) refl (no_more test more)
  where
    go : (b : Bool) → test a ≡ b → length (filter test more) ≤ length more → length (filter test (a ∷ more)) ≤ length (a ∷ more)
    go true e later = rw e (omega (arith, later))
    go false e later = rw e (omega (arith, later))

-- the first pair is not among those with another deck than its own
pub others_fewer : (d : ℕ) (pairs : List AgesIn) (a other : AgesIn) → 0 < length pairs → a ≡ get_or pairs 0 other → a.deck ≡ d
    → length (others d pairs) < length pairs
others_fewer d [] a other some first is = omega (arith, some)
others_fewer d (b ∷ more) a other some first is =
    let same : (b.deck == d) ≡ true = (Decides-eqb b.deck d).1 (sym (ap (λ (p : AgesIn). p.deck) first) ∙ is) in
    let later = no_more (λ p. not (p.deck == d)) more in
    rw same (omega (arith, later))
