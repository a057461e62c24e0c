-- What each edit does to the cards of a library.
use Rattle.upd_laws.proofs.Common.{◌≡◌, ℕ, zero, suc, ◌+◌, ◌-◌, ◌<◌, ◌≤◌, Bool, true, false, not, ◌||◌, List, [], ◌∷◌, ◌++◌, map, length, take, drop, inl}
use Rattle.upd_laws.proofs.Common.{inr, refl, sym, ap, ◌∙◌, subst, arith, append_assoc, ne_eqb, or_cases, or_left, or_right, Some, ◌==◌, ◌⊎◌, insert, IsTrue}
use Rattle.upd_laws.proofs.Common.{option_map_or, list_any, find, filter, AllByRecursion, AllZip, Entry, Ident, unheld, entered, without_entries}
use Rattle.upd_laws.proofs.Common.{without_idents, deck_without, decks_without, purged, with_card, with_deck, with_yank, entered_range, with_entries}
use Rattle.upd_laws.proofs.Common.{at_first, CardView, DeckView, LibraryView, all_decks, cards_of, is_deck, with_cards, is_held, stands, BeginsOn}
use Rattle.upd_laws.proofs.Common.{BeginsWithItsOwn, HasNoTargets, IsOfHeld, key_of, all_cards, all_front, all_back, flat}
use Rattle.std.proofs.lemmas.List.{take-append-drop}
use Rattle.upd_laws.proofs.SoundListLemmas.{same_number, is_same_number, other_number, all_append, all_each, all_flat, HasMore, more_front, IsPart, none, fewer}
use Rattle.upd_laws.proofs.SoundListLemmas.{kept, part_append, part_without, zip_same, at_first_all, at_first_any, at_first_find, at_first_more, at_first_zip}
use Rattle.upd_laws.proofs.SoundIdentLemmas.{held_still}
pub use Rattle.upd_apply.proofs.DirectoryLemmas.{idents_with}

-- a deck with its cards changed
abbrev pub changed : (List CardView → List CardView) → DeckView → DeckView
changed change d = record d { cards = change d.cards }

-- ---- the cards of one deck changed

-- `YANK$$$` is the first of all decks
pub decks_with : (age : ℕ) (change : List CardView → List CardView) (l : LibraryView)
    → all_decks (with_cards age change l) ≡ at_first (is_deck age) (changed change) (all_decks l)
decks_with age change l = go (age == 0) refl
  where
    front : DeckView
    front = record { ident = 0; cards = l.yanks }

    go : (b : Bool) → (age == 0) ≡ b → all_decks (with_cards age change l) ≡ at_first (is_deck age) (changed change) (all_decks l)
    go true e = let f : is_deck age front ≡ true = is_same_number 0 age (sym (same_number age 0 e)) in rw (e, f) refl
    go false e = let f : is_deck age front ≡ false = ne_eqb 0 age (λ same. other_number age 0 e (sym same)) in rw (e, f) refl

pub rest_with : (age : ℕ) (change : List CardView → List CardView) (l : LibraryView) → (with_cards age change l).rest ≡ l.rest
rest_with age change l = go (age == 0) refl
  where
    go : (b : Bool) → (age == 0) ≡ b → (with_cards age change l).rest ≡ l.rest
    go true e = rw e refl
    go false e = rw e refl

-- the yank cards, where another deck changed, or where the change keeps what holds of them
pub yanks_with : (age : ℕ) (change : List CardView → List CardView) (l : LibraryView) → (age ≡ 0 → ⊥) → (with_cards age change l).yanks ≡ l.yanks
yanks_with age change l other = let e : (age == 0) ≡ false = ne_eqb age 0 other in rw e refl

pub yanks_kept : (P : CardView → Type 0) (age : ℕ) (change : List CardView → List CardView) (l : LibraryView) → AllByRecursion P (change l.yanks)
    → AllByRecursion P l.yanks → AllByRecursion P (with_cards age change l).yanks
yanks_kept P age change l after before = go (age == 0) refl
  where
    go : (b : Bool) → (age == 0) ≡ b → AllByRecursion P (with_cards age change l).yanks
    go true e = rw e after
    go false e = rw e before

pub standing_with : (age : ℕ) (change : List CardView → List CardView) (l : LibraryView) → stands age (with_cards age change l) ≡ stands age l
standing_with age change l = ap (list_any (is_deck age)) (decks_with age change l) ∙ at_first_any (is_deck age) (changed change) (all_decks l) (λ d. refl)

-- whether a deck is in the library depends only on the serials
pub standing_by_ages : (d : ℕ) (ds es : List DeckView) → map (λ (e : DeckView). e.ident) ds ≡ map (λ (e : DeckView). e.ident) es
    → list_any (is_deck d) ds ≡ list_any (is_deck d) es
standing_by_ages d ds es same = by_ages ds ∙ ap (list_any (λ a. a == d)) same ∙ sym (by_ages es)
  where
    by_ages : (ds : List DeckView) → list_any (is_deck d) ds ≡ list_any (λ a. a == d) (map (λ (e : DeckView). e.ident) ds)
    by_ages [] = refl
    by_ages (e ∷ ds) = ap (λ b. is_deck d e || b) (by_ages ds)

-- a deck that isn't gone is there after a purge
pub standing_still : (gone : ℕ → Bool) (d : ℕ) (ds : List DeckView) → gone d ≡ false → list_any (is_deck d) ds ≡ true
    → list_any (is_deck d) (decks_without gone ds) ≡ true
standing_still gone d [] stays e = absurd (cc)
standing_still gone d (x ∷ ds) stays e = go (gone x.ident) refl (or_cases (is_deck d x) (list_any (is_deck d) ds) e) (standing_still gone d ds stays)
  where
    go : (b : Bool) → gone x.ident ≡ b → (is_deck d x ≡ true) ⊎ (list_any (is_deck d) ds ≡ true)
        → (list_any (is_deck d) ds ≡ true → list_any (is_deck d) (decks_without gone ds) ≡ true) → list_any (is_deck d) (decks_without gone (x ∷ ds)) ≡ true
    go true f (inl g) rest = let same = ap gone (same_number x.ident d g) in absurd (cc)
    go true f (inr g) rest = rw f (rest g)
    go false f (inl g) rest = rw f (or_left (is_deck d x) (list_any (is_deck d) (decks_without gone ds)) g)
    go false f (inr g) rest = rw f (or_right (is_deck d x) (list_any (is_deck d) (decks_without gone ds)) (rest g))

find_standing : {A : Type 0} (test : A → Bool) (xs : List A) → list_any test xs ≡ true → (x : A) × (find test xs ≡ Some x)
find_standing test [] e = absurd (cc)
find_standing test (x ∷ xs) e = go (test x) refl (find_standing test xs)
  where
    go : (b : Bool) → test x ≡ b → (list_any test xs ≡ true → (y : _) × (find test xs ≡ Some y)) → (y : _) × (find test (x ∷ xs) ≡ Some y)
    go true f rest = (x, rw f refl)
    go false f rest = let r = rest (rw f at e) in (r.0, rw f r.1)

pub cards_with : (age : ℕ) (change : List CardView → List CardView) (l : LibraryView) → stands age l ≡ true
    → cards_of age (with_cards age change l) ≡ change (cards_of age l)
cards_with age change l e =
    let found = find_standing (is_deck age) (all_decks l) e in
    let after : find (is_deck age) (all_decks (with_cards age change l)) ≡ Some (changed change found.0) =
    ap (find (is_deck age)) (decks_with age change l) ∙ at_first_find (is_deck age) (changed change) (all_decks l) found.0 (λ d. refl) found.1 in
    ap (λ o. option_map_or (λ (d : DeckView). d.cards) o []) after ∙ ap (λ o. change (option_map_or (λ (d : DeckView). d.cards) o [])) (sym found.1)

-- a deck of which a card is found is there
pub standing : (age : ℕ) (l : LibraryView) (n : ℕ) → n < length (cards_of age l) → stands age l ≡ true
standing age l n h = go (all_decks l) h
  where
    go : (ds : List DeckView) → n < length (option_map_or (λ (d : DeckView). d.cards) (find (is_deck age) ds) []) → list_any (is_deck age) ds ≡ true
    go [] h = absurd (omega arith)
    go (d ∷ ds) h = one (is_deck age d) refl (go ds)
      where
        one : (b : Bool) → is_deck age d ≡ b
            → (n < length (option_map_or (λ (d : DeckView). d.cards) (find (is_deck age) ds) []) → list_any (is_deck age) ds ≡ true)
            → list_any (is_deck age) (d ∷ ds) ≡ true
        one true e rest = rw e refl
        one false e rest = rw e (rest (rw e at h))

-- ---- a new card

pub insert_more : (c : CardView) (cards : List CardView) (n : ℕ) → HasMore c cards (insert cards n c)
insert_more c cards n = record { front = take n cards; back = drop n cards; was = sym (take-append-drop n cards); is = refl }

pub more_with_card : (d behind : ℕ) (c : CardView) (l : LibraryView) → stands d l ≡ true → HasMore c (all_cards l) (all_cards (with_card d behind c l))
more_with_card d behind c l e =
    let change : List CardView → List CardView = λ cards. insert cards (length cards - behind) c in
    subst (λ ds. HasMore c (all_cards l) (flat ds)) (sym (decks_with d change l))
    (at_first_more (λ (e : DeckView). e.cards) (is_deck d) (changed change) c (all_decks l) e (λ x. insert_more c x.cards (length x.cards - behind)))

pub more_with_yank : (c : CardView) (l : LibraryView) → HasMore c (all_cards l) (all_cards (with_yank c l))
more_with_yank c l = record { front = l.yanks; back = flat l.decks; was = refl; is = append_assoc l.yanks (c ∷ []) (flat l.decks) }

pub more_with_deck : (a : ℕ) (c : CardView) (l : LibraryView) → HasMore c (all_cards l) (all_cards (with_deck (record { ident = a; cards = c ∷ [] }) l))
more_with_deck a c l = more_front c (flat l.decks) (flat (l.decks ++ d ∷ [])) l.yanks (at_end l.decks)
  where
    d : DeckView
    d = record { ident = a; cards = c ∷ [] }

    at_end : (ds : List DeckView) → HasMore c (flat ds) (flat (ds ++ d ∷ []))
    at_end [] = record { front = []; back = []; was = refl; is = refl }
    at_end (e ∷ ds) = more_front c (flat ds) (flat (ds ++ d ∷ [])) e.cards (at_end ds)

-- ---- an entry on some cards

abbrev pub IsEntered : Entry → CardView → CardView → Type 0
IsEntered e x y = (y ≡ x) ⊎ (y ≡ entered e x)

pub entered_some : (e : Entry) (from to : ℕ) (cards : List CardView) → from ≤ to
    → AllZip (IsEntered e) cards (take from cards ++ map (entered e) (drop from (take to cards)) ++ drop to cards)
entered_some e zero zero cards h = zip_same (IsEntered e) (λ c. inl refl) cards
entered_some e zero (suc to) [] h = tt
entered_some e zero (suc to) (c ∷ cards) h = (inr refl, entered_some e zero to cards (omega arith))
entered_some e (suc from) zero cards h = absurd (omega arith)
entered_some e (suc from) (suc to) [] h = tt
entered_some e (suc from) (suc to) (c ∷ cards) h = (inl refl, entered_some e from to cards (omega arith))

pub zip_with_entries : (d from to : ℕ) (e : Entry) (l : LibraryView) → from ≤ to → AllZip (IsEntered e) (all_cards l) (all_cards (with_entries d from to e l))
zip_with_entries d from to e l h =
    let change : List CardView → List CardView = entered_range from to e in
    subst (λ ds. AllZip (IsEntered e) (all_cards l) (flat ds)) (sym (decks_with d change l))
    (at_first_zip (IsEntered e) (λ (x : DeckView). x.cards) (is_deck d) (changed change) (all_decks l) (λ c. inl refl)
    (λ x. entered_some e from (to + 1) x.cards (omega arith)))

-- ---- a purge

pub all_without : (P Q : CardView → Type 0) (gone : ℕ → Bool) (cards : List CardView)
    → ((c : CardView) → gone c.ident ≡ false → P c → Q (without_entries gone c)) → AllByRecursion P cards → AllByRecursion Q (without_idents gone cards)
all_without P Q gone [] k all = tt
all_without P Q gone (c ∷ cards) k all = go (gone c.ident) refl (all_without P Q gone cards k all.1)
  where
    go : (b : Bool) → gone c.ident ≡ b → AllByRecursion Q (without_idents gone cards) → AllByRecursion Q (without_idents gone (c ∷ cards))
    go true e rest = rw e rest
    go false e rest = rw e (k c e all.0, rest)

pub keys_without : (gone : ℕ → Bool) (cards : List CardView) → IsPart key_of cards (without_idents gone cards)
keys_without gone [] = none
keys_without gone (c ∷ cards) = go (gone c.ident) refl (keys_without gone cards)
  where
    go : (b : Bool) → gone c.ident ≡ b → IsPart key_of cards (without_idents gone cards) → IsPart key_of (c ∷ cards) (without_idents gone (c ∷ cards))
    go true e rest = rw e (fewer rest)
    go false e rest = rw e (kept refl rest)

pub keys_decks : (gone : ℕ → Bool) (ds : List DeckView) → IsPart key_of (flat ds) (flat (decks_without gone ds))
keys_decks gone [] = none
keys_decks gone (d ∷ ds) = go (gone d.ident) refl (keys_decks gone ds)
  where
    go : (b : Bool) → gone d.ident ≡ b → IsPart key_of (flat ds) (flat (decks_without gone ds))
        → IsPart key_of (flat (d ∷ ds)) (flat (decks_without gone (d ∷ ds)))
    go true e rest = rw e (part_without key_of d.cards rest)
    go false e rest = rw e (part_append key_of (keys_without gone d.cards) rest)

pub ages_decks : (gone : ℕ → Bool) (ds : List DeckView) → IsPart (λ (d : DeckView). d.ident) ds (decks_without gone ds)
ages_decks gone [] = none
ages_decks gone (d ∷ ds) = go (gone d.ident) refl (ages_decks gone ds)
  where
    go : (b : Bool) → gone d.ident ≡ b → IsPart (λ (d : DeckView). d.ident) ds (decks_without gone ds)
        → IsPart (λ (d : DeckView). d.ident) (d ∷ ds) (decks_without gone (d ∷ ds))
    go true e rest = rw e (fewer rest)
    go false e rest = rw e (kept refl rest)

pub all_decks_without : (P Q : DeckView → Type 0) (gone : ℕ → Bool) (ds : List DeckView)
    → ((d : DeckView) → gone d.ident ≡ false → P d → Q (deck_without gone d)) → AllByRecursion P ds → AllByRecursion Q (decks_without gone ds)
all_decks_without P Q gone [] k all = tt
all_decks_without P Q gone (d ∷ ds) k all = go (gone d.ident) refl (all_decks_without P Q gone ds k all.1)
  where
    go : (b : Bool) → gone d.ident ≡ b → AllByRecursion Q (decks_without gone ds) → AllByRecursion Q (decks_without gone (d ∷ ds))
    go true e rest = rw e rest
    go false e rest = rw e (k d e all.0, rest)

-- what a purge keeps of each card
pub all_purged : (P Q : CardView → Type 0) (gone : ℕ → Bool) (l : LibraryView) → ((c : CardView) → gone c.ident ≡ false → P c → Q (without_entries gone c))
    → AllByRecursion P (all_cards l) → AllByRecursion Q (all_cards (purged gone l))
all_purged P Q gone l k all =
    all_append Q (without_idents gone l.yanks) (flat (decks_without gone l.decks))
    (all_without P Q gone l.yanks k (all_front P l.yanks (flat l.decks) all))
    (all_flat Q (λ (d : DeckView). d.cards) (decks_without gone l.decks)
    (all_decks_without (λ (d : DeckView). AllByRecursion P d.cards) _ gone l.decks (λ d e h. all_without P Q gone d.cards k h)
    (all_each P (λ (d : DeckView). d.cards) l.decks (all_back P l.yanks (flat l.decks) all))))

-- the same in one deck
pub all_purged_in : (P : CardView → Type 0) (d : ℕ) (gone : ℕ → Bool) (l : LibraryView)
    → ((c : CardView) → gone c.ident ≡ false → P c → P (without_entries gone c)) → AllByRecursion P (all_cards l)
    → AllByRecursion P (all_cards (with_cards d (without_idents gone) l))
all_purged_in P d gone l k all =
    subst (λ ds. AllByRecursion P (flat ds)) (sym (decks_with d (without_idents gone) l))
    (all_flat P (λ (e : DeckView). e.cards) _
    (at_first_all (is_deck d) (changed (without_idents gone)) (λ e. AllByRecursion P e.cards) (all_decks l) (λ e f h. all_without P P gone e.cards k h)
    (all_each P (λ (e : DeckView). e.cards) (all_decks l) all)))

-- a deck's cards still have no targets
pub plain_without : (gone : ℕ → Bool) (d : DeckView) → HasNoTargets d → HasNoTargets (record d { cards = without_idents gone d.cards })
plain_without gone d all = all_without (λ (c : CardView). c.targets ≡ []) (λ c. c.targets ≡ []) gone d.cards (λ c e h. h) all

-- a card is of held idents after a purge, too
pub held_without : (gone : ℕ → Bool) (idents : List Ident) (c : CardView) → gone c.ident ≡ false → IsOfHeld idents c
    → IsOfHeld (map (unheld gone) idents) (without_entries gone c)
held_without gone idents c stays held = (held_still gone idents c.ident stays held.0, entries c.history held.1)
  where
    entries : (es : List Entry) → AllByRecursion (λ e. IsTrue (is_held idents e.ident)) es
        → AllByRecursion (λ e. IsTrue (is_held (map (unheld gone) idents) e.ident)) (filter (λ e. not (gone e.ident)) es)
    entries [] held = tt
    entries (e ∷ es) held = one (gone e.ident) refl (entries es held.1)
      where
        one : (b : Bool) → gone e.ident ≡ b → AllByRecursion (λ e. IsTrue (is_held (map (unheld gone) idents) e.ident)) (filter (λ e. not (gone e.ident)) es)
            → AllByRecursion (λ e. IsTrue (is_held (map (unheld gone) idents) e.ident)) (filter (λ e. not (gone e.ident)) (e ∷ es))
        one true f rest = rw f rest
        one false f rest = rw f (held_still gone idents e.ident f held.0, rest)

-- a history begins with its card's ident as long as the card stays, and with entries appended
pub begins_without : (gone : ℕ → Bool) (c : CardView) → gone c.ident ≡ false → BeginsOn c → BeginsOn (without_entries gone c)
begins_without gone c stays begins = go c.history begins
  where
    go : (es : List Entry) → BeginsOn (record c { history = es }) → BeginsOn (record c { history = filter (λ e. not (gone e.ident)) es })
    go [] begins = absurd begins
    go (e ∷ es) begins = let f : gone e.ident ≡ false = ap gone begins.0 ∙ stays in rw f begins

pub begins_entered : (e : Entry) (x y : CardView) → IsEntered e x y → BeginsOn x → BeginsOn y
begins_entered e x y (inl same) begins = subst BeginsOn (sym same) begins
begins_entered e x y (inr same) begins = subst BeginsOn (sym same) (go x.history begins)
  where
    go : (es : List Entry) → BeginsOn (record x { history = es }) → BeginsOn (record x { history = es ++ e ∷ [] })
    go [] begins = absurd begins
    go (f ∷ es) begins = begins

-- the first card of a deck stays where its ident does
pub first_without : (gone : ℕ → Bool) (d : DeckView) → gone d.ident ≡ false → BeginsWithItsOwn d
    → BeginsWithItsOwn (record d { cards = without_idents gone d.cards })
first_without gone d e first = go d.cards first
  where
    go : (cards : List CardView) → BeginsWithItsOwn (record d { cards = cards }) → BeginsWithItsOwn (record d { cards = without_idents gone cards })
    go [] first = absurd first
    go (c ∷ cards) first = let f : gone c.ident ≡ false = ap gone first.0 ∙ e in rw f first
