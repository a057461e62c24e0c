-- A run leaves the old cards of each deck in their order, but for those of idents that it purges.
use Rattle.upd_laws.proofs.Common.{◌≡◌, ℕ, ◌+◌, Bool, true, false, not, ◌&&◌, if◌then◌else◌, cond, List, [], ◌∷◌, map, length, refl, sym, ap, ◌∙◌, arith}
use Rattle.upd_laws.proofs.Common.{lt-leb, ◌==◌, nat_le, option_map_or, filter, find, AllByRecursion, Ident, decks_without, purged, purged_in, unheld}
use Rattle.upd_laws.proofs.Common.{without_idents, at_first, CardView, DeckView, LibraryView, all_decks, cards_of, is_deck, ItemView, LineView, State}
use Rattle.upd_laws.proofs.Common.{Reached, applied, started, Edit, Purges, PurgesIn, carried, ended, purged_in_all, step, Fits, of_step, purges_keep}
use Rattle.upd_laws.proofs.Common.{steps_keep, AreAmong, DecksGoOn, IsNewDeck, Ended, Kept, Come}
use Rattle.std.proofs.Common.{Some, Ok}
use Rattle.std.proofs.lemmas.List.{length-map}
use Rattle.upd_laws.specs.KeptCards.{KeepsCards, plain_cards, without_history}
use Rattle.upd_laws.proofs.BackLibraryLemmas.{Grows, Within}
use Rattle.upd_laws.proofs.BackStepLemmas.{Next, Ready, edit_next}
use Rattle.upd_laws.proofs.SoundCardLemmas.{changed, decks_with, idents_with}
use Rattle.upd_laws.proofs.SoundListLemmas.{is_same_number, same_number}
use Rattle.upd_laws.proofs.SoundRunLemmas.{reached_by}

-- ---- filters

filter_both : {A : Type 0} (p q : A → Bool) (xs : List A) → filter p (filter q xs) ≡ filter (λ x. q x && p x) xs
filter_both p q [] = refl
filter_both p q (x ∷ xs) = go (q x) refl (p x) refl (filter_both p q xs)
  where
    go : (b : Bool) → q x ≡ b → (c : Bool) → p x ≡ c → filter p (filter q xs) ≡ filter (λ x. q x && p x) xs
        → filter p (filter q (x ∷ xs)) ≡ filter (λ x. q x && p x) (x ∷ xs)
    go true e true f later = rw (e, f) (ap (λ ys. x ∷ ys) later)
    go true e false f later = rw (e, f) later
    go false e c f later = rw e later

filter_turn : {A : Type 0} (p q : A → Bool) (xs : List A) → filter p (filter q xs) ≡ filter q (filter p xs)
filter_turn p q [] = refl
filter_turn p q (x ∷ xs) = go (q x) refl (p x) refl (filter_turn p q xs)
  where
    go : (b : Bool) → q x ≡ b → (c : Bool) → p x ≡ c → filter p (filter q xs) ≡ filter q (filter p xs)
        → filter p (filter q (x ∷ xs)) ≡ filter q (filter p (x ∷ xs))
    go true e true f later = rw (e, f) (rw e (ap (λ ys. x ∷ ys) later))
    go true e false f later = rw (e, f) later
    go false e true f later = rw (e, f) (rw e later)
    go false e false f later = rw (e, f) later

no_filter : {A : Type 0} (xs : List A) → [] ≡ filter (λ x. false) xs
no_filter [] = refl
no_filter (x ∷ xs) = no_filter xs

-- ---- growth

-- the cards of idents up to n
abbrev old : ℕ → CardView → Bool
old n c = nat_le c.ident n

-- without their histories
abbrev bare : List CardView → List CardView
bare cards = map without_history cards

-- the cards of the first deck of an age among these
abbrev in_decks : ℕ → List DeckView → List CardView
in_decks d ds = option_map_or (λ (e : DeckView). e.cards) (find (is_deck d) ds) []

not_old : (n m z : ℕ) → Within (n + 1) m z → nat_le z n ≡ false
not_old n m z w = lt-leb z n (omega (arith, w.0))

among_old : (n m : ℕ) {cs ds : List CardView} → AreAmong (Within (n + 1) m) cs ds → filter (old n) (bare ds) ≡ filter (old n) (bare cs)
among_old n m Ended = refl
among_old n m (Kept {c = c} {d = d} {cs = cs} {ds = ds} g r) =
    let same : without_history d ≡ without_history c = ap without_history g.2 in
    ap (λ b. filter (old n) (b ∷ bare ds)) same
    ∙ ap (λ xs. if old n (without_history c) then without_history c ∷ xs else xs) (among_old n m r)
among_old n m (Come {d = d} new all r) = rw (not_old n m d.ident new) (among_old n m r)

none_old : (n m : ℕ) (cs : List CardView) → AllByRecursion (λ c. Within (n + 1) m c.ident) cs → filter (old n) (bare cs) ≡ []
none_old n m [] new = refl
none_old n m (c ∷ cs) new = rw (not_old n m c.ident new.0) (none_old n m cs new.1)

new_decks_old : (n m d : ℕ) (es : List DeckView) → AllByRecursion (IsNewDeck (Within (n + 1) m)) es → filter (old n) (bare (in_decks d es)) ≡ []
new_decks_old n m d [] new = refl
new_decks_old n m d (e ∷ es) new = go (e.ident == d) refl (new_decks_old n m d es new.1)
  where
    go : (b : Bool) → (e.ident == d) ≡ b → filter (old n) (bare (in_decks d es)) ≡ [] → filter (old n) (bare (in_decks d (e ∷ es))) ≡ []
    go true f later = rw f (none_old n m e.cards new.0.1)
    go false f later = rw f later

decks_old : (n m d : ℕ) (ds es : List DeckView) → DecksGoOn (Within (n + 1) m) ds es
    → filter (old n) (bare (in_decks d es)) ≡ filter (old n) (bare (in_decks d ds))
decks_old n m d [] es g = new_decks_old n m d es g
decks_old n m d (a ∷ ds) [] g = absurd g
decks_old n m d (a ∷ ds) (e ∷ es) g = go (a.ident == d) refl (decks_old n m d ds es g.2)
  where
    same : (e.ident == d) ≡ (a.ident == d)
    same = ap (λ z. z == d) g.0

    go : (b : Bool) → (a.ident == d) ≡ b → filter (old n) (bare (in_decks d es)) ≡ filter (old n) (bare (in_decks d ds))
        → filter (old n) (bare (in_decks d (e ∷ es))) ≡ filter (old n) (bare (in_decks d (a ∷ ds)))
    go true f later = let h : (e.ident == d) ≡ true = same ∙ f in rw (f, h) (among_old n m g.1)
    go false f later = let h : (e.ident == d) ≡ false = same ∙ f in rw (f, h) later

grown_old : (n d : ℕ) (l m : LibraryView) → Grows (n + 1) l m → filter (old n) (plain_cards d m) ≡ filter (old n) (plain_cards d l)
grown_old n d l m g = go (0 == d)
  where
    cards_in : Bool → LibraryView → List CardView
    cards_in own k = option_map_or (λ (e : DeckView). e.cards) (cond own (Some (record { ident = 0; cards = k.yanks })) (find (is_deck d) k.decks)) []

    go : (b : Bool) → filter (old n) (bare (cards_in b m)) ≡ filter (old n) (bare (cards_in b l))
    go true = among_old n (length m.idents) g.yanks
    go false = decks_old n (length m.idents) d l.decks m.decks g.decks

-- ---- purges

-- a deck has the cards that it had, but for all cards of some idents
abbrev Loses : ℕ → LibraryView → LibraryView → Type 0
Loses d l m = (gone : ℕ → Bool) × (plain_cards d m ≡ filter (λ c. not (gone c.ident)) (plain_cards d l))

bare_without : (gone : ℕ → Bool) (cs : List CardView) → bare (without_idents gone cs) ≡ filter (λ c. not (gone c.ident)) (bare cs)
bare_without gone [] = refl
bare_without gone (c ∷ cs) = go (gone c.ident) refl (bare_without gone cs)
  where
    go : (b : Bool) → gone c.ident ≡ b → bare (without_idents gone cs) ≡ filter (λ c. not (gone c.ident)) (bare cs)
        → bare (without_idents gone (c ∷ cs)) ≡ filter (λ c. not (gone c.ident)) (bare (c ∷ cs))
    go true e later = rw e later
    go false e later = rw e (ap (λ xs. without_history c ∷ xs) later)

-- decks without the ones of purged idents have none of such an age, and of any other age what is left of it
deck_gone : (gone : ℕ → Bool) (d : ℕ) (ds : List DeckView) → gone d ≡ true → in_decks d (decks_without gone ds) ≡ []
deck_gone gone d [] is = refl
deck_gone gone d (e ∷ ds) is = go (gone e.ident) refl (e.ident == d) refl (deck_gone gone d ds is)
  where
    go : (b : Bool) → gone e.ident ≡ b → (c : Bool) → (e.ident == d) ≡ c → in_decks d (decks_without gone ds) ≡ []
        → in_decks d (decks_without gone (e ∷ ds)) ≡ []
    go true f c g later = rw f later
    go false f true g later = absurd (let bad = sym f ∙ ap gone (same_number e.ident d g) ∙ is in cc)
    go false f false g later = rw (f, g) later

deck_left : (gone : ℕ → Bool) (d : ℕ) (ds : List DeckView) → gone d ≡ false → in_decks d (decks_without gone ds) ≡ without_idents gone (in_decks d ds)
deck_left gone d [] stays = refl
deck_left gone d (e ∷ ds) stays = go (gone e.ident) refl (e.ident == d) refl (deck_left gone d ds stays)
  where
    go : (b : Bool) → gone e.ident ≡ b → (c : Bool) → (e.ident == d) ≡ c → in_decks d (decks_without gone ds) ≡ without_idents gone (in_decks d ds)
        → in_decks d (decks_without gone (e ∷ ds)) ≡ without_idents gone (in_decks d (e ∷ ds))
    go true f true g later = absurd (let bad = sym f ∙ ap gone (same_number e.ident d g) ∙ stays in cc)
    go true f false g later = rw (f, g) later
    go false f true g later = rw (f, g) refl
    go false f false g later = rw (f, g) later

purged_loses : (gone : ℕ → Bool) (d : ℕ) (l : LibraryView) → Loses d l (purged gone l)
purged_loses gone d l = go (0 == d) (gone d) refl
  where
    cards_in : Bool → List CardView → List DeckView → List CardView
    cards_in own ys ds = option_map_or (λ (e : DeckView). e.cards) (cond own (Some (record { ident = 0; cards = ys })) (find (is_deck d) ds)) []

    go : (own b : Bool) → gone d ≡ b → (less : ℕ → Bool) × (bare (cards_in own (without_idents gone l.yanks) (decks_without gone l.decks))
        ≡ filter (λ c. not (less c.ident)) (bare (cards_in own l.yanks l.decks)))
    go true b e = (gone, bare_without gone l.yanks)
    go false true e = ((λ _. true), ap bare (deck_gone gone d l.decks e) ∙ no_filter (bare (in_decks d l.decks)))
    go false false e = (gone, ap bare (deck_left gone d l.decks e) ∙ bare_without gone (in_decks d l.decks))

-- the cards of a deck where one deck is changed
changed_here : (k d : ℕ) (change : List CardView → List CardView) (ds : List DeckView) → change [] ≡ [] → (k == d) ≡ true
    → in_decks d (at_first (is_deck k) (changed change) ds) ≡ change (in_decks d ds)
changed_here k d change [] none same = sym none
changed_here k d change (e ∷ ds) none same = go (e.ident == k) refl (changed_here k d change ds none same)
  where
    to : (e.ident == d) ≡ (e.ident == k)
    to = ap (λ z. e.ident == z) (sym (same_number k d same))

    go : (b : Bool) → (e.ident == k) ≡ b → in_decks d (at_first (is_deck k) (changed change) ds) ≡ change (in_decks d ds)
        → in_decks d (at_first (is_deck k) (changed change) (e ∷ ds)) ≡ change (in_decks d (e ∷ ds))
    go true f later = let g : (e.ident == d) ≡ true = to ∙ f in rw (f, g) refl
    go false f later = let g : (e.ident == d) ≡ false = to ∙ f in rw (f, g) later

changed_elsewhere : (k d : ℕ) (change : List CardView → List CardView) (ds : List DeckView) → (k == d) ≡ false
    → in_decks d (at_first (is_deck k) (changed change) ds) ≡ in_decks d ds
changed_elsewhere k d change [] other = refl
changed_elsewhere k d change (e ∷ ds) other = go (e.ident == k) refl (e.ident == d) refl (changed_elsewhere k d change ds other)
  where
    go : (b : Bool) → (e.ident == k) ≡ b → (c : Bool) → (e.ident == d) ≡ c → in_decks d (at_first (is_deck k) (changed change) ds) ≡ in_decks d ds
        → in_decks d (at_first (is_deck k) (changed change) (e ∷ ds)) ≡ in_decks d (e ∷ ds)
    go true f true g later = absurd (let bad = sym other ∙ is_same_number k d (sym (same_number e.ident k f) ∙ same_number e.ident d g) in cc)
    go true f false g later = rw (f, g) refl
    go false f true g later = rw (f, g) refl
    go false f false g later = rw (f, g) later

stays_same : {A : Type 0} (xs : List A) → xs ≡ filter (λ x. true) xs
stays_same [] = refl
stays_same (x ∷ xs) = ap (λ ys. x ∷ ys) (stays_same xs)

purged_in_loses : (k z d : ℕ) (l : LibraryView) → Loses d l (purged_in k z l)
purged_in_loses k z d l = go (k == d) refl
  where
    gone : ℕ → Bool
    gone x = x == z

    after : cards_of d (purged_in k z l) ≡ in_decks d (at_first (is_deck k) (changed (without_idents gone)) (all_decks l))
    after = ap (in_decks d) (decks_with k (without_idents gone) l)

    go : (b : Bool) → (k == d) ≡ b → Loses d l (purged_in k z l)
    go true e = (gone, ap bare (after ∙ changed_here k d (without_idents gone) (all_decks l) refl e) ∙ bare_without gone (cards_of d l))
    go false e = ((λ _. false), ap bare (after ∙ changed_elsewhere k d (without_idents gone) (all_decks l) e) ∙ stays_same (plain_cards d l))

-- ---- steps

abbrev of_idents : (ℕ → Bool) → CardView → Bool
of_idents stays c = stays c.ident

abbrev other_than : (ℕ → Bool) → CardView → Bool
other_than gone c = not (gone c.ident)

-- what was kept so far, once more is lost
kept_less : (d : ℕ) (l m k : LibraryView) → KeepsCards l m d → Loses d m k → KeepsCards l k d
kept_less d l m k kept less = (
  (λ z. kept.0 z && not (less.0 z)),
  ap (filter (old (length l.idents))) less.1 ∙ filter_turn (old (length l.idents)) (other_than less.0) (plain_cards d m)
      ∙ ap (filter (other_than less.0)) kept.1 ∙ filter_both (other_than less.0) (of_idents kept.0) (plain_cards d l),
)

-- a state on the way of a run on l: all that it adds is of idents that l has not, and each deck keeps its old cards
record IsKeeping (l : LibraryView) (s : State) : Type 0 where
  ready : Ready (length l.idents + 1) s
  cards : (d : ℕ) → KeepsCards l s.library d

-- a purge leaves nothing in hand
ended_keeping : (l m : LibraryView) (s : State) → IsKeeping l s → length m.idents ≡ length s.library.idents → ((d : ℕ) → KeepsCards l m d)
    → IsKeeping l (ended m)
ended_keeping l m s keeping same cards =
    record { ready = record { from = omega (arith, keeping.ready.from, same); current_set = tt; insert_point = tt }; cards = cards }

purged_keeping : (gone : ℕ → Bool) (l : LibraryView) (s : State) → IsKeeping l s → IsKeeping l (ended (purged gone s.library))
purged_keeping gone l s keeping =
    ended_keeping l (purged gone s.library) s keeping (length-map {B = Ident} s.library.idents (unheld gone))
    (λ d. kept_less d l s.library (purged gone s.library) (keeping.cards d) (purged_loses gone d s.library))

grown_keeping : (l : LibraryView) (s t : State) → IsKeeping l s → Next (length l.idents + 1) s t → IsKeeping l t
grown_keeping l s t keeping next = record {
  ready = next.ready;
  cards = λ d. let kept = keeping.cards d in (kept.0, grown_old (length l.idents) d s.library t.library next.library ∙ kept.1);
}

edit_keeping : (item : ItemView) (text : List ℕ) (l : LibraryView) (s : State) (e : Edit) → Fits item text s e → IsKeeping l s → IsKeeping l (carried e s)
edit_keeping item text l s (Purges gone) fits keeping = purged_keeping gone l s keeping
edit_keeping item text l s (PurgesIn ages) fits keeping =
    let same = purges_keep (λ m. m.idents ≡ s.library.idents) ages s.library (λ a m e. idents_with a.deck (without_idents (λ x. x == a.ident)) m ∙ e) refl in
    ended_keeping l (purged_in_all ages s.library) s keeping (ap length same) (λ d. purges_keep (λ m. KeepsCards l m d) ages s.library
    (λ a m kept. kept_less d l m (purged_in a.deck a.ident m) kept (purged_in_loses a.deck a.ident d m)) (keeping.cards d))
edit_keeping item text l s e fits keeping =
    grown_keeping l s (carried e s) keeping (edit_next (length l.idents + 1) item text s e fits keeping.ready refl)

line_keeping : (l : LibraryView) (line : LineView) (s t : State) → IsKeeping l s → step line s ≡ Ok t → IsKeeping l t
line_keeping l line s t keeping h = of_step (IsKeeping l) line s t h (λ e fits within. edit_keeping line.item line.text l s e fits keeping)

pub run_keeps_cards : (lines : List LineView) (l : LibraryView) (r : Reached) (d : ℕ) → applied lines l ≡ Ok r → KeepsCards l r.library d
run_keeps_cards lines l r d h =
    reached_by (λ m. KeepsCards l m d) lines l r (λ s e. (steps_keep (IsKeeping l) lines (started l) s (line_keeping l) (record {
      ready = record { from = omega arith; current_set = tt; insert_point = tt };
      cards = λ d. ((λ z. nat_le z (length l.idents)), refl);
    }) e).cards d) h
