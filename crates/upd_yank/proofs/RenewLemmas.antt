-- Active cards made from a part are those of the library after a run.
use Rattle.upd_yank.proofs.Common.{◌≡◌, ℕ, zero, suc, ◌+◌, ◌<◌, ◌≤◌, Bool, true, false, not, ◌&&◌, ◌||◌, cond, if◌then◌else◌, List, [], ◌∷◌, ◌++◌, map}
use Rattle.upd_yank.proofs.Common.{slice_get, Some, None, inl, inr, unwrap_or, refl, ap, sym, ◌∙◌, subst, arith, ◌==◌, ◌⊎◌, list_any, filter, find, flat_map}
use Rattle.upd_yank.proofs.Common.{AllByRecursion, Contains, ne_eqb, or_cases, or_right, Decides-eqb, same_Some, all_at, all_by_index, at_contained}
use Rattle.upd_yank.proofs.Common.{contained_at, status_at, without_past, Serial, counted_card, Ident, CardView, DeckView, LibraryView, all_decks, is_deck}
use Rattle.upd_yank.proofs.Common.{ref_of, part, AreApart, IsSound, is_active, live_targets, CardRef, is_active_deck, CacheView, IsRight, was_active}
use Rattle.std.specs.Option.{option_map}
use Rattle.upd_core.proofs.ApartLemmas.{all_mapped, find_only, rising_apart}
use Rattle.upd_core.specs.Actives.{ActiveDeckView, active_deck, actives_of}
use Rattle.upd_core.specs.Library.{is_deck_kind}
use Rattle.upd_core.specs.Sound.{AreAgedFrom, AreRising, IsWhole, is_held_deck}
use Rattle.upd_yank.proofs.FindLemmas.{any_at}
use Rattle.upd_yank.proofs.WorkLemmas.{all_map}
use Rattle.upd_yank.specs.Renewed.{IsAsBefore, anew_or_before, deck_anew, deck_of_age, renewed}

-- ---- the decks of a part

-- what holds of all elements that pass a test holds of each that passes it
pub all_passed : {A : Type 0} (P : A → Type 0) (test : A → Bool) (xs : List A) (k : ℕ) (x : A) → slice_get xs k ≡ Some x → test x ≡ true →
    AllByRecursion P (filter test xs) → P x
all_passed P test [] k x at pass all = absurd (cc)
all_passed P test (y ∷ xs) zero x at pass all =
    let same = same_Some y x at in
    let here : AllByRecursion P (y ∷ filter test xs) = rw (ap test same ∙ pass) at all in
    subst P same here.0
all_passed P test (y ∷ xs) (suc k) x at pass all = all_passed P test xs k x at pass (later (test y) refl)
  where
    later : (b : Bool) → test y ≡ b → AllByRecursion P (filter test xs)
    later true e = let both : AllByRecursion P (y ∷ filter test xs) = rw e at all in both.1
    later false e = rw e at all

found_kept : (out : Serial → Bool) (a : Serial) (ds : List DeckView) → out a ≡ false →
    find (is_deck a) (filter (λ (d : DeckView). not (out d.ident)) ds) ≡ find (is_deck a) ds
found_kept out a [] stays = refl
found_kept out a (d ∷ ds) stays = go (out d.ident) refl (d.ident == a) refl (found_kept out a ds stays)
  where
    go : (b : Bool) → out d.ident ≡ b → (o : Bool) → (d.ident == a) ≡ o →
        find (is_deck a) (filter (λ (d : DeckView). not (out d.ident)) ds) ≡ find (is_deck a) ds →
        find (is_deck a) (filter (λ (d : DeckView). not (out d.ident)) (d ∷ ds)) ≡ find (is_deck a) (d ∷ ds)
    go true e true f later = absurd (let q = sym e ∙ ap out ((Decides-eqb d.ident a).0 f) ∙ stays in cc)
    go true e false f later = rw (e, f) later
    go false e true f later = rw (e, f) refl
    go false e false f later = rw (e, f) later

none_kept : (out : Serial → Bool) (a : Serial) (ds : List DeckView) → out a ≡ true → find (is_deck a) (filter (λ (d : DeckView). not (out d.ident)) ds) ≡ None
none_kept out a [] goes = refl
none_kept out a (d ∷ ds) goes = go (out d.ident) refl (d.ident == a) refl (none_kept out a ds goes)
  where
    go : (b : Bool) → out d.ident ≡ b → (o : Bool) → (d.ident == a) ≡ o → find (is_deck a) (filter (λ (d : DeckView). not (out d.ident)) ds) ≡ None →
        find (is_deck a) (filter (λ (d : DeckView). not (out d.ident)) (d ∷ ds)) ≡ None
    go true e o f later = rw e later
    go false e true f later = absurd (let q = sym e ∙ ap out ((Decides-eqb d.ident a).0 f) ∙ goes in cc)
    go false e false f later = rw (e, f) later

-- ---- the decks of a directory

-- whether an ident is a held deck
abbrev is_one : Ident → Bool
is_one i = i.held && is_deck_kind i.kind

and_twice : (a b c : Bool) → (a && b && c) ≡ ((a && b) && c)
and_twice true b c = refl
and_twice false b c = refl

first_held : (i : Ident) (idents : List Ident) (z : ℕ) → is_held_deck (i ∷ idents) z ≡ ((is_one i && (i.age == z)) || is_held_deck idents z)
first_held i idents z = ap (λ b. b || is_held_deck idents z) (and_twice i.held (is_deck_kind i.kind) (i.age == z))

held_from : (n z : ℕ) (idents : List Ident) → AreAgedFrom n idents → is_held_deck idents z ≡ true → n ≤ z
held_from n z [] aged held = absurd (cc)
held_from n z (i ∷ idents) aged held =
    go (or_cases (is_one i && (i.age == z)) (is_held_deck idents z) (sym (first_held i idents z) ∙ held)) (held_from (n + 1) z idents aged.1)
  where
    own : (a : Bool) → (a && (i.age == z)) ≡ true → (i.age == z) ≡ true
    own true e = e
    own false e = absurd (cc)

    go : ((is_one i && (i.age == z)) ≡ true) ⊎ (is_held_deck idents z ≡ true) → (is_held_deck idents z ≡ true → n + 1 ≤ z) → n ≤ z
    go (inl here) later = let same = (Decides-eqb i.age z).0 (own (is_one i) here) in omega (arith, same, aged.0)
    go (inr there) later = let more = later there in omega (arith, more)

-- the held decks of a directory from a serial on, in order of serial
record Stand (n : ℕ) (idents : List Ident) (ds : List DeckView) : Type 0 where
  aged : AreAgedFrom n idents
  rising : AreRising (map (λ d. d.ident) ds)
  held : AllByRecursion (λ d. is_held_deck idents d.ident ≡ true) ds
  stands : (z : ℕ) → is_held_deck idents z ≡ true → list_any (is_deck z) ds ≡ true

passed_over : (n : ℕ) (i : Ident) (idents : List Ident) (ds : List DeckView) → Stand n (i ∷ idents) ds → is_one i ≡ false → Stand (n + 1) idents ds
passed_over n i idents ds s none = record {
  aged = s.aged.1;
  rising = s.rising;
  held = all_map (λ d. is_held_deck (i ∷ idents) d.ident ≡ true) (λ d. is_held_deck idents d.ident ≡ true) ds
      (λ d h. sym (first_held i idents d.ident ∙ ap (λ b. (b && (i.age == d.ident)) || is_held_deck idents d.ident) none) ∙ h) s.held;
  stands = λ z h. s.stands z (first_held i idents z ∙ or_right (is_one i && (i.age == z)) (is_held_deck idents z) h);
}

-- a held deck is first
first_stands : (n : ℕ) (i : Ident) (idents : List Ident) (d : DeckView) (ds : List DeckView) → Stand n (i ∷ idents) (d ∷ ds) → is_one i ≡ true →
    i.age ≡ d.ident
first_stands n i idents d ds s one =
    go (or_cases (d.ident == i.age) (list_any (is_deck i.age) ds) (s.stands i.age (first_held i idents i.age
    ∙ (λ k. (one k && own k) || is_held_deck idents i.age))))
  where
    own : (i.age == i.age) ≡ true
    own = (Decides-eqb i.age i.age).1 refl

    go : ((d.ident == i.age) ≡ true) ⊎ (list_any (is_deck i.age) ds ≡ true) → i.age ≡ d.ident
    go (inl here) = sym ((Decides-eqb d.ident i.age).0 here)
    go (inr there) =
        let at = any_at (is_deck i.age) ds there in
        let later = all_at (λ (x : DeckView). d.ident < x.ident) ds at.0 at.1 (all_mapped (λ m. d.ident < m) (λ (x : DeckView). x.ident) ds s.rising.0) at.2 in
        let same = (Decides-eqb at.1.ident i.age).0 at.3 in
        let least = held_from n d.ident (i ∷ idents) s.aged s.held.0 in
        absurd (omega (arith, later, same, least, s.aged.0))

passed_on : (n : ℕ) (i : Ident) (idents : List Ident) (d : DeckView) (ds : List DeckView) → Stand n (i ∷ idents) (d ∷ ds) → i.age ≡ d.ident →
    Stand (n + 1) idents ds
passed_on n i idents d ds s same = record {
  aged = s.aged.1;
  rising = s.rising.1;
  held = others ds (all_mapped (λ m. d.ident < m) (λ (x : DeckView). x.ident) ds s.rising.0) s.held.1;
  stands = λ z h.
      let more = held_from (n + 1) z idents s.aged.1 h in
      let other : (d.ident == z) ≡ false = ne_eqb d.ident z (λ e. omega (arith, e, more, same, s.aged.0)) in
      sym (ap (λ b. b || list_any (is_deck z) ds) other) ∙ s.stands z (first_held i idents z
      ∙ or_right (is_one i && (i.age == z)) (is_held_deck idents z) h);
}
  where
    none : (b : Bool) → (b && false) ≡ false
    none true = refl
    none false = refl

    others : (xs : List DeckView) → AllByRecursion (λ x. d.ident < x.ident) xs → AllByRecursion (λ x. is_held_deck (i ∷ idents) x.ident ≡ true) xs →
        AllByRecursion (λ x. is_held_deck idents x.ident ≡ true) xs
    others [] later held = tt
    others (x ∷ xs) later held =
        let other : (i.age == x.ident) ≡ false = ne_eqb i.age x.ident (λ e. omega (arith, e, later.0, same)) in (
          sym (first_held i idents x.ident ∙ ap (λ b. (is_one i && b) || is_held_deck idents x.ident) other
              ∙ ap (λ b. b || is_held_deck idents x.ident) (none (is_one i))) ∙ held.0,
          others xs later.1 held.1,
        )

-- the decks are met one by one on a walk through the directory
walk : (t : Serial → List ActiveDeckView) (f : DeckView → ActiveDeckView) (n : ℕ) (idents : List Ident) (ds : List DeckView) → Stand n idents ds →
    AllByRecursion (λ d. t d.ident ≡ f d ∷ []) ds → flat_map (λ (i : Ident). if i.held && is_deck_kind i.kind then t i.age else []) idents ≡ map f ds
walk t f n [] [] s each = refl
walk t f n [] (d ∷ ds) s each = absurd (let q = s.held.0 in cc)
walk t f n (i ∷ idents) [] s each = go (is_one i) refl (λ none. walk t f (n + 1) idents [] (passed_over n i idents [] s none) tt)
  where
    rest : List ActiveDeckView
    rest = flat_map (λ (i : Ident). if i.held && is_deck_kind i.kind then t i.age else []) idents

    go : (b : Bool) → is_one i ≡ b → (is_one i ≡ false → rest ≡ []) → (if is_one i then t i.age else []) ++ rest ≡ []
    go false e later = ap (λ b. (if b then t i.age else []) ++ rest) e ∙ later e
    go true e later =
        let own : (i.age == i.age) ≡ true = (Decides-eqb i.age i.age).1 refl in
        let stands = s.stands i.age (first_held i idents i.age ∙ (λ k. (e k && own k) || is_held_deck idents i.age)) in
        absurd (cc)
walk t f n (i ∷ idents) (d ∷ ds) s each =
    go (is_one i) refl (λ none. walk t f (n + 1) idents (d ∷ ds) (passed_over n i idents (d ∷ ds) s none) each)
    (λ same. walk t f (n + 1) idents ds (passed_on n i idents d ds s same) each.1)
  where
    rest : List ActiveDeckView
    rest = flat_map (λ (i : Ident). if i.held && is_deck_kind i.kind then t i.age else []) idents

    go : (b : Bool) → is_one i ≡ b → (is_one i ≡ false → rest ≡ f d ∷ map f ds) → (i.age ≡ d.ident → rest ≡ map f ds) →
        (if is_one i then t i.age else []) ++ rest ≡ f d ∷ map f ds
    go false e over on = ap (λ b. (if b then t i.age else []) ++ rest) e ∙ over e
    go true e over on =
        let same = first_stands n i idents d ds s e in
        ap (λ b. (if b then t i.age else []) ++ rest) e ∙ ap (λ a. t a ++ rest) same ∙ ap (λ x. x ++ rest) each.0 ∙ ap (λ x. f d ∷ x) (on same)

-- ---- the active cards of a deck

-- by stored statuses that are right, the active cards of a deck are its own
pub anew_is : (l : LibraryView) (cache : CacheView) (d : DeckView) → IsSound l → IsRight l cache → Contains (all_decks l) d →
    deck_anew cache.states l.idents d ≡ active_deck (live_targets l) d
anew_is l cache d sound right in_decks =
    ap (λ cs. record { ident = d.ident; cards = map without_past cs }) (same d.cards (λ c is. is))
  where
    same : (cs : List CardView) → ((c : CardView) → Contains cs c → Contains d.cards c) →
        filter (λ c. was_active cache.states (counted_card l.idents d.ident c)) cs ≡ filter (is_active (live_targets l) d.ident) cs
    same [] inside = refl
    same (c ∷ cs) inside =
        let here : was_active cache.states (counted_card l.idents d.ident c) ≡ is_active (live_targets l) d.ident c =
        ap (λ o. unwrap_or o false) (right.status (ref_of l.idents c)
        ∙ status_at l d c sound in_decks (inside c (at_contained (c ∷ cs) zero c refl))) in
        let later = same cs (λ x is. let at = contained_at cs x is in inside x (at_contained (c ∷ cs) (suc at.0) x at.1)) in
        λ i. cond (here i) (c ∷ later i) (later i)

-- ---- all decks

-- by stored statuses, the active cards of each deck that isn't left out are its own
abbrev pub AreAnew : (Serial → Bool) → LibraryView → List (CardRef × Bool) → Type 0
AreAnew out new states =
    (k : ℕ) (d : DeckView) → slice_get new.decks k ≡ Some d → out d.ident ≡ false → deck_anew states new.idents d ≡ active_deck (live_targets new) d

module _ (out : Serial → Bool) (old new : LibraryView) (states : List (CardRef × Bool)) (before : IsSound old) (after : IsSound new) (whole : IsWhole new)
    (anew : AreAnew out new states) (left : AllByRecursion (IsAsBefore old new) (filter (λ d. out d.ident) new.decks)) where
  of_age : (k : ℕ) (d : DeckView) → slice_get new.decks k ≡ Some d → find (is_deck d.ident) new.decks ≡ Some d
  of_age k d at =
      find_only (λ (x : DeckView). x.ident) (is_deck d.ident) new.decks k d (rising_apart (map (λ (x : DeckView). x.ident) new.decks) after.deck_ages.1) at
      ((Decides-eqb d.ident d.ident).1 refl) (λ y is. (Decides-eqb y.ident d.ident).0 is)

  was_there : (d : DeckView) → Contains old.decks d →
      find (is_active_deck d.ident) (map (active_deck (live_targets old)) old.decks) ≡ Some (active_deck (live_targets old) d)
  was_there d is = let at = contained_at old.decks d is in go old.decks at.0 (rising_apart (map (λ (x : DeckView). x.ident) old.decks) before.deck_ages.1) at.1
    where
      go : (ds : List DeckView) (k : ℕ) → AreApart (map (λ (x : DeckView). x.ident) ds) → slice_get ds k ≡ Some d →
          find (is_active_deck d.ident) (map (active_deck (live_targets old)) ds) ≡ Some (active_deck (live_targets old) d)
      go ds k apart at = found_map ds (find_only (λ (x : DeckView). x.ident) (is_deck d.ident) ds k d apart at ((Decides-eqb d.ident d.ident).1 refl)
          (λ y is. (Decides-eqb y.ident d.ident).0 is))
        where
          found_map : (ds : List DeckView) → find (is_deck d.ident) ds ≡ Some d →
              find (is_active_deck d.ident) (map (active_deck (live_targets old)) ds) ≡ Some (active_deck (live_targets old) d)
          found_map [] e = absurd (cc)
          found_map (x ∷ xs) e = own (x.ident == d.ident) refl (found_map xs)
            where
              own : (b : Bool) → (x.ident == d.ident) ≡ b →
                  (find (is_deck d.ident) xs ≡ Some d → find (is_active_deck d.ident) (map (active_deck (live_targets old)) xs)
                  ≡ Some (active_deck (live_targets old) d)) →
                  find (is_active_deck d.ident) (map (active_deck (live_targets old)) (x ∷ xs)) ≡ Some (active_deck (live_targets old) d)
              own true f later = let same = same_Some x d (rw f at e) in rw f (ap (λ y. Some (active_deck (live_targets old) y)) same)
              own false f later = let rest = later (rw f at e) in rw f rest

  one_deck : (k : ℕ) (d : DeckView) → slice_get new.decks k ≡ Some d →
      deck_of_age states (part out new) (actives_of old) d.ident ≡ active_deck (live_targets new) d ∷ []
  one_deck k d at = go (out d.ident) refl
    where
      go : (b : Bool) → out d.ident ≡ b → deck_of_age states (part out new) (actives_of old) d.ident ≡ active_deck (live_targets new) d ∷ []
      go false e =
          ap (λ o. anew_or_before (option_map (deck_anew states new.idents) o) (find (is_active_deck d.ident) (actives_of old).decks))
          (found_kept out d.ident new.decks e ∙ of_age k d at) ∙ ap (λ x. x ∷ []) (anew k d at e)
      go true e =
          let as_before : IsAsBefore old new d = all_passed (IsAsBefore old new) (λ (d : DeckView). out d.ident) new.decks k d at e left in
          (λ i. anew_or_before (option_map (deck_anew states new.idents) (none_kept out d.ident new.decks e i)) (was_there d as_before.0 i))
          ∙ ap (λ x. x ∷ []) as_before.1

  stand : Stand 1 new.idents new.decks
  stand = record {
    aged = after.ages;
    rising = after.deck_ages.1;
    held = after.decks;
    stands = λ z h.
        let some = held_from 1 z new.idents after.ages h in
        let other : (0 == z) ≡ false = ne_eqb 0 z (λ e. omega (arith, e, some)) in
        sym (ap (λ b. b || list_any (is_deck z) new.decks) other) ∙ after.standing whole z h;
  }

  pub renewed_by : renewed states (part out new) (actives_of old) ≡ actives_of new
  renewed_by = ap (λ ds. record { idents = new.idents; decks = ds })
      (walk (deck_of_age states (part out new) (actives_of old)) (active_deck (live_targets new)) 1 new.idents new.decks stand
      (all_by_index new.decks one_deck))

-- by a cache that is right for all
pub renewed_is : (out : Serial → Bool) (old new : LibraryView) (cache : CacheView) → IsSound old → IsSound new → IsWhole new → IsRight new cache →
    AllByRecursion (IsAsBefore old new) (filter (λ d. out d.ident) new.decks) → renewed cache.states (part out new) (actives_of old) ≡ actives_of new
renewed_is out old new cache before after whole right =
    renewed_by out old new cache.states before after whole
    (λ k d at stays. anew_is new cache d after right (at_contained (all_decks new) (suc k) d at))
