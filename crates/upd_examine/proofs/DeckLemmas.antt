-- Held idents at their indices, and the decks of a library as those that its directory holds.
use Rattle.upd_examine.proofs.Common.{◌≡◌, ℕ, zero, suc, ◌+◌, ◌-◌, ◌<◌, ◌≤◌, Bool, true, false, ◌&&◌, List, [], ◌∷◌, map, cond, refl, sym, ap, ◌∙◌, subst}
use Rattle.upd_examine.proofs.Common.{arith, inl, inr, ◌==◌, ◌||◌, ◌⊎◌, IsTrue, or_right, or_cases, eqb-true, eq-eqb, filter, list_any, AllByRecursion, Ident}
use Rattle.upd_examine.proofs.Common.{DeckView, is_deck, AreAgedFrom, is_held, held_at, held_decks, weaker}
use Rattle.std.proofs.Common.{slice_get}
use Rattle.std.specs.Option.{option_map_or}
use Rattle.std.proofs.lemmas.Bool.{and_right, or_from, or_left, eqb-false, ne_eqb}
use Rattle.upd_core.specs.Library.{is_deck_kind}
use Rattle.upd_core.specs.Sound.{AreRising, is_held_deck}

-- ---- held idents at their indices

below : (n z : ℕ) (idents : List Ident) → AreAgedFrom n idents → z < n → is_held idents z ≡ false
below n z [] ages less = refl
below n z (i ∷ rest) ages less =
    let own = ages.0 in
    or_from (i.held && (i.age == z)) (is_held rest z) (and_right i.held (i.age == z) (ne_eqb i.age z (λ e. omega arith)))
    (below (n + 1) z rest ages.1 (omega arith))

at_index : (n z : ℕ) (idents : List Ident) → AreAgedFrom n idents → n ≤ z → is_held idents z ≡ option_map_or (λ i. i.held) (slice_get idents (z - n)) false
at_index n z [] ages from = refl
at_index n z (i ∷ rest) ages from = go (i.age == z) refl (λ later. at_index (n + 1) z rest ages.1 later)
  where
    here : (h : Bool) → ((h && true) || false) ≡ h
    here true = refl
    here false = refl

    there : (h b : Bool) → ((h && false) || b) ≡ b
    there true b = refl
    there false b = refl

    go : (b : Bool) → (i.age == z) ≡ b
        → (n + 1 ≤ z → is_held rest z ≡ option_map_or (λ j. j.held) (slice_get rest (z - (n + 1))) false)
        → is_held (i ∷ rest) z ≡ option_map_or (λ j. j.held) (slice_get (i ∷ rest) (z - n)) false
    go true same further =
        let own = ages.0 in
        let e = eqb-true i.age z same in
        let start : z - n ≡ 0 = omega arith in
        let gone = below (n + 1) z rest ages.1 (omega arith) in
        rw (start, same, gone) (here i.held)
    go false other further =
        let own = ages.0 in
        let ne : n ≡ z → ⊥ = λ e. eqb-false i.age z other (own ∙ e) in
        let later : n + 1 ≤ z = omega arith in
        let distance : z - n ≡ suc (z - (n + 1)) = omega arith in
        rw (distance, other) (there i.held (is_held rest z) ∙ further later)

-- the ident of a serial is held where the one at its index is
pub held_there : (idents : List Ident) (z : ℕ) → AreAgedFrom 1 idents → is_held idents z ≡ held_at idents z
held_there idents zero ages = below 1 0 idents ages (omega arith)
held_there idents (suc z) ages =
    let some : (suc z == 0) ≡ false = ne_eqb (suc z) 0 (λ e. omega arith) in
    rw some (at_index 1 (suc z) idents ages (omega arith))

-- ---- the serials of held decks

-- whether a number is among others
abbrev is_in : List ℕ → ℕ → Bool
is_in ns z = list_any (λ n. n == z) ns

in_held : (z : ℕ) (idents : List Ident) → is_held_deck idents z ≡ is_in (held_decks idents) z
in_held z [] = refl
in_held z (i ∷ rest) = go (i.held && is_deck_kind i.kind) refl (in_held z rest)
  where
    go : (b : Bool) → (i.held && is_deck_kind i.kind) ≡ b → is_held_deck rest z ≡ is_in (held_decks rest) z
        → ((i.held && is_deck_kind i.kind && (i.age == z)) || is_held_deck rest z)
        ≡ is_in (map (λ j. j.age) (cond (i.held && is_deck_kind i.kind) (i ∷ filter (λ j. j.held && is_deck_kind j.kind) rest)
        (filter (λ j. j.held && is_deck_kind j.kind) rest))) z
    go true e later = rw e (ap (λ b. (i.age == z) || b) later)
    go false e later = rw e later

-- the serials of held decks are not below the first of the directory, and rise
held_rise : (n : ℕ) (idents : List Ident) → AreAgedFrom n idents → AllByRecursion (λ m. n ≤ m) (held_decks idents) × AreRising (held_decks idents)
held_rise n [] ages = (tt, tt)
held_rise n (i ∷ rest) ages = go (i.held && is_deck_kind i.kind) (held_rise (n + 1) rest ages.1)
  where
    go : (b : Bool) → AllByRecursion (λ m. n + 1 ≤ m) (held_decks rest) × AreRising (held_decks rest)
        → AllByRecursion (λ m. n ≤ m) (map (λ j. j.age) (cond b (i ∷ filter (λ j. j.held && is_deck_kind j.kind) rest)
        (filter (λ j. j.held && is_deck_kind j.kind) rest)))
        × AreRising (map (λ j. j.age) (cond b (i ∷ filter (λ j. j.held && is_deck_kind j.kind) rest)
        (filter (λ j. j.held && is_deck_kind j.kind) rest)))
    go true later =
        let own = ages.0 in (
          (omega arith, weaker (held_decks rest) (λ m h. omega arith) later.0),
          (weaker (held_decks rest) (λ m h. omega arith) later.0, later.1),
        )
    go false later = (weaker (held_decks rest) (λ m h. omega arith) later.0, later.1)

-- ---- rising numbers are their members

above : (n : ℕ) (ms : List ℕ) → AllByRecursion (λ m. n < m) ms → (z : ℕ) → is_in ms z ≡ true → n < z
above n [] all z e = absurd (cc)
above n (m ∷ ms) all z e = go (or_cases (m == z) (is_in ms z) e) (above n ms all.1 z)
  where
    go : ((m == z) ≡ true) ⊎ (is_in ms z ≡ true) → (is_in ms z ≡ true → n < z) → n < z
    go (inl same) further = let e = eqb-true m z same in let h = all.0 in omega arith
    go (inr later) further = further later

-- the serial of a held deck is not 0
pub held_positive : (idents : List Ident) (z : ℕ) → AreAgedFrom 1 idents → is_held_deck idents z ≡ true → 0 < z
held_positive idents z ages e =
    above 0 (held_decks idents) (weaker (held_decks idents) (λ m h. omega arith) (held_rise 1 idents ages).0) z (sym (in_held z idents) ∙ e)

-- each number of the one is among the other
abbrev AreIn : List ℕ → List ℕ → Type 0
AreIn ms ns = (z : ℕ) → is_in ms z ≡ true → is_in ns z ≡ true

own_in : (m : ℕ) (ms : List ℕ) → is_in (m ∷ ms) m ≡ true
own_in m ms = or_left (m == m) (is_in ms m) (eq-eqb m m refl)

rest_in : (m n : ℕ) (ms ns : List ℕ) → m ≡ n → AllByRecursion (λ k. m < k) ms → AreIn (m ∷ ms) (n ∷ ns) → AreIn ms ns
rest_in m n ms ns same all are z e = go (or_cases (n == z) (is_in ns z) (are z (or_right (m == z) (is_in ms z) e)))
  where
    go : ((n == z) ≡ true) ⊎ (is_in ns z ≡ true) → is_in ns z ≡ true
    go (inl first) = let f = eqb-true n z first in let h = above m ms all z e in absurd (omega arith)
    go (inr later) = later

not_less : (m n : ℕ) (ns : List ℕ) → AllByRecursion (λ k. n < k) ns → is_in (n ∷ ns) m ≡ true → n ≤ m
not_less m n ns all e = go (or_cases (n == m) (is_in ns m) e)
  where
    go : ((n == m) ≡ true) ⊎ (is_in ns m ≡ true) → n ≤ m
    go (inl same) = let f = eqb-true n m same in omega arith
    go (inr later) = let h = above n ns all m later in omega arith

same_rising : (ms ns : List ℕ) → AreRising ms → AreRising ns → AreIn ms ns → AreIn ns ms → ms ≡ ns
same_rising [] [] up vp to from = refl
same_rising [] (n ∷ ns) up vp to from = absurd (none (from n (own_in n ns)))
  where
    none : is_in [] n ≡ true → ⊥
    none e = cc
same_rising (m ∷ ms) [] up vp to from = absurd (none (to m (own_in m ms)))
  where
    none : is_in [] m ≡ true → ⊥
    none e = cc
same_rising (m ∷ ms) (n ∷ ns) up vp to from =
    let less = not_less m n ns vp.0 (to m (own_in m ms)) in
    let more = not_less n m ms up.0 (from n (own_in n ns)) in
    let same : m ≡ n = omega arith in
    let tail = same_rising ms ns up.1 vp.1 (rest_in m n ms ns same up.0 to) (rest_in n m ns ms (sym same) vp.0 from) in
    λ i. same i ∷ tail i

-- ---- decks

any_deck : (z : ℕ) (ds : List DeckView) → list_any (is_deck z) ds ≡ is_in (map (λ d. d.ident) ds) z
any_deck z [] = refl
any_deck z (d ∷ ds) = ap (λ b. (d.ident == z) || b) (any_deck z ds)

each_in : (ds : List DeckView) → AllByRecursion (λ d. is_in (map (λ e. e.ident) ds) d.ident ≡ true) ds
each_in [] = tt
each_in (d ∷ ds) = (
  own_in d.ident (map (λ e. e.ident) ds),
  weaker ds (λ c h. or_right (d.ident == c.ident) (is_in (map (λ e. e.ident) ds) c.ident) h) (each_in ds),
)

-- the decks are those that the directory holds, in order
pub record AreThoseHeld (idents : List Ident) (ds : List DeckView) : Type 0 where
  pub decks : AllByRecursion (λ d. IsTrue (is_held_deck idents d.ident)) ds
  pub positive : AllByRecursion (λ m. 0 < m) (map (λ d. d.ident) ds)
  pub rising : AreRising (map (λ d. d.ident) ds)
  pub standing : (z : ℕ) → IsTrue (is_held_deck idents z) → IsTrue (list_any (is_deck z) ds)

pub decks_held : (idents : List Ident) (ds : List DeckView) → AreAgedFrom 1 idents → held_decks idents ≡ map (λ d. d.ident) ds → AreThoseHeld idents ds
decks_held idents ds ages same =
    let up = held_rise 1 idents ages in
    record {
      decks = weaker ds (λ d h. in_held d.ident idents ∙ ap (λ ns. is_in ns d.ident) same ∙ h) (each_in ds);
      positive = subst (AllByRecursion (λ m. 0 < m)) same (weaker (held_decks idents) (λ m h. omega arith) up.0);
      rising = subst AreRising same up.1;
      standing = λ z h. any_deck z ds ∙ ap (λ ns. is_in ns z) (sym same) ∙ sym (in_held z idents) ∙ h;
    }

into : (idents : List Ident) (ds : List DeckView) → AllByRecursion (λ d. is_held_deck idents d.ident ≡ true) ds → (z : ℕ)
    → is_in (map (λ d. d.ident) ds) z ≡ true → is_held_deck idents z ≡ true
into idents [] all z e = absurd (cc)
into idents (d ∷ ds) all z e = go (or_cases (d.ident == z) (is_in (map (λ c. c.ident) ds) z) e) (into idents ds all.1 z)
  where
    go : ((d.ident == z) ≡ true) ⊎ (is_in (map (λ c. c.ident) ds) z ≡ true) → (is_in (map (λ c. c.ident) ds) z ≡ true → is_held_deck idents z ≡ true)
        → is_held_deck idents z ≡ true
    go (inl same) further = subst (λ n. is_held_deck idents n ≡ true) (eqb-true d.ident z same) all.0
    go (inr later) further = further later

pub held_decks_are : (idents : List Ident) (ds : List DeckView) → AreAgedFrom 1 idents → AreThoseHeld idents ds → held_decks idents ≡ map (λ d. d.ident) ds
held_decks_are idents ds ages are =
    same_rising (held_decks idents) (map (λ d. d.ident) ds) (held_rise 1 idents ages).1 are.rising
    (λ z e. sym (any_deck z ds) ∙ are.standing z (in_held z idents ∙ e)) (λ z e. sym (in_held z idents) ∙ into idents ds are.decks z e)
