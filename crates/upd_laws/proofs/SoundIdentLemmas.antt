-- The directory: its serials, the names that are held, which idents are held, and how it is extended.
use Rattle.upd_laws.proofs.Common.{◌≡◌, ℕ, ◌+◌, ◌<◌, ◌≤◌, Bool, true, false, cond, not, ◌&&◌, List, [], ◌∷◌, ◌++◌, map, length, inl, inr, refl, sym, ap, ◌∙◌}
use Rattle.upd_laws.proofs.Common.{subst, arith, or_cases, or_left, or_right, Option, Some, None, is_some, ◌==◌, ◌⊎◌, bytes_eq, filter, find, AllByRecursion}
use Rattle.upd_laws.proofs.Common.{Ident, unheld, held_named, is_deck_kind, AreApart, AreAgedFrom, is_held, is_held_deck}
use Rattle.std.proofs.lemmas.List.Elements.{filter-append}
use Rattle.std.proofs.lemmas.Slice.Eq.{bytes_eq-Decides}
use Rattle.upd_laws.proofs.SoundListLemmas.{and_left, and_right, both, same_number, is_same_number, apart_end, all_filter, all_map, all_weaker, IsPart, none}
use Rattle.upd_laws.proofs.SoundListLemmas.{fewer, kept, any_end, any_front, any_last, any_mapped, any_weaker, find_none_end, find_none_mapped}

-- ---- serials

pub ages_end : (n : ℕ) (idents : List Ident) (i : Ident) → AreAgedFrom n idents → i.age ≡ length idents + n → AreAgedFrom n (idents ++ i ∷ [])
ages_end n [] i ages e = (omega arith, tt)
ages_end n (j ∷ idents) i ages e = (ages.0, ages_end (n + 1) idents i ages.1 (omega arith))

pub ages_unheld : (gone : ℕ → Bool) (n : ℕ) (idents : List Ident) → AreAgedFrom n idents → AreAgedFrom n (map (unheld gone) idents)
ages_unheld gone n [] ages = tt
ages_unheld gone n (i ∷ idents) ages = (ages.0, ages_unheld gone (n + 1) idents ages.1)

-- the serial of a held ident is its place
pub held_within : (n : ℕ) (idents : List Ident) (z : ℕ) → AreAgedFrom n idents → is_held idents z ≡ true → (n ≤ z) × (z < n + length idents)
held_within n [] z ages e = absurd (cc)
held_within n (i ∷ idents) z ages e = go (or_cases (i.held && (i.age == z)) (is_held idents z) e) (held_within (n + 1) idents z ages.1)
  where
    go : ((i.held && (i.age == z)) ≡ true) ⊎ (is_held idents z ≡ true) → (is_held idents z ≡ true → (n + 1 ≤ z) × (z < (n + 1) + length idents))
        → (n ≤ z) × (z < n + length (i ∷ idents))
    go (inl f) rest = let same = same_number i.age z (and_right i.held (i.age == z) f) in (omega (arith, ages.0), omega (arith, ages.0))
    go (inr f) rest = let r = rest f in (omega arith, omega arith)

-- ---- which idents are held

pub held_more : (idents more : List Ident) (z : ℕ) → is_held idents z ≡ true → is_held (idents ++ more) z ≡ true
held_more idents more z e = any_front _ idents more e

pub held_deck_more : (idents more : List Ident) (z : ℕ) → is_held_deck idents z ≡ true → is_held_deck (idents ++ more) z ≡ true
held_deck_more idents more z e = any_front _ idents more e

pub held_last : (idents : List Ident) (i : Ident) → i.held ≡ true → is_held (idents ++ i ∷ []) i.age ≡ true
held_last idents i e = any_last _ idents i (both i.held (i.age == i.age) e (is_same_number i.age i.age refl))

pub held_deck_last : (idents : List Ident) (i : Ident) → i.held ≡ true → is_deck_kind i.kind ≡ true → is_held_deck (idents ++ i ∷ []) i.age ≡ true
held_deck_last idents i e k = any_last _ idents i (rw (e, k, is_same_number i.age i.age refl) refl)

pub held_deck_held : (idents : List Ident) (z : ℕ) → is_held_deck idents z ≡ true → is_held idents z ≡ true
held_deck_held idents z e = any_weaker _ _ idents (λ i f. go i f) e
  where
    go : (i : Ident) → (i.held && is_deck_kind i.kind && (i.age == z)) ≡ true → (i.held && (i.age == z)) ≡ true
    go i f =
        let deck = and_left (i.held && is_deck_kind i.kind) (i.age == z) f in
        both i.held (i.age == z) (and_left i.held (is_deck_kind i.kind) deck) (and_right (i.held && is_deck_kind i.kind) (i.age == z) f)

-- a held deck of a directory with one ident more
pub held_deck_end : (idents : List Ident) (i : Ident) (z : ℕ) → is_held_deck (idents ++ i ∷ []) z ≡ true
    → (is_held_deck idents z ≡ true) ⊎ ((is_deck_kind i.kind ≡ true) × (i.age ≡ z))
held_deck_end idents i z e = elim (any_end _ idents i e) [
  | inl f ↦ inl f
  | inr f ↦ inr (
    and_right i.held (is_deck_kind i.kind) (and_left (i.held && is_deck_kind i.kind) (i.age == z) f),
    same_number i.age z (and_right (i.held && is_deck_kind i.kind) (i.age == z) f),
  )
]

-- a deck that is held after a purge was held, and isn't gone
pub held_deck_was : (gone : ℕ → Bool) (idents : List Ident) (z : ℕ) → is_held_deck (map (unheld gone) idents) z ≡ true
    → (is_held_deck idents z ≡ true) × (gone z ≡ false)
held_deck_was gone [] z e = absurd (cc)
held_deck_was gone (i ∷ idents) z e = go (or_cases _ (is_held_deck (map (unheld gone) idents) z) e) (held_deck_was gone idents z)
  where
    first : (h s d b : Bool) → ((h && not s) && d && b) ≡ true → ((h && d && b) ≡ true) × (s ≡ false) × (b ≡ true)
    first true false true true e = (refl, refl, refl)
    first true false true false e = absurd (cc)
    first true false false b e = absurd (cc)
    first true true d b e = absurd (cc)
    first false s d b e = absurd (cc)

    go : (((i.held && not (gone i.age)) && is_deck_kind i.kind && (i.age == z)) ≡ true) ⊎ (is_held_deck (map (unheld gone) idents) z ≡ true)
        → (is_held_deck (map (unheld gone) idents) z ≡ true → (is_held_deck idents z ≡ true) × (gone z ≡ false))
        → (is_held_deck (i ∷ idents) z ≡ true) × (gone z ≡ false)
    go (inl f) rest =
        let parts = first i.held (gone i.age) (is_deck_kind i.kind) (i.age == z) f in
        (or_left _ (is_held_deck idents z) parts.0, subst (λ a. gone a ≡ false) (same_number i.age z parts.2) parts.1)
    go (inr f) rest = let r = rest f in (or_right (i.held && is_deck_kind i.kind && (i.age == z)) (is_held_deck idents z) r.0, r.1)

pub held_still : (gone : ℕ → Bool) (idents : List Ident) (z : ℕ) → gone z ≡ false → is_held idents z ≡ true → is_held (map (unheld gone) idents) z ≡ true
held_still gone idents z stays e = any_mapped _ _ (unheld gone) idents (λ i f. go i f) e
  where
    go : (i : Ident) → (i.held && (i.age == z)) ≡ true → ((i.held && not (gone i.age)) && (i.age == z)) ≡ true
    go i f =
        let same : i.age ≡ z = same_number i.age z (and_right i.held (i.age == z) f) in
        rw (and_left i.held (i.age == z) f, same, stays, is_same_number z z refl) refl

pub held_deck_still : (gone : ℕ → Bool) (idents : List Ident) (z : ℕ) → gone z ≡ false → is_held_deck idents z ≡ true
    → is_held_deck (map (unheld gone) idents) z ≡ true
held_deck_still gone idents z stays e = any_mapped _ _ (unheld gone) idents (λ i f. go i f) e
  where
    go : (i : Ident) → (i.held && is_deck_kind i.kind && (i.age == z)) ≡ true → ((i.held && not (gone i.age)) && is_deck_kind i.kind && (i.age == z)) ≡ true
    go i f =
        let deck = and_left (i.held && is_deck_kind i.kind) (i.age == z) f in
        let same : i.age ≡ z = same_number i.age z (and_right (i.held && is_deck_kind i.kind) (i.age == z) f) in
        rw (and_left i.held (is_deck_kind i.kind) deck, and_right i.held (is_deck_kind i.kind) deck, same, stays, is_same_number z z refl) refl

-- ---- names

pub not_some : {A : Type 0} (o : Option A) → is_some o ≡ false → o ≡ None
not_some None e = refl
not_some (Some x) e = absurd (cc)

unnamed : (name : List ℕ) (idents : List Ident) → held_named name idents ≡ None → AllByRecursion (λ i. name ≡ i.name → ⊥) (filter (λ i. i.held) idents)
unnamed name [] e = tt
unnamed name (i ∷ idents) e = go i.held refl (bytes_eq i.name name) refl (unnamed name idents)
  where
    Rest : Type 0
    Rest = held_named name idents ≡ None → AllByRecursion (λ i. name ≡ i.name → ⊥) (filter (λ i. i.held) idents)

    go : (h : Bool) → i.held ≡ h → (b : Bool) → bytes_eq i.name name ≡ b → Rest → AllByRecursion (λ i. name ≡ i.name → ⊥) (filter (λ i. i.held) (i ∷ idents))
    go false f b g rest = let later = rw f at e in rw f (rest later)
    go true f true g rest = let found = rw (f, g) at e in absurd (cc)
    go true f false g rest =
        let later = rw (f, g) at e in
        rw f ((λ same. let is : bytes_eq i.name name ≡ true = (bytes_eq-Decides i.name name).1 (sym same) in absurd (cc)), rest later)

pub names_end : (idents : List Ident) (i : Ident) → i.held ≡ true → held_named i.name idents ≡ None → AreApart (map (λ i. i.name) (filter (λ i. i.held) idents))
    → AreApart (map (λ i. i.name) (filter (λ i. i.held) (idents ++ i ∷ [])))
names_end idents i held free apart = subst AreApart (sym whole) (apart_end i.name _ apart (all_map _ (λ (j : Ident). j.name) _ (unnamed i.name idents free)))
  where
    name : Ident → List ℕ
    name j = j.name

    mapped : (xs : List Ident) → map name (xs ++ i ∷ []) ≡ map name xs ++ i.name ∷ []
    mapped [] = refl
    mapped (x ∷ xs) = ap (λ l. x.name ∷ l) (mapped xs)

    whole : map name (filter (λ j. j.held) (idents ++ i ∷ [])) ≡ map name (filter (λ j. j.held) idents) ++ i.name ∷ []
    whole =
        ap (map name) (filter-append (λ (j : Ident). j.held) idents (i ∷ []) ∙ ap (λ b. filter (λ (j : Ident). j.held) idents ++ cond b (i ∷ []) []) held)
        ∙ mapped (filter (λ j. j.held) idents)

pub names_unheld : (gone : ℕ → Bool) (idents : List Ident)
    → IsPart (λ (i : Ident). i.name) (filter (λ i. i.held) idents) (filter (λ i. i.held) (map (unheld gone) idents))
names_unheld gone [] = none
names_unheld gone (i ∷ idents) = go i.held refl (gone i.age) refl (names_unheld gone idents)
  where
    go : (h : Bool) → i.held ≡ h → (b : Bool) → gone i.age ≡ b
        → IsPart (λ (i : Ident). i.name) (filter (λ i. i.held) idents) (filter (λ i. i.held) (map (unheld gone) idents))
        → IsPart (λ (i : Ident). i.name) (filter (λ i. i.held) (i ∷ idents)) (filter (λ i. i.held) (map (unheld gone) (i ∷ idents)))
    go false f b g rest = rw f rest
    go true f true g rest = rw (f, g) (fewer rest)
    go true f false g rest = rw (f, g) (kept refl rest)

-- no held ident takes a name that none has
pub unnamed_end : (name : List ℕ) (idents : List Ident) (i : Ident) → held_named name idents ≡ None → bytes_eq i.name name ≡ false
    → held_named name (idents ++ i ∷ []) ≡ None
unnamed_end name idents i free other = find_none_end _ idents i free (go i.held)
  where
    go : (h : Bool) → (h && bytes_eq i.name name) ≡ false
    go true = other
    go false = refl

pub unnamed_still : (gone : ℕ → Bool) (name : List ℕ) (idents : List Ident) → held_named name idents ≡ None
    → held_named name (map (unheld gone) idents) ≡ None
unnamed_still gone name idents free = find_none_mapped _ (unheld gone) idents (λ i e. go i.held (not (gone i.age)) (bytes_eq i.name name) e) free
  where
    go : (h s b : Bool) → (h && b) ≡ false → ((h && s) && b) ≡ false
    go true true b e = e
    go true false b e = refl
    go false s b e = refl

-- the idents of a directory that begins with serial n have this serial or a greater one
pub found_from : (n : ℕ) (test : Ident → Bool) (idents : List Ident) (i : Ident) → AreAgedFrom n idents → find test idents ≡ Some i → n ≤ i.age
found_from n test [] i ages e = absurd (cc)
found_from n test (j ∷ idents) i ages e = go (test j) refl (found_from (n + 1) test idents i ages.1)
  where
    go : (b : Bool) → test j ≡ b → (find test idents ≡ Some i → n + 1 ≤ i.age) → n ≤ i.age
    go true f rest =
        let found = rw f at e in
        let same : j ≡ i = cc in
        let age = ap (λ (k : Ident). k.age) same in
        omega (arith, ages.0)
    go false f rest = let later = rest (rw f at e) in omega arith

pub all_from : (n : ℕ) (test : Ident → Bool) (idents : List Ident) → AreAgedFrom n idents → AllByRecursion (λ i. n ≤ i.age) (filter test idents)
all_from n test idents ages = all_filter (λ (i : Ident). n ≤ i.age) test idents (go n idents ages)
  where
    go : (m : ℕ) (is : List Ident) → AreAgedFrom m is → AllByRecursion (λ (i : Ident). m ≤ i.age) is
    go m [] ages = tt
    go m (i ∷ is) ages = (omega (arith, ages.0), all_weaker (λ (j : Ident). m + 1 ≤ j.age) (λ j. m ≤ j.age) is (λ j h. omega arith) (go (m + 1) is ages.1))
