-- A directory that is extended: its changes, and the names that stay.
use Rattle.upd_diff.proofs.Common.{◌≡◌, ℕ, zero, suc, ◌+◌, ◌-◌, ◌<◌, ◌≤◌, Bool, true, false, cond, List, [], ◌∷◌, ◌++◌, map, inl, inr, refl, ap, sym, subst}
use Rattle.upd_diff.proofs.Common.{◌∙◌, append_assoc, append-nil, arith, not, ◌==◌, ◌&&◌, AllByRecursion, map-append, same_Some, Decides-eqb, Ident, CardView}
use Rattle.upd_diff.proofs.Common.{LibraryView, ref_of, Continues, IsSound, IdentNew, IdentPurged, ident_changes, on_idents, all_acts, acts_append}
use Rattle.std.specs.Prelude.{◌⊎◌, slice_get, Some}
use Rattle.upd_core.specs.Library.{name_of}
use Rattle.upd_core.specs.Sound.{AreAgedFrom, IsOfHeld, is_held}
use Rattle.upd_core.proofs.FoundLemmas.{IsAt, held_at}
use Rattle.upd_records.specs.Changes.{purged_row}

-- ---- the changes of a directory

idents_come : (new xs : List Ident) → all_acts on_idents (map IdentNew new) xs ≡ xs ++ new
idents_come [] xs = sym (append-nil xs)
idents_come (i ∷ new) xs = idents_come new (xs ++ i ∷ []) ∙ append_assoc xs (i ∷ []) new

other_row : (age : ℕ) (i : Ident) → (i.age ≡ age → ⊥) → purged_row age i ≡ i
other_row age i differ = go (i.age == age) refl
  where
    go : (b : Bool) → (i.age == age) ≡ b → cond b (record i { held = false }) i ≡ i
    go true is = absurd (differ ((Decides-eqb i.age age).0 is))
    go false is = refl

before_stay : (age : ℕ) (idents : List Ident) → AllByRecursion (λ i. i.age < age) idents → map (purged_row age) idents ≡ idents
before_stay age [] below = refl
before_stay age (i ∷ idents) below = let less = below.0 in rw (other_row age i (λ e. omega arith)) (ap (λ t. i ∷ t) (before_stay age idents below.1))

behind_stay : (age n : ℕ) (idents : List Ident) → age < n → AreAgedFrom n idents → map (purged_row age) idents ≡ idents
behind_stay age n [] less aged = refl
behind_stay age n (i ∷ idents) less aged =
    let is = aged.0 in rw (other_row age i (λ e. omega arith)) (ap (λ t. i ∷ t) (behind_stay age (n + 1) idents (omega arith) aged.1))

own_row : (i : Ident) → purged_row i.age i ≡ record i { held = false }
own_row i = rw ((Decides-eqb i.age i.age).1 refl) refl

below_more : (n : ℕ) (idents : List Ident) (i : Ident) → AllByRecursion (λ j. j.age < n) idents → i.age ≡ n
    → AllByRecursion (λ j. j.age < n + 1) (idents ++ i ∷ [])
below_more n [] i below e = (omega arith, tt)
below_more n (j ∷ idents) i below e = let less = below.0 in (omega arith, below_more n idents i below.1 e)

-- the change for one ident: nothing before it and nothing after it changes
one_row_change : (n : ℕ) (front old : List Ident) (i j : Ident) → AllByRecursion (λ k. k.age < n) front → i.age ≡ n → AreAgedFrom (n + 1) old
    → (j ≡ i) ⊎ (j ≡ record i { held = false })
    → all_acts on_idents (cond (i.held && not j.held) (IdentPurged i.age ∷ []) []) (front ++ i ∷ old) ≡ front ++ j ∷ old
one_row_change n front old i j below age aged (inl e) = go i.held refl j.held refl
  where
    go : (a : Bool) → i.held ≡ a → (b : Bool) → j.held ≡ b → all_acts on_idents (cond (a && not b) (IdentPurged i.age ∷ []) []) (front ++ i ∷ old) ≡ front
        ++ j ∷ old
    go true p true q = ap (λ k. front ++ k ∷ old) (sym e)
    go true p false q = let same = ap (λ k. k.held) e in absurd (cc)
    go false p b q = ap (λ k. front ++ k ∷ old) (sym e)
one_row_change n front old i j below age aged (inr e) = go i.held refl j.held (ap (λ k. k.held) e)
  where
    go : (a : Bool) → i.held ≡ a → (b : Bool) → b ≡ false → all_acts on_idents (cond (a && not b) (IdentPurged i.age ∷ []) []) (front ++ i ∷ old) ≡ front
        ++ j ∷ old
    go true p true q = absurd (cc)
    go true p false q =
        map-append (purged_row i.age) front (i ∷ old)
        ∙ ap (λ t. t ++ map (purged_row i.age) (i ∷ old)) (before_stay i.age front (subst (λ m. AllByRecursion (λ k. k.age < m) front) (sym age) below))
        ∙ ap (λ t. front ++ t) (λ t. (own_row i ∙ sym e) t ∷ behind_stay i.age (n + 1) old (omega arith) aged t)
    go false p b q = ap (λ k. front ++ k ∷ old) ((λ t. record i { held = p t }) ∙ sym e)

idents_done : (n : ℕ) (front old new : List Ident) → AllByRecursion (λ k. k.age < n) front → AreAgedFrom n old → Continues old new
    → all_acts on_idents (ident_changes old new) (front ++ old) ≡ front ++ new
idents_done n front [] new below aged goes = idents_come new (front ++ []) ∙ ap (λ t. t ++ new) (append-nil front)
idents_done n front (i ∷ old) [] below aged goes = absurd goes
idents_done n front (i ∷ old) (j ∷ new) below aged goes =
    acts_append on_idents (cond (i.held && not j.held) (IdentPurged i.age ∷ []) []) (ident_changes old new) (front ++ i ∷ old)
    ∙ ap (all_acts on_idents (ident_changes old new)) (one_row_change n front old i j below aged.0 aged.1 goes.0 ∙ sym (append_assoc front (j ∷ []) old))
    ∙ idents_done (n + 1) (front ++ j ∷ []) old new (below_more n front j below (age_of goes.0)) aged.1 goes.1
    ∙ append_assoc front (j ∷ []) new
  where
    age_of : (j ≡ i) ⊎ (j ≡ record i { held = false }) → j.age ≡ n
    age_of (inl e) = ap (λ k. k.age) e ∙ aged.0
    age_of (inr e) = ap (λ k. k.age) e ∙ aged.0

pub directory_done : (old new : List Ident) → AreAgedFrom 1 old → Continues old new → all_acts on_idents (ident_changes old new) old ≡ new
directory_done old new aged goes = idents_done 1 [] old new tt aged goes

-- ---- names stay

-- an ident of the old directory is in the new one, with its name
goes_at : (old new : List Ident) (k : ℕ) (i : Ident) → Continues old new → slice_get old k ≡ Some i → (j : Ident) × (slice_get new k ≡ Some j)
    × (j.name ≡ i.name)
goes_at [] new k i goes e = absurd (cc)
goes_at (x ∷ old) [] k i goes e = absurd goes
goes_at (x ∷ old) (y ∷ new) zero i goes e = (y, refl, name_of_one goes.0 ∙ ap (λ z. z.name) (same_Some x i e))
  where
    name_of_one : (y ≡ x) ⊎ (y ≡ record x { held = false }) → y.name ≡ x.name
    name_of_one (inl p) = ap (λ z. z.name) p
    name_of_one (inr p) = ap (λ z. z.name) p
goes_at (x ∷ old) (y ∷ new) (suc k) i goes e = goes_at old new k i goes.1 e

names_stay : (old new : List Ident) (z : ℕ) → AreAgedFrom 1 old → Continues old new → is_held old z ≡ true → name_of new z ≡ name_of old z
names_stay old new z aged goes held = go (held_at 1 z old aged held)
  where
    go : (i : Ident) × IsAt 1 z old i → name_of new z ≡ name_of old z
    go found =
        let later = goes_at old new (z - 1) found.0 goes found.1.place in
        let from = found.1.from in
        let some : (z == 0) ≡ false = not_zero from in
        rw (some, found.1.place, later.1) later.2
      where
        not_zero : 1 ≤ z → (z == 0) ≡ false
        not_zero from = at (z == 0) refl
          where
            at : (b : Bool) → (z == 0) ≡ b → b ≡ false
            at true is = let none : z ≡ 0 = (Decides-eqb z 0).0 is in absurd (omega arith)
            at false is = refl

ref_stays : (old new : List Ident) (c : CardView) → AreAgedFrom 1 old → Continues old new → IsOfHeld old c → ref_of new c ≡ ref_of old c
ref_stays old new c aged goes held = let e = names_stay old new c.ident aged goes held.0 in λ i. record { name = e i; number = c.number }

-- the references of the cards of a sound library are the same in any directory that extends its own
pub refs_stay : (l : LibraryView) (new : List Ident) → IsSound l → Continues l.idents new → (cards : List CardView) → AllByRecursion (IsOfHeld l.idents) cards
    → AllByRecursion (λ c. ref_of new c ≡ ref_of l.idents c) cards
refs_stay l new sound goes [] held = tt
refs_stay l new sound goes (c ∷ cards) held = (ref_stays l.idents new c sound.ages goes held.0, refs_stay l new sound goes cards held.1)
