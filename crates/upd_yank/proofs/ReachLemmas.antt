-- A card is reached exactly when a flipped target covers it.
use Rattle.upd_yank.proofs.Common.{◌≡◌, ℕ, Bool, true, false, ◌||◌, List, [], ◌∷◌, inl, inr, refl, sym, subst, ◌==◌, ◌⊎◌, list_any, and_parts, or_cases}
use Rattle.upd_yank.proofs.Common.{or_left, or_right, Decides-eqb, Entry, Target, Set, SetIn, Deck, CardView, is_flipped, is_reached, is_retaken}
use Rattle.upd_core.specs.Reach.{covers}

-- an entry of an ident is retaken where the ident is, by either of two targets
retaken : (before now : Target → ℕ) (d z : ℕ) (es : List Entry) → (is_flipped before now (Set z) || is_flipped before now (SetIn z d)) ≡ true →
    list_any (λ e. e.ident == z) es ≡ true → list_any (is_retaken before now d) es ≡ true
retaken before now d z [] flipped has = absurd (cc)
retaken before now d z (e ∷ es) flipped has = go (e.ident == z) refl (retaken before now d z es flipped)
  where
    go : (b : Bool) → (e.ident == z) ≡ b → (list_any (λ e. e.ident == z) es ≡ true → list_any (is_retaken before now d) es ≡ true) →
        list_any (is_retaken before now d) (e ∷ es) ≡ true
    go true f later =
        let same : e.ident ≡ z = (Decides-eqb e.ident z).0 f in
        or_left (is_retaken before now d e) (list_any (is_retaken before now d) es)
        (subst (λ x. (is_flipped before now (Set x) || is_flipped before now (SetIn x d)) ≡ true) (sym same) flipped)
    go false f later = or_right (is_retaken before now d e) (list_any (is_retaken before now d) es) (later (rw f at has))

pub reached_by : (before now : Target → ℕ) (d : ℕ) (c : CardView) (t : Target) → is_flipped before now t ≡ true → covers d c t ≡ true →
    is_reached before now d c ≡ true
reached_by before now d c (Set z) flipped covered =
    or_left (list_any (is_retaken before now d) c.history) (is_flipped before now (Deck d))
    (retaken before now d z c.history (or_left (is_flipped before now (Set z)) (is_flipped before now (SetIn z d)) flipped) covered)
reached_by before now d c (SetIn z a) flipped covered =
    let parts = and_parts (list_any (λ e. e.ident == z) c.history) (a == d) covered in
    let deck : a ≡ d = (Decides-eqb a d).0 parts.1 in
    or_left (list_any (is_retaken before now d) c.history) (is_flipped before now (Deck d))
    (retaken before now d z c.history
    (or_right (is_flipped before now (Set z)) (is_flipped before now (SetIn z d)) (subst (λ x. is_flipped before now (SetIn z x) ≡ true) deck flipped)) parts.0)
reached_by before now d c (Deck a) flipped covered =
    let deck : a ≡ d = (Decides-eqb a d).0 covered in
    or_right (list_any (is_retaken before now d) c.history) (is_flipped before now (Deck d)) (subst (λ x. is_flipped before now (Deck x) ≡ true) deck flipped)

-- what covers a card that is reached
abbrev pub Covering : (Target → ℕ) → (Target → ℕ) → ℕ → CardView → Type 0
Covering before now d c = (t : Target) × (is_flipped before now t ≡ true) × (covers d c t ≡ true)

from_entries : (before now : Target → ℕ) (d : ℕ) (es : List Entry) → list_any (is_retaken before now d) es ≡ true →
    (z : ℕ) × (list_any (λ e. e.ident == z) es ≡ true) × ((is_flipped before now (Set z) || is_flipped before now (SetIn z d)) ≡ true)
from_entries before now d [] e = absurd (cc)
from_entries before now d (e ∷ es) is = go (is_retaken before now d e) refl (from_entries before now d es)
  where
    Found : List Entry → Type 0
    Found es = (z : ℕ) × (list_any (λ e. e.ident == z) es ≡ true) × ((is_flipped before now (Set z) || is_flipped before now (SetIn z d)) ≡ true)

    go : (b : Bool) → is_retaken before now d e ≡ b → (list_any (is_retaken before now d) es ≡ true → Found es) → Found (e ∷ es)
    go true f later = (e.ident, or_left (e.ident == e.ident) (list_any (λ x. x.ident == e.ident) es) ((Decides-eqb e.ident e.ident).1 refl), f)
    go false f later =
        let found = later (rw f at is) in
        (found.0, or_right (e.ident == found.0) (list_any (λ x. x.ident == found.0) es) found.1, found.2)

pub reached_from : (before now : Target → ℕ) (d : ℕ) (c : CardView) → is_reached before now d c ≡ true → Covering before now d c
reached_from before now d c reached = go (or_cases (list_any (is_retaken before now d) c.history) (is_flipped before now (Deck d)) reached)
  where
    by_ident : (z : ℕ) → list_any (λ e. e.ident == z) c.history ≡ true → (is_flipped before now (Set z) ≡ true) ⊎ (is_flipped before now (SetIn z d) ≡ true) →
        Covering before now d c
    by_ident z has (inl flipped) = (Set z, flipped, has)
    by_ident z has (inr flipped) = (SetIn z d, flipped, rw (has, (Decides-eqb d d).1 refl) refl)

    go : (list_any (is_retaken before now d) c.history ≡ true) ⊎ (is_flipped before now (Deck d) ≡ true) → Covering before now d c
    go (inl some) =
        let found = from_entries before now d c.history some in
        by_ident found.0 found.1 (or_cases (is_flipped before now (Set found.0)) (is_flipped before now (SetIn found.0 d)) found.2)
    go (inr flipped) = (Deck d, flipped, (Decides-eqb d d).1 refl)
