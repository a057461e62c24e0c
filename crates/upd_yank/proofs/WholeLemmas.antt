-- Where as many statuses are stored as a library has cards, and each card has its own, no other card has one.
use Rattle.upd_yank.proofs.Common.{◌≡◌, ℕ, ◌+◌, ◌≤◌, Bool, true, false, cond, List, [], ◌∷◌, ◌++◌, map, length, Option, Some, None, is_some, refl, ap, sym}
use Rattle.upd_yank.proofs.Common.{◌∙◌, subst, arith, flat_map, AllByRecursion, update_all, length-map, CardRef, CountedCardView, counted_card, counted_cards}
use Rattle.upd_yank.proofs.Common.{yanks_of, others_of, CardView, DeckView, LibraryView, ref_of, AreApart, IsSound, status_of, live_count, same_ref}
use Rattle.upd_yank.proofs.Common.{same_ref_is, is_active_by, kept_status}
use Rattle.std.specs.Map.{remove_entry}
use Rattle.std.proofs.lemmas.List.{map-append}
use Rattle.upd_core.proofs.FoundLemmas.{refs_apart}
use Rattle.upd_core.specs.Sound.{all_cards}
use Rattle.upd_yank.proofs.StateLemmas.{HadStatus, put_all, statuses_are, unfound_stayed}
use Rattle.upd_yank.proofs.WorkLemmas.{HasStatus, IsListed, all_map}

-- ---- references that differ and are all stored are no more than what is stored

one_fewer : (x : CardRef) (ys : List (CardRef × Bool)) → is_some (kept_status ys x) ≡ true → length ys ≡ length (remove_entry (same_ref x) ys) + 1
one_fewer x [] e = absurd (cc)
one_fewer x (y ∷ ys) e = go (same_ref x y.0) refl (one_fewer x ys)
  where
    go : (b : Bool) → same_ref x y.0 ≡ b → (is_some (kept_status ys x) ≡ true → length ys ≡ length (remove_entry (same_ref x) ys) + 1) →
        length (y ∷ ys) ≡ length (cond b ys (y ∷ remove_entry (same_ref x) ys)) + 1
    go true f later = omega arith
    go false f later = let n = later (rw f at e) in omega (arith, n)

others_kept : (x z : CardRef) (ys : List (CardRef × Bool)) → (x ≡ z → ⊥) → kept_status (remove_entry (same_ref x) ys) z ≡ kept_status ys z
others_kept x z [] other = refl
others_kept x z (y ∷ ys) other = go (same_ref x y.0) refl (same_ref z y.0) refl (others_kept x z ys other)
  where
    go : (a : Bool) → same_ref x y.0 ≡ a → (b : Bool) → same_ref z y.0 ≡ b → kept_status (remove_entry (same_ref x) ys) z ≡ kept_status ys z →
        kept_status (cond a ys (y ∷ remove_entry (same_ref x) ys)) z ≡ kept_status (y ∷ ys) z
    go true e true f later = absurd (other (same_ref_is x y.0 e ∙ sym (same_ref_is z y.0 f)))
    go true e false f later = sym (ap (λ b. cond b (Some y.1) (kept_status ys z)) f)
    go false e b f later = ap (λ o. cond (same_ref z y.0) (Some y.1) o) later

no_more : (xs : List CardRef) (ys : List (CardRef × Bool)) → AreApart xs → AllByRecursion (λ x. is_some (kept_status ys x) ≡ true) xs → length xs ≤ length ys
no_more [] ys apart all = omega arith
no_more (x ∷ xs) ys apart all =
    let fewer = one_fewer x ys all.0 in
    let rest = no_more xs (remove_entry (same_ref x) ys) apart.1 (still xs apart.0 all.1) in
    omega (arith, fewer, rest)
  where
    still : (zs : List CardRef) → AllByRecursion (λ z. x ≡ z → ⊥) zs → AllByRecursion (λ z. is_some (kept_status ys z) ≡ true) zs →
        AllByRecursion (λ z. is_some (kept_status (remove_entry (same_ref x) ys) z) ≡ true) zs
    still [] other kept = tt
    still (z ∷ zs) other kept = (ap is_some (others_kept x z ys other.0) ∙ kept.0, still zs other.1 kept.1)

-- ---- the references of a library's cards

pub refs_of_cards : (l : LibraryView) → map (λ k. k.card) (counted_cards l) ≡ map (ref_of l.idents) (all_cards l)
refs_of_cards l =
    map-append (λ (k : CountedCardView). k.card) (yanks_of l) (others_of l)
    ∙ (λ i. cards 0 l.yanks i ++ decks l.decks i) ∙ sym (map-append (ref_of l.idents) l.yanks (flat_map (λ d. d.cards) l.decks))
  where
    cards : (d : ℕ) (cs : List CardView) → map (λ (k : CountedCardView). k.card) (map (counted_card l.idents d) cs) ≡ map (ref_of l.idents) cs
    cards d [] = refl
    cards d (c ∷ cs) = ap (λ t. ref_of l.idents c ∷ t) (cards d cs)

    decks : (ds : List DeckView) → map (λ (k : CountedCardView). k.card) (flat_map (λ d. map (counted_card l.idents d.ident) d.cards) ds)
        ≡ map (ref_of l.idents) (flat_map (λ d. d.cards) ds)
    decks [] = refl
    decks (d ∷ ds) =
        map-append (λ (k : CountedCardView). k.card) (map (counted_card l.idents d.ident) d.cards)
        (flat_map (λ d. map (counted_card l.idents d.ident) d.cards) ds)
        ∙ (λ i. cards d.ident d.cards i ++ decks ds i) ∙ sym (map-append (ref_of l.idents) d.cards (flat_map (λ d. d.cards) ds))

all_of_map : {A B : Type 0} (P : B → Type 0) (f : A → B) (xs : List A) → AllByRecursion (λ x. P (f x)) xs → AllByRecursion P (map f xs)
all_of_map P f [] all = tt
all_of_map P f (x ∷ xs) all = (all.0, all_of_map P f xs all.1)

-- ---- statuses that are as many as the cards are theirs

pub whole_right : (l : LibraryView) (due : CountedCardView → Bool) (known : CardRef → Option Bool) (found statuses : List (CardRef × Bool)) → IsSound l →
    AllByRecursion (λ p. status_of p.0 l ≡ Some p.1) found → AllByRecursion (HadStatus l due known) (counted_cards l) →
    AllByRecursion (IsListed due found) (counted_cards l) → length statuses ≡ length (counted_cards l) →
    ((r : CardRef) → kept_status statuses r ≡ update_all same_ref known found r) → (r : CardRef) → kept_status statuses r ≡ status_of r l
whole_right l due known found statuses sound right had listed many put r = go (status_of r l) refl
  where
    there : (r : CardRef) → is_some (status_of r l) ≡ true → kept_status statuses r ≡ status_of r l
    there r some = put r ∙ put_all l found known r right (λ none. unfound_stayed l due known found r sound had listed none some)

    refs : List CardRef
    refs = map (ref_of l.idents) (all_cards l)

    own : AllByRecursion (HasStatus l (live_count l)) (counted_cards l)
    own = statuses_are l sound

    kept : AllByRecursion (λ x. is_some (kept_status statuses x) ≡ true) refs
    kept = subst (AllByRecursion (λ x. is_some (kept_status statuses x) ≡ true)) (refs_of_cards l)
        (all_of_map (λ x. is_some (kept_status statuses x) ≡ true) (λ (k : CountedCardView). k.card) (counted_cards l)
        (all_map (HasStatus l (live_count l)) (λ k. is_some (kept_status statuses k.card) ≡ true) (counted_cards l)
        (λ k has. ap is_some (there k.card (ap is_some has) ∙ has)) own))

    other : status_of r l ≡ None → AllByRecursion (λ x. r ≡ x → ⊥) refs
    other none = subst (AllByRecursion (λ x. r ≡ x → ⊥)) (refs_of_cards l)
        (all_of_map (λ x. r ≡ x → ⊥) (λ (k : CountedCardView). k.card) (counted_cards l)
        (all_map (HasStatus l (live_count l)) (λ k. r ≡ k.card → ⊥) (counted_cards l)
        (λ k has same. let q : None ≡ Some (is_active_by (live_count l) k.deck k.view) = sym none ∙ ap (λ x. status_of x l) same ∙ has in absurd (cc)) own))

    as_many : length refs ≡ length statuses
    as_many = ap length (sym (refs_of_cards l)) ∙ length-map (counted_cards l) (λ (k : CountedCardView). k.card) ∙ sym many

    absent : status_of r l ≡ None → (o : Option Bool) → kept_status statuses r ≡ o → o ≡ None
    absent none None e = refl
    absent none (Some s) e =
        let more = no_more (r ∷ refs) statuses (other none, refs_apart l sound) (ap is_some e, kept) in
        absurd (omega (arith, more, as_many))

    go : (o : Option Bool) → status_of r l ≡ o → kept_status statuses r ≡ status_of r l
    go (Some s) e = there r (ap is_some e)
    go None e = absent e (kept_status statuses r) refl ∙ sym e
