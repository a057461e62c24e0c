-- Stored statuses are those of a library exactly where they are the pairs of its cards, each as often.
use Rattle.upd_examine.proofs.Common.{◌≡◌, ℕ, Bool, true, false, not, ◌&&◌, cond, List, [], ◌∷◌, map, None, refl, ap, sym, ◌∙◌, subst, arith, ◌↔◌, filter}
use Rattle.upd_examine.proofs.Common.{list_any, AllByRecursion, CardRef, LibraryView, AreApart, IsSound, live_count, count_cons, same_of, IsSame, CacheView}
use Rattle.upd_examine.proofs.Common.{IsRight, own_state, own_states}
use Rattle.std.proofs.Common.{◌||◌, Option, Some}
use Rattle.std.specs.Prelude.{unwrap_or}
use Rattle.upd_core.proofs.FoundLemmas.{refs_apart}
use Rattle.upd_core.specs.Counted.{CountedCardView, counted_cards}
use Rattle.upd_core.specs.Status.{status_of}
use Rattle.upd_records.proofs.CountLemmas.{same_filter}
use Rattle.upd_records.specs.Rows.{same_ref}
use Rattle.upd_records.proofs.EqualLemmas.{same_ref_is, same_ref_own}
use Rattle.upd_yank.proofs.RefLemmas.{same_ref_sym}
use Rattle.upd_yank.proofs.StateLemmas.{statuses_are, status_there}
use Rattle.upd_yank.proofs.WholeLemmas.{refs_of_cards}
use Rattle.upd_yank.proofs.WorkLemmas.{HasStatus}
use Rattle.upd_yank.specs.Cascade.{is_active_by}
use Rattle.upd_yank.specs.Right.{status_pairs}
use Rattle.upd_records.proofs.ByKeyLemmas.{same_by_key}

-- ---- lists of one element at most

only : {A : Type 0} (eq : A → A → Bool) → ((a b : A) → eq a b ≡ true → a ≡ b) → ((a : A) → eq a a ≡ true) → (x y : A) → IsSame (x ∷ []) (y ∷ []) → x ≡ y
only {A} eq is own x y same = go (eq x y) refl
  where
    go : (b : Bool) → eq x y ≡ b → x ≡ y
    go true e = is x y e
    go false e =
        let one = ap {B = ℕ} (λ b. cond b 1 0) (own x) in
        let none = ap {B = ℕ} (λ b. cond b 1 0) e in
        absurd (omega (arith, one, none, same.passes (eq x), count_cons (eq x) x [], count_cons (eq x) y []))

same_none : {A : Type 0} (xs : List A) → IsSame xs [] → xs ≡ []
same_none [] same = refl
same_none (x ∷ xs) same = absurd (omega (arith, same.passes (λ y. true), count_cons (λ y. true) x xs))

same_one : {A : Type 0} (eq : A → A → Bool) → ((a b : A) → eq a b ≡ true → a ≡ b) → ((a : A) → eq a a ≡ true) → (xs : List A) (y : A)
    → IsSame xs (y ∷ []) → xs ≡ y ∷ []
same_one eq is own [] y same = absurd (omega (arith, same.passes (λ z. true), count_cons (λ z. true) y []))
same_one eq is own (x ∷ []) y same = ap (λ z. z ∷ []) (only eq is own x y same)
same_one eq is own (x ∷ z ∷ xs) y same =
    absurd (omega (arith, same.passes (λ u. true), count_cons (λ u. true) y [], count_cons (λ u. true) x (z ∷ xs), count_cons (λ u. true) z xs))

-- ---- pairs

abbrev same_flag : Bool → Bool → Bool
same_flag true b = b
same_flag false b = not b

one_flag : (a b : Bool) → same_flag a b ≡ true → a ≡ b
one_flag true true e = refl
one_flag true false e = absurd (cc)
one_flag false true e = absurd (cc)
one_flag false false e = refl

flag_same : (a : Bool) → same_flag a a ≡ true
flag_same true = refl
flag_same false = refl

abbrev same_pair : CardRef × Bool → CardRef × Bool → Bool
same_pair p q = same_ref p.0 q.0 && same_flag p.1 q.1

one_pair : (p q : CardRef × Bool) → same_pair p q ≡ true → p ≡ q
one_pair p q e = go (same_ref p.0 q.0) refl e
  where
    go : (b : Bool) → same_ref p.0 q.0 ≡ b → (b && same_flag p.1 q.1) ≡ true → p ≡ q
    go true f g = let card = same_ref_is p.0 q.0 f in let flag = one_flag p.1 q.1 g in λ i. (card i, flag i)
    go false f g = absurd (cc)

pair_same : (p : CardRef × Bool) → same_pair p p ≡ true
pair_same p = ap (λ b. b && same_flag p.1 p.1) (same_ref_own p.0) ∙ flag_same p.1

same_pairs : (ps : List (CardRef × Bool)) (card : CardRef) (o : Option Bool) → IsSame ps (status_pairs card o) → ps ≡ status_pairs card o
same_pairs ps card None same = same_none ps same
same_pairs ps card (Some s) same = same_one same_pair one_pair pair_same ps (card, s) same

-- ---- each card has one pair, with its status

module _ (l : LibraryView) (cache : CacheView) (sound : IsSound l) (right : IsRight l cache) where
  abbrev has : CardRef → CardRef × Bool → Bool
  has card p = same_ref card p.0

  abbrev pairs : List CountedCardView → List (CardRef × Bool)
  pairs ks = map (own_state cache.states) ks

  none_left : (card : CardRef) (ks : List CountedCardView) → AllByRecursion (λ r. card ≡ r → ⊥) (map (λ k. k.card) ks) → filter (has card) (pairs ks) ≡ []
  none_left card [] apart = refl
  none_left card (k ∷ ks) apart = go (same_ref card k.card) refl (none_left card ks apart.1)
    where
      go : (b : Bool) → same_ref card k.card ≡ b → filter (has card) (pairs ks) ≡ []
          → cond (same_ref card k.card) (own_state cache.states k ∷ filter (has card) (pairs ks)) (filter (has card) (pairs ks)) ≡ []
      go true e later = absurd (apart.0 (same_ref_is card k.card e))
      go false e later = ap (λ b. cond b (own_state cache.states k ∷ filter (has card) (pairs ks)) (filter (has card) (pairs ks))) e ∙ later

  own_pair : (k : CountedCardView) → HasStatus l (live_count l) k → own_state cache.states k ∷ [] ≡ status_pairs k.card (status_of k.card l)
  own_pair k is =
      let s = is_active_by (live_count l) k.deck k.view in
      ap (λ o. (k.card, unwrap_or o false) ∷ []) (right.status k.card ∙ is) ∙ sym (ap (status_pairs k.card) is)

  found : (card : CardRef) (ks : List CountedCardView) → AreApart (map (λ k. k.card) ks) → AllByRecursion (HasStatus l (live_count l)) ks
      → list_any (λ k. same_ref k.card card) ks ≡ true → filter (has card) (pairs ks) ≡ status_pairs card (status_of card l)
  found card [] apart all e = absurd (cc)
  found card (k ∷ ks) apart all e = go (same_ref card k.card) refl (found card ks apart.1 all.1)
    where
      rest : List (CardRef × Bool)
      rest = filter (has card) (pairs ks)

      go : (b : Bool) → same_ref card k.card ≡ b
          → (list_any (λ k. same_ref k.card card) ks ≡ true → filter (has card) (pairs ks) ≡ status_pairs card (status_of card l))
          → cond (same_ref card k.card) (own_state cache.states k ∷ filter (has card) (pairs ks)) (filter (has card) (pairs ks))
          ≡ status_pairs card (status_of card l)
      go true f later =
          let one = same_ref_is card k.card f in
          let left : AllByRecursion (λ r. card ≡ r → ⊥) (map (λ k. k.card) ks) =
          subst (λ c. AllByRecursion (λ r. c ≡ r → ⊥) (map (λ k. k.card) ks)) (sym one) apart.0 in
          ap (λ b. cond b (own_state cache.states k ∷ filter (has card) (pairs ks)) (filter (has card) (pairs ks))) f
          ∙ ap (λ t. own_state cache.states k ∷ t) (none_left card ks left) ∙ own_pair k all.0
          ∙ ap (λ c. status_pairs c (status_of c l)) (sym one)
      go false f later =
          let turned = same_ref_sym k.card card ∙ f in
          ap (λ b. cond b (own_state cache.states k ∷ filter (has card) (pairs ks)) (filter (has card) (pairs ks))) f
          ∙ later (sym (ap (λ b. b || list_any (λ k. same_ref k.card card) ks) turned) ∙ e)

  missed : (card : CardRef) (ks : List CountedCardView) → list_any (λ k. same_ref k.card card) ks ≡ false → filter (has card) (pairs ks) ≡ []
  missed card [] e = refl
  missed card (k ∷ ks) e = go (same_ref k.card card) refl e (missed card ks)
    where
      go : (b : Bool) → same_ref k.card card ≡ b → (b || list_any (λ k. same_ref k.card card) ks) ≡ false
          → (list_any (λ k. same_ref k.card card) ks ≡ false → filter (has card) (pairs ks) ≡ [])
          → cond (same_ref card k.card) (own_state cache.states k ∷ filter (has card) (pairs ks)) (filter (has card) (pairs ks)) ≡ []
      go true f g later = absurd (cc)
      go false f g later =
          ap (λ b. cond b (own_state cache.states k ∷ filter (has card) (pairs ks)) (filter (has card) (pairs ks))) (same_ref_sym card k.card ∙ f) ∙ later g

  own_filter : (card : CardRef) → filter (has card) (own_states cache.states l) ≡ status_pairs card (status_of card l)
  own_filter card = go (list_any (λ k. same_ref k.card card) (counted_cards l)) refl
    where
      apart : AreApart (map (λ k. k.card) (counted_cards l))
      apart = subst AreApart (sym (refs_of_cards l)) (refs_apart l sound)

      without : list_any (λ k. same_ref k.card card) (counted_cards l) ≡ false → (o : Option Bool) → status_of card l ≡ o → [] ≡ status_pairs card o
      without e None f = refl
      without e (Some s) f = absurd (let both = sym (status_there l card s sound f) ∙ e in cc)

      go : (b : Bool) → list_any (λ k. same_ref k.card card) (counted_cards l) ≡ b
          → filter (has card) (own_states cache.states l) ≡ status_pairs card (status_of card l)
      go true e = found card (counted_cards l) apart (statuses_are l sound) e
      go false e = missed card (counted_cards l) e ∙ without e (status_of card l) refl

  pub statuses_decided : (stored : List (CardRef × Bool))
      → IsSame stored (own_states cache.states l) ↔ ((card : CardRef) → filter (λ p. same_ref card p.0) stored ≡ status_pairs card (status_of card l))
  statuses_decided stored = (
    (λ same card.
        same_pairs (filter (has card) stored) card (status_of card l)
        (subst (IsSame (filter (has card) stored)) (own_filter card) (same_filter (has card) same))),
    (λ each. same_by_key has (λ p. p.0) (λ p. same_ref_own p.0) stored (own_states cache.states l)
        (λ card. same_of (filter (has card) stored) (filter (has card) (own_states cache.states l)) (each card ∙ sym (own_filter card)))),
  )
