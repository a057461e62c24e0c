-- Sorted lists that have the same elements are the same list.
use Rattle.upd_examine.proofs.Common.{◌≡◌, ℕ, suc, ◌<◌, ◌≤◌, Bool, true, false, cond, List, [], ◌∷◌, length, get_or, map, refl, sym, ap, ◌∙◌, subst, arith}
use Rattle.upd_examine.proofs.Common.{IsPermutation, ◌↔◌, IsTrue, CmpEqualImpliesEq, IsTotalOrder, slice_cmp, count_by, AllByRecursion, IsSorted, is_eq}
use Rattle.upd_examine.proofs.Common.{is_lt, ordering_reverse, ordering_then, Ordering, Less, Equal, Greater, count_cons, IsSame}
use Rattle.std.proofs.lemmas.List.MinMax.{ranks_by}
use Rattle.std.proofs.lemmas.List.Sorted.{sorted_far}
use Rattle.upd_records.proofs.CountLemmas.{same_map, same_trans}
use Rattle.upd_row_store.proofs.SortLemmas.{all_counted, one_passes, same_permuted}
use Rattle.upd_examine.proofs.SortedLemmas.{itself, same_is}

pub same_turned : {A : Type 0} {xs ys : List A} → IsSame xs ys → IsSame ys xs
same_turned same = record { passes = λ test. sym (same.passes test) }

module _ {A : Type 0} (R : A → A → Ordering) (order : IsTotalOrder R) (exact : CmpEqualImpliesEq R) where
  abbrev same : A → A → Bool
  same a b = is_eq (R a b)

  -- neither of two elements is less than the other
  tied : (a b : A) → is_lt (R a b) ≡ false → is_lt (R b a) ≡ false → a ≡ b
  tied a b up down = go (R a b) refl up
    where
      go : (o : Ordering) → R a b ≡ o → is_lt o ≡ false → a ≡ b
      go Less r e = absurd (cc)
      go Equal r e = exact a b r
      go Greater r e =
          let turned = order.antisymm b a ∙ ap ordering_reverse r in
          let yes = ap is_lt turned in
          absurd (cc)

  -- no element is less than one before it
  abbrev IsInOrder : List A → Type 0
  IsInOrder [] = Unit {0}
  IsInOrder (x ∷ xs) = AllByRecursion (λ y. is_lt (R y x) ≡ false) xs × IsInOrder xs

  in_order_at : (xs : List A) → ((i j : ℕ) (d : A) → i ≤ j → j < length xs → is_lt (R (get_or xs j d) (get_or xs i d)) ≡ false) → IsInOrder xs
  in_order_at [] far = tt
  in_order_at (x ∷ xs) far = (
    all_counted (λ y. is_lt (R y x) ≡ false) xs (λ k d less. far 0 (suc k) d (omega arith) (omega arith)),
    in_order_at xs (λ i j d up less. far (suc i) (suc j) d (omega arith) (omega arith)),
  )

  in_order : (xs : List A) → IsSorted R xs → IsInOrder xs
  in_order xs up = in_order_at xs (sorted_far (λ x y. is_lt (R x y)) (ranks_by order (λ x. x)) xs up)

  same_head : (x y : A) (xs ys : List A) → IsInOrder (x ∷ xs) → IsInOrder (y ∷ ys) → IsSame (x ∷ xs) (y ∷ ys) → x ≡ y
  same_head x y xs ys up rising is = go (same x y) refl
    where
      go : (b : Bool) → same x y ≡ b → x ≡ y
      go true e = same_is R exact x y e
      go false e =
          let apart = ap {B = ℕ} (λ b. cond b 1 0) e in
          let first = ap {B = ℕ} (λ b. cond b 1 0) (ap is_eq (itself R order x)) in
          let second = ap {B = ℕ} (λ b. cond b 1 0) (ap is_eq (itself R order y)) in
          let in_xs : 0 < count_by (λ z. same z y) xs =
          omega (arith, apart, second, is.passes (λ z. same z y), count_cons (λ z. same z y) x xs, count_cons (λ z. same z y) y ys) in
          let in_ys : 0 < count_by (λ z. same x z) ys =
          omega (arith, apart, first, is.passes (λ z. same x z), count_cons (λ z. same x z) x xs, count_cons (λ z. same x z) y ys) in
          let low = one_passes (λ z. is_lt (R z x) ≡ false) (λ z. same z y) xs up.0 in_xs in
          let high = one_passes (λ z. is_lt (R z y) ≡ false) (λ z. same x z) ys rising.0 in_ys in
          let down : is_lt (R y x) ≡ false = subst (λ z. is_lt (R z x) ≡ false) (same_is R exact low.0 y low.2) low.1 in
          let upward : is_lt (R x y) ≡ false = subst (λ z. is_lt (R z y) ≡ false) (sym (same_is R exact x high.0 high.2)) high.1 in
          tied x y upward down

  same_list : (xs ys : List A) → IsInOrder xs → IsInOrder ys → IsSame xs ys → xs ≡ ys
  same_list [] [] up rising is = refl
  same_list [] (y ∷ ys) up rising is = absurd (omega (arith, is.passes (λ z. true), count_cons (λ z. true) y ys))
  same_list (x ∷ xs) [] up rising is = absurd (omega (arith, is.passes (λ z. true), count_cons (λ z. true) x xs))
  same_list (x ∷ xs) (y ∷ ys) up rising is =
      let head = same_head x y xs ys up rising is in
      let rest : IsSame xs ys = record {
        passes = λ test. omega (arith, is.passes test, ap {B = ℕ} (λ z. cond (test z) 1 0) head, count_cons test x xs, count_cons test y ys);
      } in
      let tail = same_list xs ys up.1 rising.1 rest in
      λ i. head i ∷ tail i

  -- lists are equal in the order of lists exactly where they are the same
  equal_lists : (xs ys : List A) → slice_cmp R xs ys ≡ Equal → xs ≡ ys
  equal_lists [] [] e = refl
  equal_lists [] (y ∷ ys) e = absurd (cc)
  equal_lists (x ∷ xs) [] e = absurd (cc)
  equal_lists (x ∷ xs) (y ∷ ys) e = go (R x y) refl e (equal_lists xs ys)
    where
      go : (o : Ordering) → R x y ≡ o → ordering_then o (slice_cmp R xs ys) ≡ Equal → (slice_cmp R xs ys ≡ Equal → xs ≡ ys) → x ∷ xs ≡ y ∷ ys
      go Less r f later = absurd (cc)
      go Equal r f later = let head = exact x y r in let tail = later f in λ i. head i ∷ tail i
      go Greater r f later = absurd (cc)

  lists_equal : (xs : List A) → slice_cmp R xs xs ≡ Equal
  lists_equal [] = refl
  lists_equal (x ∷ xs) = ap (λ o. ordering_then o (slice_cmp R xs xs)) (itself R order x) ∙ lists_equal xs

  is_Equal : (o : Ordering) → is_eq o ≡ true → o ≡ Equal
  is_Equal Less e = absurd (cc)
  is_Equal Equal e = refl
  is_Equal Greater e = absurd (cc)

  -- sorted copies of two lists decide whether these have the same elements
  pub same_decided : (xs ys us vs : List A) → IsPermutation xs us → IsPermutation ys vs → IsSorted R us → IsSorted R vs
      → (is_eq (slice_cmp R us vs) ≡ true) ↔ IsSame xs ys
  same_decided xs ys us vs left right up rising = (
    (λ e.
        let one = equal_lists us vs (is_Equal (slice_cmp R us vs) e) in
        same_trans (same_turned (same_permuted left)) (subst (λ ws. IsSame ws ys) (sym one) (same_permuted right))),
    (λ is.
        let one = same_list us vs (in_order us up) (in_order vs rising) (same_trans (same_permuted left) (same_trans is (same_turned (same_permuted right)))) in
        subst (λ ws. is_eq (slice_cmp R us ws) ≡ true) one (ap is_eq (lists_equal us))),
  )

mapped_back : {A B : Type 0} (f : A → B) (g : B → A) → ((x : A) → g (f x) ≡ x) → (xs : List A) → map g (map f xs) ≡ xs
mapped_back f g back [] = refl
mapped_back f g back (x ∷ xs) = let head = back x in let tail = mapped_back f g back xs in λ i. head i ∷ tail i

-- elements are the same exactly where their keys are
pub same_keys : {A B : Type 0} (f : A → B) (g : B → A) → ((x : A) → g (f x) ≡ x) → (xs ys : List A) → IsSame (map f xs) (map f ys) ↔ IsSame xs ys
same_keys f g back xs ys = (
  (λ is.
      subst (λ ws. IsSame ws ys) (mapped_back f g back xs)
      (subst (IsSame (map g (map f xs))) (mapped_back f g back ys) (same_map g is))),
  (λ is. same_map f is),
)

-- keys that are the same exactly where their elements are decide about the elements
pub keys_decide : {A B : Type 0} (f : A → B) (g : B → A) → ((x : A) → g (f x) ≡ x) → (xs ys : List A) (us vs : List B) (b : Bool) → us ≡ map f xs
    → vs ≡ map f ys → (IsTrue b ↔ IsSame us vs) → IsTrue b ↔ IsSame xs ys
keys_decide f g back xs ys us vs b left right decided =
    let keys = same_keys f g back xs ys in (
      (λ t. keys.0 (subst (λ ws. IsSame ws (map f ys)) left (subst (IsSame us) right (decided.0 t)))),
      (λ is. decided.1 (subst (λ ws. IsSame ws vs) (sym left) (subst (IsSame (map f xs)) (sym right) (keys.1 is)))),
    )
