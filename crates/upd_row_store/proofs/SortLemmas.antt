-- Lists in order: which list of the same elements there is, and where a search by halves ends in one.
use Rattle.upd_row_store.proofs.Common.{◌≡◌, ℕ, zero, suc, ◌<◌, ◌≤◌, Bool, true, false, cond, List, [], ◌∷◌, ◌++◌, length, take, drop, get_or, refl, ap, sym}
use Rattle.upd_row_store.proofs.Common.{◌∙◌, subst, arith, IsStrictWeakOrder, count_by, filter, AllByRecursion, IsSortedBy, IsPartitionPoint, IsPartitionedBy}
use Rattle.upd_row_store.proofs.Common.{count_cons, IsSame}
use Rattle.std.proofs.Common.{IsPermutation}
use Rattle.std.proofs.lemmas.List.Sorted.{sum_by-IsPermutation, sorted_far}

-- ---- the same elements in order

-- no element is less than one before it
abbrev pub IsInOrder : {A : Type 0} → (A → A → Bool) → List A → Type 0
IsInOrder lt [] = Unit {0}
IsInOrder lt (x ∷ xs) = AllByRecursion (λ y. lt y x ≡ false) xs × IsInOrder lt xs

-- each element is less than all behind it
abbrev pub IsRising : {A : Type 0} → (A → A → Bool) → List A → Type 0
IsRising lt [] = Unit {0}
IsRising lt (x ∷ xs) = AllByRecursion (λ y. lt x y ≡ true) xs × IsRising lt xs

pub same_permuted : {A : Type 0} {xs ys : List A} → IsPermutation xs ys → IsSame ys xs
same_permuted {xs = xs} {ys = ys} moved = record { passes = λ test. sum_by-IsPermutation (λ x. cond (test x) 1 0) xs ys moved }

pub all_counted : {A : Type 0} (P : A → Type 0) (xs : List A) → ((k : ℕ) (d : A) → k < length xs → P (get_or xs k d)) → AllByRecursion P xs
all_counted P [] each = tt
all_counted P (x ∷ xs) each = (each 0 x (omega arith), all_counted P xs (λ k d less. each (suc k) d (omega arith)))

in_order_at : {A : Type 0} (lt : A → A → Bool) (xs : List A)
    → ((i j : ℕ) (d : A) → i ≤ j → j < length xs → lt (get_or xs j d) (get_or xs i d) ≡ false) → IsInOrder lt xs
in_order_at lt [] far = tt
in_order_at lt (x ∷ xs) far = (
  all_counted (λ y. lt y x ≡ false) xs (λ k d less. far 0 (suc k) d (omega arith) (omega arith)),
  in_order_at lt xs (λ i j d order less. far (suc i) (suc j) d (omega arith) (omega arith)),
)

pub in_order : {A : Type 0} (lt : A → A → Bool) → IsStrictWeakOrder lt → (xs : List A) → IsSortedBy lt xs → IsInOrder lt xs
in_order lt laws xs up = in_order_at lt xs (sorted_far lt laws xs up)

pub all_kept : {A : Type 0} (P : A → Type 0) (keep : A → Bool) (xs : List A) → AllByRecursion P xs → AllByRecursion P (filter keep xs)
all_kept P keep [] all = tt
all_kept P keep (x ∷ xs) all = go (keep x) (all_kept P keep xs all.1)
  where
    go : (b : Bool) → AllByRecursion P (filter keep xs) → AllByRecursion P (cond b (x ∷ filter keep xs) (filter keep xs))
    go true later = (all.0, later)
    go false later = later

pub order_kept : {A : Type 0} (lt : A → A → Bool) (keep : A → Bool) (xs : List A) → IsInOrder lt xs → IsInOrder lt (filter keep xs)
order_kept lt keep [] up = tt
order_kept lt keep (x ∷ xs) up = go (keep x) (order_kept lt keep xs up.1)
  where
    go : (b : Bool) → IsInOrder lt (filter keep xs) → IsInOrder lt (cond b (x ∷ filter keep xs) (filter keep xs))
    go true later = (all_kept (λ y. lt y x ≡ false) keep xs up.0, later)
    go false later = later

-- where some element passes a test, one of those passes of which P holds
pub one_passes : {A : Type 0} (P : A → Type 0) (test : A → Bool) (xs : List A) → AllByRecursion P xs → 0 < count_by test xs → (x : A) × P x × (test x ≡ true)
one_passes P test [] all some = absurd (omega arith)
one_passes P test (x ∷ xs) all some = go (test x) refl (one_passes P test xs all.1)
  where
    go : (b : Bool) → test x ≡ b → (0 < count_by test xs → (z : _) × P z × (test z ≡ true)) → (z : _) × P z × (test z ≡ true)
    go true e later = (x, all.0, e)
    go false e later = later (omega (arith, count_cons test x xs, ap {B = ℕ} (λ b. cond b 1 0) e))

-- A list in order that has the elements of a rising list is that list.
module _ {A : Type 0} (lt eq : A → A → Bool) (is : (a b : A) → eq a b ≡ true → a ≡ b) (own : (a : A) → eq a a ≡ true) where
  same_head : (x y : A) (xs ys : List A) → IsInOrder lt (x ∷ xs) → IsRising lt (y ∷ ys) → IsSame (x ∷ xs) (y ∷ ys) → x ≡ y
  same_head x y xs ys up rising same = go (eq x y) refl
    where
      go : (b : Bool) → eq x y ≡ b → x ≡ y
      go true e = is x y e
      go false e =
          let apart = ap {B = ℕ} (λ b. cond b 1 0) e in
          let first = ap {B = ℕ} (λ b. cond b 1 0) (own x) in
          let second = ap {B = ℕ} (λ b. cond b 1 0) (own y) in
          let in_xs : 0 < count_by (λ z. eq z y) xs =
          omega (arith, apart, second, same.passes (λ z. eq z y), count_cons (λ z. eq z y) x xs, count_cons (λ z. eq z y) y ys) in
          let in_ys : 0 < count_by (λ z. eq x z) ys =
          omega (arith, apart, first, same.passes (λ z. eq x z), count_cons (λ z. eq x z) x xs, count_cons (λ z. eq x z) y ys) in
          let low = one_passes (λ z. lt z x ≡ false) (λ z. eq z y) xs up.0 in_xs in
          let high = one_passes (λ z. lt y z ≡ true) (λ z. eq x z) ys rising.0 in_ys in
          let no : lt y x ≡ false = subst (λ z. lt z x ≡ false) (is low.0 y low.2) low.1 in
          let yes : lt y x ≡ true = subst (λ z. lt y z ≡ true) (sym (is x high.0 high.2)) high.1 in
          absurd (cc)

  pub same_list : (xs ys : List A) → IsInOrder lt xs → IsRising lt ys → IsSame xs ys → xs ≡ ys
  same_list [] [] up rising same = refl
  same_list [] (y ∷ ys) up rising same = absurd (omega (arith, same.passes (λ z. true), count_cons (λ z. true) y ys))
  same_list (x ∷ xs) [] up rising same = absurd (omega (arith, same.passes (λ z. true), count_cons (λ z. true) x xs))
  same_list (x ∷ xs) (y ∷ ys) up rising same =
      let head = same_head x y xs ys up rising same in
      let rest : IsSame xs ys = record {
        passes = λ test. omega (arith, same.passes test, ap {B = ℕ} (λ z. cond (test z) 1 0) head, count_cons test x xs, count_cons test y ys);
      } in
      let tail = same_list xs ys up.1 rising.1 rest in
      λ i. head i ∷ tail i

-- ---- a search by halves

-- what is neither below nor above: from where elements are no longer below, up to where they are above
pub found_between : {A : Type 0} (below most same : A → Bool) → ((x : A) → below x ≡ true → same x ≡ false)
    → ((x : A) → below x ≡ false → same x ≡ most x) → (xs : List A) (a b : ℕ) → a ≤ length xs → b ≤ length (drop a xs)
    → IsPartitionPoint (λ x. below x ≡ true) (λ x. below x ≡ false) xs a
    → IsPartitionPoint (λ x. most x ≡ true) (λ x. most x ≡ false) (drop a xs) b → filter same xs ≡ take b (drop a xs)
found_between below most same under above [] zero zero p q from to = refl
found_between below most same under above [] zero (suc b) p q from to = absurd (omega arith)
found_between below most same under above [] (suc a) b p q from to = absurd (omega arith)
found_between below most same under above (x ∷ xs) zero zero p q from to =
    let other : same x ≡ false = above x (from.1 0 x (omega arith) (omega arith)) ∙ to.1 0 x (omega arith) (omega arith) in
    let later = found_between below most same under above xs zero zero (omega arith) (omega arith)
    (λ k d m n. absurd (omega arith), λ k d m n. from.1 (suc k) d (omega arith) (omega arith))
    (λ k d m n. absurd (omega arith), λ k d m n. to.1 (suc k) d (omega arith) (omega arith)) in
    ap (λ t. cond t (x ∷ filter same xs) (filter same xs)) other ∙ later
found_between below most same under above (x ∷ xs) zero (suc b) p q from to =
    let one : same x ≡ true = above x (from.1 0 x (omega arith) (omega arith)) ∙ to.0 0 x (omega arith) (omega arith) in
    let later = found_between below most same under above xs zero b (omega arith) (omega arith)
    (λ k d m n. absurd (omega arith), λ k d m n. from.1 (suc k) d (omega arith) (omega arith))
    (λ k d m n. to.0 (suc k) d (omega arith) (omega arith), λ k d m n. to.1 (suc k) d (omega arith) (omega arith)) in
    ap (λ t. cond t (x ∷ filter same xs) (filter same xs)) one ∙ ap (λ zs. x ∷ zs) later
found_between below most same under above (x ∷ xs) (suc a) b p q from to =
    let other : same x ≡ false = under x (from.0 0 x (omega arith) (omega arith)) in
    let later = found_between below most same under above xs a b (omega arith) q
    (λ k d m n. from.0 (suc k) d (omega arith) (omega arith), λ k d m n. from.1 (suc k) d (omega arith) (omega arith)) to in
    ap (λ t. cond t (x ∷ filter same xs) (filter same xs)) other ∙ later

-- a test that parts a list parts what is left of it
pub parted_behind : {A : Type 0} (test : A → Bool) (xs : List A) (a : ℕ) → IsPartitionedBy test xs → IsPartitionedBy test (drop a xs)
parted_behind test xs zero parted = parted
parted_behind test [] (suc a) parted = λ i j d order within e. absurd (omega arith)
parted_behind test (x ∷ xs) (suc a) parted =
    parted_behind test xs a (λ i j d order within e. parted (suc i) (suc j) d (omega arith) (omega arith) e)

-- ---- what holds of each element

pub weaker : {A : Type 0} {P Q : A → Type 0} (xs : List A) → ((x : A) → P x → Q x) → AllByRecursion P xs → AllByRecursion Q xs
weaker [] so all = tt
weaker (x ∷ xs) so all = (so x all.0, weaker xs so all.1)

pub all_joined : {A : Type 0} (P : A → Type 0) (xs ys : List A) → AllByRecursion P xs → AllByRecursion P ys → AllByRecursion P (xs ++ ys)
all_joined P [] ys front back = back
all_joined P (x ∷ xs) ys front back = (front.0, all_joined P xs ys front.1 back)

pub all_three : {A : Type 0} {P Q R S : A → Type 0} (xs : List A) → ((x : A) → P x → Q x → R x → S x) → AllByRecursion P xs → AllByRecursion Q xs
    → AllByRecursion R xs → AllByRecursion S xs
all_three [] so p q r = tt
all_three (x ∷ xs) so p q r = (so x p.0 q.0 r.0, all_three xs so p.1 q.1 r.1)

-- rising lists of which each element of the one is less than each of the other
pub rising_joined : {A : Type 0} (lt : A → A → Bool) (xs ys : List A) → IsRising lt xs → IsRising lt ys
    → AllByRecursion (λ x. AllByRecursion (λ y. lt x y ≡ true) ys) xs → IsRising lt (xs ++ ys)
rising_joined lt [] ys front back across = back
rising_joined lt (x ∷ xs) ys front back across = (all_joined (λ y. lt x y ≡ true) xs ys front.0 across.0, rising_joined lt xs ys front.1 back across.1)
