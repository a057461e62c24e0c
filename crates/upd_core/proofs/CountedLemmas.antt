-- Counts of targets: equal targets, and one more target counted.
use Rattle.upd_core.proofs.Common.{◌≡◌, ℕ, ◌+◌, ◌<◌, ◌≤◌, min, Bool, true, false, ◌&&◌, if◌then◌else◌, List, take, length, get_or, count_by, cond, Some}
use Rattle.upd_core.proofs.Common.{Option, refl, ap, sym, ◌∙◌, arith, ◌==◌, nat_tests, Decides-eqb, sum_by-take-drop, count_in, Target, Set, SetIn, Deck}
use Rattle.upd_core.proofs.Common.{is_same}
use Rattle.std.proofs.Common.{unwrap_or}
use Rattle.std.proofs.lemmas.List.Sums.{count_by_more_yes, count_by_more_no}
use Rattle.std.specs.BTreeMap as tree
use Rattle.std.specs.BTreeMap.{BTreeMap, is_at}
use Rattle.std.specs.Map.{lookup}
use Rattle.std.specs.Ordering.{is_eq}
use Rattle.upd_core.specs.contracts.target.TargetOrd.TheImpl as order

both_equal : (a b c d : ℕ) → ((a == b) && (c == d)) ≡ true → (a ≡ b) × (c ≡ d)
both_equal a b c d e = go (a == b) refl (c == d) refl e
  where
    go : (x : Bool) → (a == b) ≡ x → (y : Bool) → (c == d) ≡ y → (x && y) ≡ true → (a ≡ b) × (c ≡ d)
    go true f true g e = ((Decides-eqb a b).0 f, (Decides-eqb c d).0 g)
    go true f false g e = absurd (cc)
    go false f y g e = absurd (cc)

pub same_target : (t u : Target) → is_same t u ≡ true → t ≡ u
same_target (Set a) (Set b) e = ap Set ((Decides-eqb a b).0 e)
same_target (Set a) (SetIn b d) e = absurd (cc)
same_target (Set a) (Deck d) e = absurd (cc)
same_target (SetIn a d) (Set b) e = absurd (cc)
same_target (SetIn a d) (SetIn b f) e = let p = both_equal a b d f e in λ i. SetIn (p.0 i) (p.1 i)
same_target (SetIn a d) (Deck f) e = absurd (cc)
same_target (Deck d) (Set b) e = absurd (cc)
same_target (Deck d) (SetIn b f) e = absurd (cc)
same_target (Deck d) (Deck f) e = ap Deck ((Decides-eqb d f).0 e)

pub target_same : (t : Target) → is_same t t ≡ true
target_same (Set a) = (Decides-eqb a a).1 refl
target_same (SetIn a d) = rw ((Decides-eqb a a).1 refl, (Decides-eqb d d).1 refl) refl
target_same (Deck d) = (Decides-eqb d d).1 refl

-- the order of two targets doesn't affect whether they are the same
pub same_target_sym : (t u : Target) → is_same t u ≡ is_same u t
same_target_sym t u = go (is_same t u) refl (is_same u t) refl
  where
    go : (b : Bool) → is_same t u ≡ b → (c : Bool) → is_same u t ≡ c → is_same t u ≡ is_same u t
    go true e true f = e ∙ sym f
    go false e false f = e ∙ sym f
    go true e false f = absurd (let p = same_target t u e in let q = ap (λ x. is_same x t) p in let r = target_same t in cc)
    go false e true f = absurd (let p = same_target u t f in let q = ap (λ x. is_same x u) p in let r = target_same u in cc)

-- the order of targets is equal where they are the same
pub same_by_order : (t u : Target) → is_eq ((order.ghosts).cmp t u) ≡ is_same t u
same_by_order (Set a) (Set b) = grind (arith, nat_tests)
same_by_order (Set a) (SetIn b d) = refl
same_by_order (Set a) (Deck d) = refl
same_by_order (SetIn a d) (Set b) = refl
same_by_order (SetIn a d) (SetIn b f) = grind (arith, nat_tests)
same_by_order (SetIn a d) (Deck f) = refl
same_by_order (Deck d) (Set b) = refl
same_by_order (Deck d) (SetIn b f) = refl
same_by_order (Deck d) (Deck f) = grind (arith, nat_tests)

count_from_get : (m : BTreeMap Target ℕ) (t : Target) → count_in m.entries t ≡ unwrap_or (tree.get (order.ghosts).cmp m t) 0
count_from_get m t = ap (λ (test : Target → Bool). unwrap_or (lookup test m.entries) 0) (λ i u. sym (same_by_order t u) i)

-- the counts once that of k is v
pub put_count : (m n : BTreeMap Target ℕ) (k : Target) (v : ℕ) (t : Target) →
    tree.get (order.ghosts).cmp n t ≡ cond (is_at ((order.ghosts).cmp k) t) (Some v) (tree.get (order.ghosts).cmp m t) →
    count_in n.entries t ≡ (if is_same k t then v else count_in m.entries t)
put_count m n k v t is =
    count_from_get n t ∙ ap (λ (o : Option ℕ). unwrap_or o 0) is ∙ go (is_same k t) (same_by_order k t) (count_from_get m t)
  where
    go : (b : Bool) → is_eq ((order.ghosts).cmp k t) ≡ b → count_in m.entries t ≡ unwrap_or (tree.get (order.ghosts).cmp m t) 0 →
        unwrap_or (cond (is_at ((order.ghosts).cmp k) t) (Some v) (tree.get (order.ghosts).cmp m t)) 0 ≡ (if b then v else count_in m.entries t)
    go true e had = rw e refl
    go false e had = rw e (sym had)

-- the count of t once x, the next of some targets, is counted too
pub raised_more : (f g : Target → ℕ) (t x d : Target) (ts : List Target) (i start count : ℕ) → i < length ts → x ≡ get_or ts i d →
    f t ≡ start + count_by (is_same t) (take i ts) → start + count_by (is_same t) ts < 4294967296 → count ≡ min (f x + 1) 4294967295 →
    g t ≡ (if is_same x t then count else f t) → g t ≡ start + count_by (is_same t) (take (i + 1) ts)
raised_more f g t x d ts i start count within read so_far fits raised is = go (is_same x t) refl is
  where
    short : count_by (is_same t) (take (i + 1) ts) ≤ count_by (is_same t) ts
    short = omega (arith, sum_by-take-drop (λ u. if is_same t u then 1 else 0) ts (i + 1))

    go : (b : Bool) → is_same x t ≡ b → g t ≡ (if b then count else f t) → g t ≡ start + count_by (is_same t) (take (i + 1) ts)
    go true e is =
        let same : f x ≡ f t = ap f (same_target x t e) in
        let here : is_same t (get_or ts i d) ≡ true = ap (is_same t) (sym read) ∙ same_target_sym t x ∙ e in
        omega (arith, count_by_more_yes (is_same t) ts i d within here, short)
    go false e is =
        let here : is_same t (get_or ts i d) ≡ false = ap (is_same t) (sym read) ∙ same_target_sym t x ∙ e in
        omega (arith, count_by_more_no (is_same t) ts i d within here)
