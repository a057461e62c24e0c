-- Names lie as their keys do.
use Rattle.std.proofs.Common.{◌≡◌, ℕ, zero, suc, ◌+◌, ◌-◌, ◌*◌, ◌<◌, ◌≤◌, [], ◌∷◌, ◌++◌, length, get_or, take, replicate, refl, sym, ap, subst, ◌∙◌, arith}
use Rattle.std.proofs.Common.{append_assoc}
use Rattle.std.proofs.Math.Seq.{take-suc}
use Rattle.std.proofs.lemmas.Cmp.{nat_list_cmp_total, tied_itself}
use Rattle.std.proofs.lemmas.List.{length-append, length-replicate, length-take-le, take_all}
use Rattle.std.specs.Cmp.{nat_cmp_is, ranks}
use Rattle.std.specs.Cmp.Lexicographic.{slice_cmp}
use Rattle.std.specs.Ordering.{MatchOrdering, nat_cmp, ordering_then}
use Rattle.std.specs.Slice.Scan.{big_endian}
use Rattle.std.specs.declared.cmp.Ordering.{Ordering}
use Rattle.std.specs.declared.cmp.Ordering.TheVariants.{Less, Equal, Greater}
use Rattle.upd_text.specs.NameKeys.{back, front, padded}
use Rattle.upd_text.specs.Units.{Bytes}

abbrev AreBytes : Bytes → Type 0
AreBytes us = (k : ℕ) → get_or us k 0 < 256

then_Equal : (o : Ordering) → ordering_then o Equal ≡ o
then_Equal Less = refl
then_Equal Equal = refl
then_Equal Greater = refl

then_assoc : (o p q : Ordering) → ordering_then (ordering_then o p) q ≡ ordering_then o (ordering_then p q)
then_assoc Less p q = refl
then_assoc Equal p q = refl
then_assoc Greater p q = refl

below : (p q : ℕ) → p < q → nat_cmp p q ≡ Less
below p q less = sym (nat_cmp_is p q Less less)

above : (p q : ℕ) → q < p → nat_cmp p q ≡ Greater
above p q less = sym (nat_cmp_is p q Greater less)

-- one more digit on each side decides where the numbers don't
one_more : (a b u v : ℕ) → u < 256 → v < 256 → nat_cmp (a * 256 + u) (b * 256 + v) ≡ ordering_then (nat_cmp a b) (nat_cmp u v)
one_more a b u v us vs = sym (nat_cmp_is _ _ _ (go (nat_cmp a b) (nat_cmp u v) (ranks a b) (ranks u v)))
  where
    go : (o p : Ordering) → MatchOrdering o (a < b) (a ≡ b) (b < a) → MatchOrdering p (u < v) (u ≡ v) (v < u)
        → MatchOrdering (ordering_then o p) (a * 256 + u < b * 256 + v) (a * 256 + u ≡ b * 256 + v) (b * 256 + v < a * 256 + u)
    go Less p l m = let e : a < b = l in omega (arith, us, vs)
    go Equal Less l m = let e : a ≡ b = l in let f : u < v = m in omega arith
    go Equal Equal l m = let e : a ≡ b = l in let f : u ≡ v = m in omega arith
    go Equal Greater l m = let e : a ≡ b = l in let f : v < u = m in omega arith
    go Greater p l m = let e : b < a = l in omega (arith, us, vs)

-- the numbers that digits spell behind others lie as the others do, or else as the digits do
spelled : (n : ℕ) (us vs : Bytes) (a b : ℕ) → n ≤ length us → n ≤ length vs → AreBytes us → AreBytes vs
    → nat_cmp (big_endian a (take n us)) (big_endian b (take n vs)) ≡ ordering_then (nat_cmp a b) (slice_cmp nat_cmp (take n us) (take n vs))
spelled zero us vs a b e f small other = sym (then_Equal (nat_cmp a b))
spelled (suc n) [] vs a b e f small other = absurd (omega arith)
spelled (suc n) (u ∷ us) [] a b e f small other = absurd (omega arith)
spelled (suc n) (u ∷ us) (v ∷ vs) a b e f small other =
    spelled n us vs (a * 256 + u) (b * 256 + v) (omega arith) (omega arith) (λ k. small (suc k)) (λ k. other (suc k))
    ∙ ap (λ r. ordering_then r (slice_cmp nat_cmp (take n us) (take n vs))) (one_more a b u v (small 0) (other 0))
    ∙ then_assoc (nat_cmp a b) (nat_cmp u v) (slice_cmp nat_cmp (take n us) (take n vs))

-- behind fronts of one length, what follows decides where the fronts don't
joined : (us vs xs ys : Bytes) → length us ≡ length vs
    → slice_cmp nat_cmp (us ++ xs) (vs ++ ys) ≡ ordering_then (slice_cmp nat_cmp us vs) (slice_cmp nat_cmp xs ys)
joined [] [] xs ys e = refl
joined [] (v ∷ vs) xs ys e = absurd (omega arith)
joined (u ∷ us) [] xs ys e = absurd (omega arith)
joined (u ∷ us) (v ∷ vs) xs ys e =
    ap (ordering_then (nat_cmp u v)) (joined us vs xs ys (omega arith))
    ∙ sym (then_assoc (nat_cmp u v) (slice_cmp nat_cmp us vs) (slice_cmp nat_cmp xs ys))

-- the empty name, padded, is less than another, if the number behind it is
shorter : (m n p q : ℕ) (ys : Bytes) → p < q → m ≡ length ys + n
    → slice_cmp nat_cmp (replicate m 0 ++ p ∷ []) (ys ++ (replicate n 0 ++ q ∷ [])) ≡ Less
shorter zero zero p q [] less e = ap (λ r. ordering_then r Equal) (below p q less)
shorter zero (suc n) p q [] less e = absurd (omega arith)
shorter zero n p q (y ∷ ys) less e = absurd (omega arith)
shorter (suc m) zero p q [] less e = absurd (omega arith)
shorter (suc m) (suc n) p q [] less e = shorter m n p q [] less (omega arith)
shorter (suc m) n p q (zero ∷ ys) less e = shorter m n p q ys less (omega arith)
shorter (suc m) n p q (suc y ∷ ys) less e =
    ap (λ r. ordering_then r (slice_cmp nat_cmp (replicate m 0 ++ p ∷ []) (ys ++ (replicate n 0 ++ q ∷ [])))) (below 0 (suc y) (omega arith))

longer : (m n p q : ℕ) (xs : Bytes) → q < p → length xs + m ≡ n
    → slice_cmp nat_cmp (xs ++ (replicate m 0 ++ p ∷ [])) (replicate n 0 ++ q ∷ []) ≡ Greater
longer zero zero p q [] less e = ap (λ r. ordering_then r Equal) (above p q less)
longer (suc m) zero p q [] less e = absurd (omega arith)
longer m zero p q (x ∷ xs) less e = absurd (omega arith)
longer zero (suc n) p q [] less e = absurd (omega arith)
longer (suc m) (suc n) p q [] less e = longer m n p q [] less (omega arith)
longer m (suc n) p q (zero ∷ xs) less e = longer m n p q xs less (omega arith)
longer m (suc n) p q (suc x ∷ xs) less e =
    ap (λ r. ordering_then r (slice_cmp nat_cmp (xs ++ (replicate m 0 ++ p ∷ [])) (replicate n 0 ++ q ∷ []))) (above (suc x) 0 (omega arith))

-- names that are padded to one length, with their lengths behind, lie as they are
padded_lie : (xs ys : Bytes) (m n p q k : ℕ) → length xs + m ≡ length ys + n → p ≡ length xs + k → q ≡ length ys + k
    → slice_cmp nat_cmp (xs ++ (replicate m 0 ++ p ∷ [])) (ys ++ (replicate n 0 ++ q ∷ [])) ≡ slice_cmp nat_cmp xs ys
padded_lie [] [] m n p q k e f g =
    let same : m ≡ n = omega arith in
    let ends : p ≡ q = omega arith in
    subst (λ z. slice_cmp nat_cmp (replicate m 0 ++ p ∷ []) z ≡ Equal) (λ i. replicate (same i) 0 ++ ends i ∷ [])
    (tied_itself nat_list_cmp_total (replicate m 0 ++ p ∷ []))
padded_lie [] (y ∷ ys) m n p q k e f g = shorter m n p q (y ∷ ys) (omega arith) (omega arith)
padded_lie (x ∷ xs) [] m n p q k e f g = longer m n p q (x ∷ xs) (omega arith) (omega arith)
padded_lie (x ∷ xs) (y ∷ ys) m n p q k e f g =
    ap (ordering_then (nat_cmp x y)) (padded_lie xs ys m n p q (suc k) (omega arith) (omega arith) (omega arith))

nine : (name : Bytes) → length name ≤ 9 → length (padded name) ≡ 9
nine name short = length-append name (replicate (9 - length name) 0) ∙ omega (arith, length-replicate {A = ℕ} (9 - length name) 0, short)

-- the digits of a name: those of its two numbers
digits : (name : Bytes) → length name ≤ 9
    → name ++ (replicate (9 - length name) 0 ++ length name ∷ []) ≡ take 8 (padded name) ++ (get_or (padded name) 8 0 ∷ length name ∷ [])
digits name short =
    sym (append_assoc name (replicate (9 - length name) 0) (length name ∷ []))
    ∙ ap (λ z. z ++ length name ∷ [])
    (sym (take_all 9 (padded name) (omega (arith, nine name short))) ∙ take-suc (padded name) 8 0 (omega (arith, nine name short)))
    ∙ append_assoc (take 8 (padded name)) (get_or (padded name) 8 0 ∷ []) (length name ∷ [])

pub keys_lie : (xs ys : Bytes) → length xs ≤ 9 → length ys ≤ 9 → AreBytes (padded xs) → AreBytes (padded ys)
    → ordering_then (nat_cmp (front xs) (front ys)) (nat_cmp (back xs) (back ys)) ≡ slice_cmp nat_cmp xs ys
keys_lie xs ys short other small bytes =
    let fronts = spelled 8 (padded xs) (padded ys) 0 0 (omega (arith, nine xs short)) (omega (arith, nine ys other)) small bytes in
    let same : length (take 8 (padded xs)) ≡ length (take 8 (padded ys)) =
    length-take-le 8 (padded xs) (omega (arith, nine xs short)) ∙ sym (length-take-le 8 (padded ys) (omega (arith, nine ys other))) in
    let x = get_or (padded xs) 8 0 in
    let y = get_or (padded ys) 8 0 in
    let backs = one_more x y (length xs) (length ys) (omega (arith, short)) (omega (arith, other)) in
    let ends : ordering_then (nat_cmp x y) (ordering_then (nat_cmp (length xs) (length ys)) Equal)
    ≡ ordering_then (nat_cmp x y) (nat_cmp (length xs) (length ys)) =
    ap (ordering_then (nat_cmp x y)) (then_Equal (nat_cmp (length xs) (length ys))) in
    (λ i. ordering_then (fronts i) ((backs ∙ sym ends) i))
    ∙ sym (joined (take 8 (padded xs)) (take 8 (padded ys)) (x ∷ length xs ∷ []) (y ∷ length ys ∷ []) same)
    ∙ (λ i. slice_cmp nat_cmp (sym (digits xs short) i) (sym (digits ys other) i))
    ∙ padded_lie xs ys (9 - length xs) (9 - length ys) (length xs) (length ys) 0 (omega (arith, short, other)) (omega arith) (omega arith)
