-- The segments of a path.
use Rattle.upd_wire.proofs.Common.{◌≡◌, ℕ, zero, suc, ◌+◌, ◌-◌, ◌<◌, List, [], ◌∷◌, ◌++◌, length, drop, get_or, Bool, true, false, cond, ltb, ◌==◌, ◌&&◌}
use Rattle.upd_wire.proofs.Common.{refl, sym, ap, ◌∙◌, subst, arith, add-one, append-nil, drop-append_seam, take-append_seam, false≢true, nat_tests}
use Rattle.upd_wire.proofs.Common.{length-append, IsUtf8, cuts, has_slash, segment, segments_of}
use Rattle.std.proofs.Common.{nat_eq}
use Rattle.std.proofs.Math.Seq.{get_or-append_seam}
use Rattle.std.proofs.lemmas.Str.{IsCharBoundary-after_ascii, IsCharBoundary-before_ascii, IsUtf8-drop, IsUtf8-nil, IsUtf8-take}
use Rattle.std.specs.Cmp.Lexicographic.{pointwise}
use Rattle.std.specs.List.{ends_with, onto_first}

-- segments with a slash in front of each
abbrev pub spell : List (List ℕ) → List ℕ
spell [] = []
spell (s ∷ segments) = 47 ∷ s ++ spell segments

abbrev pub HaveNoSlash : List (List ℕ) → Type 0
HaveNoSlash [] = Unit {0}
HaveNoSlash (s ∷ segments) = (has_slash s ≡ false) × HaveNoSlash segments

-- a path is spelled by its segments
abbrev pub IsSpelled : List ℕ → List (List ℕ) → Type 0
IsSpelled path segments =
    (first : List ℕ) × (more : List (List ℕ)) × (segments ≡ first ∷ more) × (path ≡ first ++ spell more) × (has_slash first ≡ false) × HaveNoSlash more

pub segments_spell_path : (path : List ℕ) → IsSpelled path (segments_of path)
segments_spell_path [] = ([], [], refl, refl, refl, tt)
segments_spell_path (b ∷ path) = by (b == 47) refl (segments_spell_path path)
  where
    by : (v : Bool) → (b == 47) ≡ v → IsSpelled path (segments_of path)
        → IsSpelled (b ∷ path) (cond v ([] ∷ segments_of path) (onto_first b (segments_of path)))
    by true e (first, more, is, whole, none, rest) =
        let slash : b ≡ 47 = grind (arith, nat_tests) in
        ([], first ∷ more, ap (λ s. [] ∷ s) is, cc, refl, (none, rest))
    by false e (first, more, is, whole, none, rest) =
        (b ∷ first, more, ap (onto_first b) is, ap (λ l. b ∷ l) whole, rw e none, rest)

pub no_slash : (b : ℕ) (s : List ℕ) → has_slash (b ∷ s) ≡ false → ((b == 47) ≡ false) × (has_slash s ≡ false)
no_slash b s none = by (b == 47) refl none
  where
    by : (v : Bool) → (b == 47) ≡ v → cond v true (has_slash s) ≡ false → ((b == 47) ≡ false) × (has_slash s ≡ false)
    by true e none = absurd (false≢true (sym none))
    by false e none = (e, none)

-- where a segment ends
pub segment_whole : (s rest : List ℕ) → has_slash s ≡ false → segment (s ++ 47 ∷ rest) ≡ s ++ 47 ∷ []
segment_whole [] rest none = refl
segment_whole (b ∷ s) rest none =
    let (other, later) = no_slash b s none in
    rw other (ap (λ l. b ∷ l) (segment_whole s rest later))

-- what a path has from its first slash on
abbrev pub rest_of : List ℕ → List ℕ
rest_of [] = []
rest_of (b ∷ path) = cond (b == 47) (b ∷ path) (rest_of path)

pub rest_spelled : (s : List ℕ) → has_slash s ≡ false → (segments : List (List ℕ)) → rest_of (s ++ spell segments) ≡ spell segments
rest_spelled [] none [] = refl
rest_spelled [] none (t ∷ segments) = refl
rest_spelled (b ∷ s) none segments =
    let (other, later) = no_slash b s none in
    rw other (rest_spelled s later segments)

pub segment_all : (s : List ℕ) → has_slash s ≡ false → segment s ≡ s
segment_all [] none = refl
segment_all (b ∷ s) none =
    let (other, later) = no_slash b s none in
    rw other (ap (λ l. b ∷ l) (segment_all s later))

pub slash_in : (s rest : List ℕ) → has_slash (s ++ 47 ∷ rest) ≡ true
slash_in [] rest = refl
slash_in (b ∷ s) rest = by (b == 47) (slash_in s rest)
  where
    by : (v : Bool) → has_slash (s ++ 47 ∷ rest) ≡ true → cond v true (has_slash (s ++ 47 ∷ rest)) ≡ true
    by true is = refl
    by false is = is

-- ---- whether a slash ends a segment

ends_more : (b c : ℕ) (s : List ℕ) → ends_with nat_eq (b ∷ c ∷ s) (47 ∷ []) ≡ ends_with nat_eq (c ∷ s) (47 ∷ [])
ends_more b c s =
    let long : suc (suc (length s)) - 1 ≡ suc (length s) = omega arith in
    let short : suc (length s) - 1 ≡ length s = omega arith in
    ap (λ n. pointwise nat_eq (47 ∷ []) (drop n (b ∷ c ∷ s))) long ∙ sym (ap (λ n. pointwise nat_eq (47 ∷ []) (drop n (c ∷ s))) short)

ends_at_slash : (b : ℕ) (s : List ℕ) → ends_with nat_eq (b ∷ s ++ 47 ∷ []) (47 ∷ []) ≡ true
ends_at_slash b [] = refl
ends_at_slash b (c ∷ s) = ends_more b c (s ++ 47 ∷ []) ∙ ends_at_slash c s

ends_without : (b : ℕ) (s : List ℕ) → has_slash (b ∷ s) ≡ false → ends_with nat_eq (b ∷ s) (47 ∷ []) ≡ false
ends_without b [] none =
    let other = (no_slash b [] none).0 in
    let flipped : (47 == b) ≡ false = grind (arith, nat_tests) in
    rw flipped refl
ends_without b (c ∷ s) none = ends_more b c s ∙ ends_without c s (no_slash b (c ∷ s) none).1

pub cut_at_slash : (b : ℕ) (s : List ℕ) → cuts (b ∷ s ++ 47 ∷ []) (47 ∷ []) ≡ true
cut_at_slash b s =
    let long : ltb 1 (suc (length (s ++ 47 ∷ []))) ≡ true = (let size = length-append s (47 ∷ []) in grind (arith, nat_tests)) in
    rw (long, ends_at_slash b s) refl

pub uncut : (s : List ℕ) → has_slash s ≡ false → cuts s (47 ∷ []) ≡ false
uncut [] none = refl
uncut (b ∷ s) none =
    elim (ltb 1 (suc (length s))) as (λ v. (v && ends_with nat_eq (b ∷ s) (47 ∷ [])) ≡ false) [
      | true ↦ ends_without b s none
      | false ↦ refl
    ]

-- ---- places in a path

pub drop_next : {A : Type 0} (n : ℕ) (l : List A) (x d : A) (xs : List A) → drop n l ≡ x ∷ xs → (drop (suc n) l ≡ xs) × (get_or l n d ≡ x) × (n < length l)
drop_next zero [] x d xs is = absurd (cc)
drop_next zero (y ∷ l) x d xs is =
    let rest : l ≡ xs = cc in
    let first : y ≡ x = cc in
    (rest, first, omega arith)
drop_next (suc n) [] x d xs is = absurd (cc)
drop_next (suc n) (y ∷ l) x d xs is =
    let (rest, first, within) = drop_next n l x d xs is in
    (rest, first, omega arith)

pub drop_past : (n : ℕ) (l xs ys : List ℕ) → drop n l ≡ xs ++ ys → drop (n + length xs) l ≡ ys
drop_past n l [] ys is =
    let place : n + 0 ≡ n = omega arith in
    ap (λ m. drop m l) place ∙ is
drop_past n l (x ∷ xs) ys is =
    let (rest, first, within) = drop_next n l x 0 (xs ++ ys) is in
    let place : n + length (x ∷ xs) ≡ suc n + length xs = omega arith in
    ap (λ m. drop m l) place ∙ drop_past (suc n) l xs ys rest

-- ---- texts

spelled_text : (first : List ℕ) (more : List (List ℕ)) → IsUtf8 (first ++ spell more) → (i : ℕ) → IsUtf8 (get_or (first ∷ more) i [])
spelled_text first [] text zero = subst IsUtf8 (append-nil first) text
spelled_text first [] text (suc i) = IsUtf8-nil
spelled_text first (s ∷ more) text i =
    let rest = s ++ spell more in
    let bytes = first ++ 47 ∷ rest in
    let within : length first < length bytes = omega (arith, length-append first (47 ∷ rest)) in
    let ascii : get_or bytes (length first) 0 < 128 = rw (get_or-append_seam first 47 rest 0) (omega arith) in
    let here = subst IsUtf8 (take-append_seam first (47 ∷ rest)) (IsUtf8-take bytes (length first) text (IsCharBoundary-before_ascii bytes (length first)
    within ascii)) in
    let left : drop (length first + 1) bytes ≡ rest =
    ap (λ n. drop n bytes) (add-one (length first)) ∙ (drop_next (length first) bytes 47 0 rest (drop-append_seam first (47 ∷ rest))).0 in
    let later = subst IsUtf8 left (IsUtf8-drop bytes (length first + 1) text (IsCharBoundary-after_ascii bytes (length first) text within ascii)) in
    by here (spelled_text s more later) i
  where
    by : IsUtf8 first → ((i : ℕ) → IsUtf8 (get_or (s ∷ more) i [])) → (i : ℕ) → IsUtf8 (get_or (first ∷ s ∷ more) i [])
    by here later zero = here
    by here later (suc i) = later i

pub segments_are_text : (path : List ℕ) → IsUtf8 path → (i : ℕ) → IsUtf8 (get_or (segments_of path) i [])
segments_are_text path text i =
    let (first, more, is, whole, none, rest) = segments_spell_path path in
    subst (λ l. IsUtf8 (get_or l i [])) (sym is) (spelled_text first more (subst IsUtf8 whole text) i)
