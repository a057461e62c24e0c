-- Statuses and counts that are set in order: what each reference and target gets.
use Rattle.upd_yank.proofs.Common.{◌≡◌, ℕ, Bool, true, false, cond, if◌then◌else◌, List, [], ◌∷◌, ◌++◌, Option, Some, None, refl, ap, sym, ◌∙◌, ◌==◌, filter}
use Rattle.upd_yank.proofs.Common.{update, update_all, Decides-eqb, Target, is_same, same_ref, CardRef, same_ref_own, put_counts}
use Rattle.upd_core.proofs.CountedLemmas.{same_target_sym, target_same}
use Rattle.upd_yank.proofs.RefLemmas.{same_ref_sym}
use Rattle.upd_yank.specs.Right.{count_pairs, status_pairs}

-- ---- statuses

-- what a reference gets depends only on what it had
update_here : (ps : List (CardRef × Bool)) (f g : CardRef → Option Bool) (r : CardRef) → f r ≡ g r → update_all same_ref f ps r ≡ update_all same_ref g ps r
update_here [] f g r e = e
update_here (p ∷ ps) f g r e =
    update_here ps (update same_ref f p.0 (Some p.1)) (update same_ref g p.0 (Some p.1)) r (ap (λ o. cond (same_ref p.0 r) (Some p.1) o) e)

-- and on the pairs that are its own
update_own : (ps : List (CardRef × Bool)) (f : CardRef → Option Bool) (r : CardRef) →
    update_all same_ref f ps r ≡ update_all same_ref f (filter (λ p. same_ref r p.0) ps) r
update_own [] f r = refl
update_own (p ∷ ps) f r = go (same_ref r p.0) refl (update_own ps (update same_ref f p.0 (Some p.1)) r)
  where
    go : (b : Bool) → same_ref r p.0 ≡ b → update_all same_ref (update same_ref f p.0 (Some p.1)) ps r
        ≡ update_all same_ref (update same_ref f p.0 (Some p.1)) (filter (λ p. same_ref r p.0) ps) r →
        update_all same_ref f (p ∷ ps) r ≡ update_all same_ref f (if same_ref r p.0 then p ∷ filter (λ p. same_ref r p.0) ps else filter
        (λ p. same_ref r p.0) ps) r
    go true e later = later ∙ sym (ap (λ b. update_all same_ref f (if b then p ∷ filter (λ p. same_ref r p.0) ps else filter (λ p. same_ref r p.0) ps) r) e)
    go false e later =
        later
        ∙ update_here (filter (λ p. same_ref r p.0) ps) (update same_ref f p.0 (Some p.1)) f r (ap (λ b. cond b (Some p.1) (f r)) (same_ref_sym p.0 r ∙ e))
        ∙ sym (ap (λ b. update_all same_ref f (if b then p ∷ filter (λ p. same_ref r p.0) ps else filter (λ p. same_ref r p.0) ps) r) e)

pub status_put : (ps : List (CardRef × Bool)) (f : CardRef → Option Bool) (r : CardRef) (o : Option Bool) → f r ≡ None →
    filter (λ p. same_ref r p.0) ps ≡ status_pairs r o →
    update_all same_ref f ps r ≡ o
status_put ps f r o none shown = update_own ps f r ∙ ap (λ x. update_all same_ref f x r) shown ∙ go o
  where
    go : (o : Option Bool) → update_all same_ref f (status_pairs r o) r ≡ o
    go None = none
    go (Some s) = ap (λ b. cond b (Some s) (f r)) (same_ref_own r)

-- ---- counts

put_here : (ps : List (Target × ℕ)) (f g : Target → ℕ) (t : Target) → f t ≡ g t → put_counts ps f t ≡ put_counts ps g t
put_here [] f g t e = e
put_here (p ∷ ps) f g t e =
    put_here ps (λ u. if is_same p.0 u then p.1 else f u) (λ u. if is_same p.0 u then p.1 else g u) t (ap (λ n. if is_same p.0 t then p.1 else n) e)

put_own : (ps : List (Target × ℕ)) (f : Target → ℕ) (t : Target) → put_counts ps f t ≡ put_counts (filter (λ p. is_same t p.0) ps) f t
put_own [] f t = refl
put_own (p ∷ ps) f t = go (is_same t p.0) refl (put_own ps (λ u. if is_same p.0 u then p.1 else f u) t)
  where
    next : Target → ℕ
    next u = if is_same p.0 u then p.1 else f u

    go : (b : Bool) → is_same t p.0 ≡ b → put_counts ps next t ≡ put_counts (filter (λ p. is_same t p.0) ps) next t →
        put_counts (p ∷ ps) f t ≡ put_counts (if is_same t p.0 then p ∷ filter (λ p. is_same t p.0) ps else filter (λ p. is_same t p.0) ps) f t
    go true e later = later ∙ sym (ap (λ b. put_counts (if b then p ∷ filter (λ p. is_same t p.0) ps else filter (λ p. is_same t p.0) ps) f t) e)
    go false e later =
        later
        ∙ put_here (filter (λ p. is_same t p.0) ps) next f t (ap (λ b. if b then p.1 else f t) (same_target_sym p.0 t ∙ e))
        ∙ sym (ap (λ b. put_counts (if b then p ∷ filter (λ p. is_same t p.0) ps else filter (λ p. is_same t p.0) ps) f t) e)

pub count_put : (ps : List (Target × ℕ)) (f : Target → ℕ) (t : Target) (n : ℕ) → f t ≡ 0 → filter (λ p. is_same t p.0) ps ≡ count_pairs t n →
    put_counts ps f t ≡ n
count_put ps f t n none shown = put_own ps f t ∙ ap (λ x. put_counts x f t) shown ∙ go (n == 0) refl
  where
    go : (b : Bool) → (n == 0) ≡ b → put_counts (if b then [] else (t, n) ∷ []) f t ≡ n
    go true e = none ∙ sym ((Decides-eqb n 0).0 e)
    go false e = ap (λ b. if b then n else f t) (target_same t)

-- one count more
pub put_more : (ps : List (Target × ℕ)) (g : Target → ℕ) (p : Target × ℕ) (t : Target) →
    (if is_same p.0 t then p.1 else put_counts ps g t) ≡ put_counts (ps ++ p ∷ []) g t
put_more [] g p t = refl
put_more (q ∷ ps) g p t = put_more ps (λ u. if is_same q.0 u then q.1 else g u) p t
