-- Flags and positions.
use Rattle.upd_compile.proofs.Common.{◌≡◌, ℕ, zero, suc, ◌<◌, ◌≤◌, ◌==◌, ◌⊎◌, ⊎_elim, nat_lt, Bool, true, false, ◌&&◌, ◌||◌, not, cond, List, [], ◌∷◌, ◌++◌}
use Rattle.upd_compile.proofs.Common.{length, take, get_or, refl, sym, ap, ◌∙◌, arith, false≢true, and_parts, and_right, or_right, eqb-true, lt-ltb, ne_eqb}
use Rattle.upd_compile.proofs.Common.{set, length-set, VisitsMore, is_in, is_flagged}
use Rattle.std.proofs.Common.{length-append}
use Rattle.std.proofs.lemmas.Bool.Decides.{nat_tests}
use Rattle.std.proofs.lemmas.Bool.{ltb-true}
use Rattle.std.proofs.lemmas.List.Folds.{list_any-append}
use Rattle.std.proofs.lemmas.List.Sums.{sum_by-set}
use Rattle.std.proofs.lemmas.Option.{slice_get-get_or}

pub and-true : (b : Bool) → (b && true) ≡ b
and-true true = refl
and-true false = refl

pub or-false : (b : Bool) → (b || false) ≡ b
or-false true = refl
or-false false = refl

pub same_suc : (i k : ℕ) → (i == k) ≡ (suc i == suc k)
same_suc i k = grind (arith, nat_tests)

-- one flag more in front of a position
pub is_flagged-more : (flags : List Bool) (i k : ℕ) (b : Bool) → i < length flags → b ≡ get_or flags i b
    → is_flagged (take (suc i) flags) k ≡ (is_flagged (take i flags) k || (b && (i == k)))
is_flagged-more [] i k b h e = absurd (omega arith)
is_flagged-more (m ∷ ms) zero zero b h e = rw e (sym (and-true m))
is_flagged-more (m ∷ ms) zero (suc k) b h e = sym (and_right b _ (ne_eqb 0 (suc k) (omega arith)))
is_flagged-more (m ∷ ms) (suc i) zero b h e = rw (and_right b _ (ne_eqb (suc i) 0 (omega arith))) (sym (or-false m))
is_flagged-more (m ∷ ms) (suc i) (suc k) b h e = is_flagged-more ms i k b (omega arith) e ∙ ap (λ c. is_flagged (take i ms) k || (b && c)) (same_suc i k)

-- a flag that is set
pub is_flagged-set : (flags : List Bool) (i k : ℕ) → i < length flags → is_flagged (set flags i true) k ≡ (is_flagged flags k || (i == k))
is_flagged-set [] i k h = absurd (omega arith)
is_flagged-set (m ∷ ms) zero zero h = sym (or_right m true refl)
is_flagged-set (m ∷ ms) zero (suc k) h = rw (ne_eqb 0 (suc k) (omega arith)) (sym (or-false (is_flagged ms k)))
is_flagged-set (m ∷ ms) (suc i) zero h = rw (ne_eqb (suc i) 0 (omega arith)) (sym (or-false m))
is_flagged-set (m ∷ ms) (suc i) (suc k) h = is_flagged-set ms i k (omega arith) ∙ ap (λ c. is_flagged ms k || c) (same_suc i k)

pub is_flagged-at : (flags : List Bool) (k : ℕ) (d : Bool) → k < length flags → is_flagged flags k ≡ get_or flags k d
is_flagged-at flags k d h = rw (slice_get-get_or flags k d h) refl

-- a position more in a list
pub is_in-push : (positions : List ℕ) (i k : ℕ) → is_in (positions ++ i ∷ []) k ≡ (is_in positions k || (i == k))
is_in-push positions i k = list_any-append (λ p. p == k) positions (i ∷ []) ∙ ap (λ b. is_in positions k || b) (or-false (i == k))

-- tests that follow from one another
pub same-where : (b c : Bool) → (b ≡ true → c ≡ true) → b ≡ (b && c)
same-where true c h = sym (h refl)
same-where false c h = refl

new-where : (m e : Bool) → (e ≡ true → m ≡ false) → e ≡ ((m || e) && not m)
new-where true true h = absurd (false≢true (sym (h refl)))
new-where true false h = refl
new-where false true h = refl
new-where false false h = refl

old-where : (m e : Bool) → (e ≡ true → m ≡ true) → m ≡ (m || e)
old-where true e h = refl
old-where false true h = h refl
old-where false false h = refl

not_both : (m : Bool) → (m && not m) ≡ false
not_both true = refl
not_both false = refl

-- one position more
pub VisitsMore-one : (flags : List Bool) (work : List ℕ) (i : ℕ) → i < length flags → is_flagged flags i ≡ false
    → VisitsMore (λ k. i == k) flags (set flags i true) work (work ++ i ∷ [])
VisitsMore-one flags work i h unvisited = record {
  visits_more = λ k.
      is_flagged-set flags i k h
      ∙ ap (λ b. is_flagged flags k || b)
      (same-where (i == k) (nat_lt k (length flags)) (λ e. let same : i ≡ k = eqb-true i k e in lt-ltb k (length flags) (omega arith)));
  opened = λ k.
      is_in-push work i k ∙ ap (λ b. is_in work k || b) (new-where (is_flagged flags k) (i == k) (λ e. ap (is_flagged flags) (sym (eqb-true i k e)) ∙ unvisited)
      ∙ ap (λ b. b && not (is_flagged flags k)) (sym (is_flagged-set flags i k h)));
  same_length = length-set flags i true;
  same_work =
      let off : get_or flags i false ≡ false = sym (is_flagged-at flags i false h) ∙ unvisited in
      let fewer = rw off at (sum_by-set (λ b. cond (not b) 1 0) flags i true false h) in
      simp length-append (omega (arith, fewer));
}

pub VisitsMore-none : (flags : List Bool) (work : List ℕ) (i : ℕ) → (is_flagged flags i ≡ true) ⊎ (length flags ≤ i)
    → VisitsMore (λ k. i == k) flags flags work work
VisitsMore-none flags work i h = record {
  visits_more = λ k. old-where (is_flagged flags k) ((i == k) && nat_lt k (length flags)) (λ e.
      let parts = and_parts (i == k) (nat_lt k (length flags)) e in
      let same : i ≡ k = eqb-true i k parts.0 in
      let within : k < length flags = ltb-true k (length flags) parts.1 in
      ⊎_elim (λ visited. ap (is_flagged flags) (sym same) ∙ visited) (λ past. absurd (omega arith)) h);
  opened = λ k. sym (or-false (is_in work k)) ∙ ap (λ b. is_in work k || b) (sym (not_both (is_flagged flags k)));
  same_length = refl;
  same_work = refl;
}
