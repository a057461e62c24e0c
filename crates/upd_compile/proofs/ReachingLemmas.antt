-- The positions reached so far, and the work that is left.
use Rattle.upd_compile.proofs.Common.{◌≡◌, ℕ, ◌<◌, ◌==◌, ⊎_elim, nat_lt, Bool, true, false, ◌&&◌, not, List, [], ◌∷◌, ◌++◌, length, Some, None, slice_get}
use Rattle.upd_compile.proofs.Common.{refl, sym, ◌∙◌, arith, false≢true, and_from, and_parts, eq-eqb, or_cases, or_left, or_right, cases_Bool, eqb-true}
use Rattle.upd_compile.proofs.Common.{lt-ltb, VisitsMore, follows, is_in, is_flagged}
use Rattle.std.proofs.lemmas.Bool.{not-false, or_from, or_parts}
use Rattle.upd_compile.proofs.ReachLemmas.{is_in-push}

-- A position that is visited has its followers visited, or is work.
pub record IsReaching (followers : List (List ℕ)) (seeds flags : List Bool) (work : List ℕ) : Type 0 where
  pub same_length : length flags ≡ length seeds
  pub has_seeds : (k : ℕ) → is_flagged seeds k ≡ true → is_flagged flags k ≡ true
  pub is_closed : (c d : ℕ) → is_flagged flags c ≡ true → is_in work c ≡ false → follows followers c d ≡ true → d < length flags → is_flagged flags d ≡ true
  pub is_work : (c : ℕ) → is_in work c ≡ true → is_flagged flags c ≡ true
  pub is_least : (test : ℕ → Bool) → ((c d : ℕ) → test c ≡ true → follows followers c d ≡ true → test d ≡ true)
      → ((k : ℕ) → is_flagged seeds k ≡ true → test k ≡ true) → (k : ℕ) → is_flagged flags k ≡ true → test k ≡ true

-- a position without a list is done
pub reaching-without : (followers : List (List ℕ)) (seeds flags : List Bool) (work : List ℕ) (position : ℕ) → slice_get followers position ≡ None
    → IsReaching followers seeds flags (work ++ position ∷ []) → IsReaching followers seeds flags work
reaching-without followers seeds flags work position none r = record {
  same_length = r.same_length;
  has_seeds = r.has_seeds;
  is_closed = λ c d visited done f h.
      ⊎_elim (λ here. let same : position ≡ c = eqb-true position c here in absurd (false≢true (sym (rw (← same, none) refl) ∙ f)))
      (λ other. r.is_closed c d visited (is_in-push work position c ∙ or_from (is_in work c) (position == c) done other) f h) (cases_Bool (position == c));
  is_work = λ c e. r.is_work c (is_in-push work position c ∙ or_left (is_in work c) (position == c) e);
  is_least = r.is_least;
}

-- a position is done once its followers are visited
pub reaching-more : (followers : List (List ℕ)) (next : List ℕ) (seeds flags visited : List Bool) (work still : List ℕ) (position : ℕ)
    → slice_get followers position ≡ Some next
    → VisitsMore (is_in next) flags visited work still → IsReaching followers seeds flags (work ++ position ∷ []) → IsReaching followers seeds visited still
reaching-more followers next seeds flags visited work still position found more r = record {
  same_length = more.same_length ∙ r.same_length;
  has_seeds = λ k e. more.visits_more k ∙ or_left (is_flagged flags k) _ (r.has_seeds k e);
  is_closed = λ c d is_now done f h.
      let parts = or_parts (is_in work c) (is_flagged visited c && not (is_flagged flags c)) (sym (more.opened c) ∙ done) in
      let was : is_flagged flags c ≡ true = not-false (is_flagged flags c) (rw is_now at parts.1) in
      let within : d < length flags = omega (arith, more.same_length) in
      more.visits_more d ∙ (
      ⊎_elim (λ here.
      let same : position ≡ c = eqb-true position c here in
      let in_next : is_in next d ≡ true = rw (← same, found) at f in
      or_right (is_flagged flags d) _ (and_from (is_in next d) (nat_lt d (length flags)) in_next (lt-ltb d (length flags) within)))
      (λ other. or_left (is_flagged flags d) _
      (r.is_closed c d was (is_in-push work position c ∙ or_from (is_in work c) (position == c) parts.0 other) f within))
      (cases_Bool (position == c)));
  is_work = λ c e.
      ⊎_elim (λ old. more.visits_more c
      ∙ or_left (is_flagged flags c) _ (r.is_work c (is_in-push work position c ∙ or_left (is_in work c) (position == c) old)))
      (λ new. (and_parts (is_flagged visited c) (not (is_flagged flags c)) new).0)
      (or_cases (is_in work c) _ (sym (more.opened c) ∙ e));
  is_least = λ test closed seeded k e.
      let is_work : is_flagged flags position ≡ true =
      r.is_work position (is_in-push work position position ∙ or_right (is_in work position) (position == position) (eq-eqb position position refl)) in
      ⊎_elim (λ old. r.is_least test closed seeded k old)
      (λ new. closed position k (r.is_least test closed seeded position is_work) (rw found (and_parts (is_in next k) (nat_lt k (length flags)) new).0))
      (or_cases (is_flagged flags k) _ (sym (more.visits_more k) ∙ e));
}
