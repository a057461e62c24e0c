-- Lists of followers that grow.
use Rattle.upd_compile.proofs.Common.{◌≡◌, ℕ, zero, suc, ◌+◌, ◌<◌, ◌==◌, nat_lt, ◌&&◌, ◌||◌, List, [], ◌∷◌, ◌++◌, length}
use Rattle.upd_compile.proofs.Common.{Some, slice_get, sym, ap, ◌∙◌, arith, and_parts, eqb-true, lt-ltb, ne_eqb}
use Rattle.upd_compile.proofs.Common.{set, length-set, FollowsMore, follows, is_in}
use Rattle.std.proofs.lemmas.Bool.{and_left}
use Rattle.upd_compile.proofs.ReachLemmas.{or-false, is_in-push, same-where, same_suc}

-- one follower more
pub follows-set : (lists : List (List ℕ)) (i e c d : ℕ) (list : List ℕ) → slice_get lists i ≡ Some list
    → follows (set lists i (list ++ e ∷ [])) c d ≡ (follows lists c d || ((i == c) && (e == d)))
follows-set [] i e c d list h = cc
follows-set (l ∷ ls) zero e zero d list h = let same : l ≡ list = cc in rw same (is_in-push list e d)
follows-set (l ∷ ls) zero e (suc c) d list h = rw (and_left (0 == suc c) (e == d) (ne_eqb 0 (suc c) (omega arith))) (sym (or-false (follows ls c d)))
follows-set (l ∷ ls) (suc i) e zero d list h = rw (and_left (suc i == 0) (e == d) (ne_eqb (suc i) 0 (omega arith))) (sym (or-false (is_in l d)))
follows-set (l ∷ ls) (suc i) e (suc c) d list h = follows-set ls i e c d list h ∙ ap (λ b. follows ls c d || (b && (e == d))) (same_suc i c)

pub FollowsMore-one : (lists : List (List ℕ)) (i e : ℕ) (list : List ℕ) → i < length lists → slice_get lists i ≡ Some list
    → FollowsMore (λ c d. (i == c) && (e == d)) lists (set lists i (list ++ e ∷ []))
FollowsMore-one lists i e list h at = record {
  follows_more = λ c d.
      follows-set lists i e c d list at
      ∙ ap (λ b. follows lists c d || b) (same-where ((i == c) && (e == d)) (nat_lt c (length lists)) (λ both.
      let same : i ≡ c = eqb-true i c (and_parts (i == c) (e == d) both).0 in lt-ltb c (length lists) (omega arith)));
  same_length = length-set lists i _;
}
