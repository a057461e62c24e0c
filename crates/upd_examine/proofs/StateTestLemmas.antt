-- What tests of stored statuses and counts decide together.
use Rattle.upd_examine.proofs.Common.{◌≡◌, ℕ, Bool, ◌&&◌, List, map, sym, ◌∙◌, subst, ◌↔◌, ◌==◌, IsTrue, and_parts, and_from, list_all, CardView, LibraryView}
use Rattle.upd_examine.proofs.Common.{AreApart, IsSound, count_in, States, Target, IsSame, AreStatesOf, CacheView, IsRight, put_counts, AreCounts, is_count}
use Rattle.upd_examine.proofs.Common.{is_counted, own_states}
use Rattle.upd_examine.proofs.StoredCountLemmas.{counts_decided}
use Rattle.upd_examine.proofs.StoredStateLemmas.{statuses_decided}

pub counts_tested : (counts stored by : List (Target × ℕ)) (yanks : List CardView) (targets : List Target) (a b c : Bool)
    → ((t : Target) → count_in by t ≡ put_counts stored (λ _. 0) t) → targets ≡ map (λ p. p.0) stored → (IsTrue a ↔ AreApart targets)
    → b ≡ list_all (is_count counts) stored → c ≡ list_all (λ y. list_all (λ t. count_in by t == count_in counts t) y.targets) yanks
    → IsTrue (a && (b && c)) ↔ AreCounts counts stored yanks
counts_tested counts stored by yanks targets a b c is own apart each all =
    let same : list_all (λ y. list_all (λ t. count_in by t == count_in counts t) y.targets) yanks
    ≡ list_all (λ y. list_all (is_counted counts stored) y.targets) yanks =
    λ i. list_all (λ (y : CardView). list_all (λ t. is t i == count_in counts t) y.targets) yanks in (
      (λ t.
          let p = and_parts a (b && c) t in
          let q = and_parts b c p.1 in
          record { apart = subst AreApart own (apart.0 p.0); each = sym each ∙ q.0; all = sym same ∙ (sym all ∙ q.1) }),
      (λ are.
          and_from a (b && c) (apart.1 (subst AreApart (sym own) are.apart)) (and_from b c (each ∙ are.each) (all ∙ (same ∙ are.all)))),
    )

pub states_decided : (l : LibraryView) (cache : CacheView) (stored : States) (a b : Bool) → IsSound l → IsRight l cache
    → (IsTrue a ↔ IsSame stored.states.items (own_states cache.states l)) → (IsTrue b ↔ AreCounts cache.counts stored.counts.items l.yanks)
    → IsTrue (a && b) ↔ AreStatesOf stored l
states_decided l cache stored a b sound right states counts =
    let one = statuses_decided l cache sound right stored.states.items in
    let two = counts_decided l cache right stored.counts.items in (
      (λ t.
          let p = and_parts a b t in
          record { states = one.0 (states.0 p.0); counts = two.0 (counts.0 p.1) }),
      (λ are. and_from a b (states.1 (one.1 are.states)) (counts.1 (two.1 are.counts))),
    )
