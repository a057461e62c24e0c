-- The order of targets is that of their keys.
use Rattle.upd_row_store.proofs.Common.{◌≡◌, ◌+◌, List, slice_index_or, refl, ap, sym, ◌∙◌, is_lt, nat_cmp, ordering_then, IsSortedBy, Ordering, Less, Equal}
use Rattle.upd_row_store.proofs.Common.{Greater, Target}
use Rattle.std.specs.List.Sorted.{IsSortedByKey}
use Rattle.upd_core.specs.Order.{key_order, target_key, target_order}
use Rattle.upd_core.specs.declared.target.Target.TheVariants.{Set, SetIn, Deck}

pub then_equal : (r : Ordering) → r ≡ ordering_then r Equal
then_equal Less = refl
then_equal Equal = refl
then_equal Greater = refl

target_by_key : (s t : Target) → target_order s t ≡ key_order (target_key s) (target_key t)
target_by_key (Set a) (Set b) = then_equal (nat_cmp a b)
target_by_key (Set a) (SetIn b d) = refl
target_by_key (Set a) (Deck d) = refl
target_by_key (SetIn a e) (Set b) = refl
target_by_key (SetIn a e) (SetIn b d) = refl
target_by_key (SetIn a e) (Deck d) = refl
target_by_key (Deck e) (Set b) = refl
target_by_key (Deck e) (SetIn b d) = refl
target_by_key (Deck e) (Deck d) = then_equal (nat_cmp e d)

-- what is sorted by targets is sorted by their keys
pub sorted_by_key : {A : Type 0} (of : A → Target) (xs : List A) → IsSortedByKey of target_order xs
    → IsSortedBy (λ a b. is_lt (key_order (target_key (of a)) (target_key (of b)))) xs
sorted_by_key of xs up = λ k d low within. ap is_lt (sym (target_by_key (of (slice_index_or xs (k + 1) d)) (of (slice_index_or xs k d)))) ∙ up k d low within
