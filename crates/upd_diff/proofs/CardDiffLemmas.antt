-- Card diffs that are found one after the other.
use Rattle.upd_diff.proofs.Common.{ℕ, ◌+◌, List, [], ◌∷◌, ◌++◌, map, take, drop, refl, ap, subst, ◌∙◌, append-nil, arith, flat_map-append, CardView}
use Rattle.upd_diff.proofs.Common.{CardDiffView, Gone, New, card_before, card_after, IsKept, AreCardDiffs}
use Rattle.std.proofs.lemmas.List.{take-append-drop}
use Rattle.upd_diff.proofs.AllLemmas.{all_joined}

-- card diffs with those of more cards
pub diffs_joined : (xs ys us vs : List CardView) (fs gs : List CardDiffView) → AreCardDiffs xs ys fs → AreCardDiffs us vs gs
    → AreCardDiffs (xs ++ us) (ys ++ vs) (fs ++ gs)
diffs_joined xs ys us vs fs gs a b = record {
  olds = flat_map-append card_before fs gs ∙ (λ i. a.olds i ++ b.olds i);
  news = flat_map-append card_after fs gs ∙ (λ i. a.news i ++ b.news i);
  kept = all_joined IsKept fs gs a.kept b.kept;
}

pub all_gone : (cards : List CardView) → AreCardDiffs cards [] (map Gone cards)
all_gone [] = record { olds = refl; news = refl; kept = tt }
all_gone (c ∷ cards) = let later = all_gone cards in record { olds = ap (λ t. c ∷ t) later.olds; news = later.news; kept = (tt, later.kept) }

pub all_new : (cards : List CardView) → AreCardDiffs [] cards (map New cards)
all_new [] = record { olds = refl; news = refl; kept = tt }
all_new (c ∷ cards) = let later = all_new cards in record { olds = later.olds; news = ap (λ t. c ∷ t) later.news; kept = (tt, later.kept) }

-- cards left over before are gone, cards left over after are new
pub diffs_end : (xs ys : List CardView) (fs : List CardDiffView) (i j : ℕ) → AreCardDiffs (take i xs) (take j ys) fs
    → AreCardDiffs xs ys ((fs ++ map Gone (drop i xs)) ++ map New (drop j ys))
diffs_end xs ys fs i j so_far =
    let gone = diffs_joined (take i xs) (take j ys) (drop i xs) [] fs (map Gone (drop i xs)) so_far (all_gone (drop i xs)) in
    let new = diffs_joined (take i xs ++ drop i xs) (take j ys ++ []) [] (drop j ys) (fs
    ++ map Gone (drop i xs)) (map New (drop j ys)) gone (all_new (drop j ys)) in
    subst (λ us. AreCardDiffs us ys ((fs ++ map Gone (drop i xs)) ++ map New (drop j ys))) (append-nil (take i xs ++ drop i xs) ∙ take-append-drop i xs)
    (subst (λ vs. AreCardDiffs ((take i xs ++ drop i xs) ++ []) vs ((fs ++ map Gone (drop i xs)) ++ map New (drop j ys))) (ap (λ t. t
    ++ drop j ys) (append-nil (take j ys)) ∙ take-append-drop j ys) new)
