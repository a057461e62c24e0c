-- The results of a status update, put together from its steps.
use Rattle.upd_yank.proofs.Common.{◌≡◌, ℕ, Bool, List, ◌++◌, ap, ◌∙◌, CountedCardView}
use Rattle.upd_yank.proofs.Common.{others_of, yanks_of, Target, LibraryView, count_on, CardRef, found_of_all, found_others, found_yanks, live_now}

pub left_found : (touched was : CountedCardView → Bool) (before : Target → ℕ) (l : LibraryView) (ys os : List CountedCardView) (counts : Target → ℕ)
    (found now : List (CardRef × Bool)) →
    ys ≡ yanks_of l → os ≡ others_of l → found ≡ found_yanks touched was before ys → ((t : Target) → counts t ≡ count_on (live_now touched was before ys) t) →
    now ≡ found ++ found_others touched before counts os → now ≡ found_of_all touched was before l
left_found touched was before l ys os counts found now yanks others front known is =
    let all : found ≡ found_yanks touched was before (yanks_of l) = front ∙ ap (found_yanks touched was before) yanks in
    let settled_counts : (t : Target) → counts t ≡ count_on (live_now touched was before (yanks_of l)) t = λ t. known t
    ∙ ap (λ k. count_on (live_now touched was before k) t) yanks in
    is ∙ (λ i. all i ++ found_others touched before (λ t. settled_counts t i) (others i))
