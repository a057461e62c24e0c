use Rattle.upd_row_store.proofs.Common.{ap, ◌∙◌, same_trans, actives_in, behind_yanks}
use Rattle.upd_row_store.proofs.ActiveLemmas.{actives_again}
use Rattle.upd_row_store.proofs.SortLemmas.{same_permuted}
use Rattle.upd_row_store.proofs.active.assembled_active.Goals as goal

pub returns : goal.returns
returns c = λ tables l sound shows shows_states same_idents same_cards same_states.
    c.behind_yanks.ensures ∙ ap (behind_yanks c.by_age-idents.result.items) (
    c.in_ok-decks.ensures ∙ (λ i. actives_in (c.deref.ensures.value i) (c.deref-3.ensures.value i) (c.deref-2.ensures.value i)))
    ∙ actives_again l tables _ _ _ sound shows shows_states
    (same_trans (same_permuted c.by_age-idents.ensures.permutation) same_idents)
    (same_trans (same_permuted c.by_place-cards.ensures.permutation) same_cards)
    (same_trans (same_permuted c.states_by_card-states.ensures.permutation) same_states)
    c.by_age-idents.ensures.sorted c.by_place-cards.ensures.sorted
