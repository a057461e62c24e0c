use Rattle.upd_row_store.proofs.Common.{ap, ◌∙◌, same_trans, decks_in, library_of}
use Rattle.upd_row_store.proofs.AssembleLemmas.{made_again}
use Rattle.upd_row_store.proofs.SortLemmas.{same_permuted}
use Rattle.upd_row_store.proofs.assemble.idents_and_decks.Goals as goal

pub returns : goal.returns
returns c = λ tables l sound shows are.
    let idents = c.by_age-idents.result.items in
    let cards = c.by_place-cards.result.items in
    let entries = c.entries_by_card-entries.result.items in
    let decks = c.in_ok-decks.ensures ∙ ap (λ xs. decks_in xs c.deref-2.result.now c.deref-3.result.now cards) c.deref.ensures.value
    ∙ ap (λ xs. decks_in idents xs c.deref-3.result.now cards) c.deref-2.ensures.value ∙ ap (λ xs. decks_in idents entries xs cards) c.deref-3.ensures.value in
    ap (library_of idents) decks ∙ made_again l _ _ _ _ sound
    (same_trans (same_permuted c.by_age-idents.ensures.permutation) (same_trans are.idents shows.idents))
    (same_trans (same_permuted c.by_place-cards.ensures.permutation) (same_trans are.cards shows.cards))
    (same_trans (same_permuted c.entries_by_card-entries.ensures.permutation) (same_trans are.entries shows.entries))
    (same_trans (same_permuted c.targets_by_card-targets.ensures.permutation) (same_trans are.targets shows.targets))
    c.by_age-idents.ensures.sorted c.by_place-cards.ensures.sorted c.entries_by_card-entries.ensures.sorted c.targets_by_card-targets.ensures.sorted
