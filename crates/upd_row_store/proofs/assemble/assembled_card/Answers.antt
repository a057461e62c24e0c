use Rattle.upd_row_store.proofs.Common.{[], ◌∷◌, ◌++◌, ap, sym, ◌∙◌, subst, filter, same_trans, IsSame, LibraryView, decks_in, library_of, part_rows, same_ref}
use Rattle.upd_row_store.proofs.CardLemmas.{deck_again, kept_idents, row_found, shows_card}
use Rattle.upd_row_store.proofs.RestLemmas.{part_shown, part_sound, parted, rows_apart}
use Rattle.upd_row_store.proofs.SortLemmas.{same_permuted}
use Rattle.upd_row_store.proofs.assemble.assembled_card.Goals as goal

pub returns : goal.returns
returns c = λ card tables l sound shows head other keep kept same found own_entries.
    let directory = c.in_ok-idents.idents.items in
    let entries = c.entries_by_card-entries.result.items in
    let part = c.in_ok-idents.ensures (part_rows [] tables) (parted [] l sound) (part_sound [] l sound) (part_shown [] l sound tables shows)
    (head (rows_apart [] l sound tables shows)) in
    let row = row_found l sound tables shows card c.args.row keep kept same found in
    let idents = sym (kept_idents directory c.in_ok-idents.decks.items) ∙ ap (λ (m : LibraryView). m.idents) part in
    let mine = same_trans (same_permuted c.entries_by_card-entries.ensures.permutation)
    (subst (λ r. IsSame c.args.entries.items (filter (λ x. same_ref r x.card) tables.entries)) row.0 own_entries) in
    let cards = c.in_ok-push.ensures.items ∙ ap (λ xs. xs ++ c.args.row ∷ []) c.new-cards.ensures.items in
    let decks = c.in_ok-own.ensures
    ∙ (λ i. decks_in ((c.deref.ensures.value ∙ idents) i) (c.deref-2.ensures.value i) [] (cards i)) in
    shows_card l sound c.args.row other row.1 card c.library_beside.result row.0
    (ap (λ (m : LibraryView). m.idents) c.library_beside.ensures ∙ kept_idents directory c.in_ok-own.own.items ∙ idents)
    (ap (λ (m : LibraryView). m.yanks) c.library_beside.ensures ∙ ap (λ (m : LibraryView). m.yanks) part)
    (ap (λ (m : LibraryView). m.decks) c.library_beside.ensures ∙ ap (λ ds. (library_of directory ds).decks)
    (decks ∙ deck_again l sound c.args.row other row.1 tables entries shows mine c.entries_by_card-entries.ensures.sorted))
