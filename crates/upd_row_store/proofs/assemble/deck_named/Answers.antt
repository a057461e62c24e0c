use Rattle.upd_row_store.proofs.Common.{◌∙◌, subst, sym, same_trans, IsSame}
use Rattle.std.proofs.lemmas.Result.{IfOk-weaker}
use Rattle.upd_row_store.proofs.AskedLemmas.{named_alone}
use Rattle.upd_row_store.proofs.AssembleLemmas.{idents_in_place}
use Rattle.upd_row_store.proofs.SortLemmas.{same_permuted}
use Rattle.upd_row_store.proofs.assemble.deck_named.Goals as goal

pub returns-in-Some : goal.returns-in-Some
returns-in-Some c = λ tables l sound shows are.
    let copied = subst (λ xs. IsSame xs tables.idents) (sym c.in_ok-from_slice.ensures.items) are in
    let idents = idents_in_place l c.by_age-idents.result.items sound
    (same_trans (same_permuted c.by_age-idents.ensures.permutation) (same_trans copied shows.idents)) c.by_age-idents.ensures.sorted in
    IfOk-weaker c.from_slice-in-Some.result _ _
    (λ ages is. is ∙ named_alone c.args.name.now l c.library_of-directory.result _ _ _ c.library_of-directory.ensures idents c.new.ensures.items
    (sym c.in-Some.is ∙ c.deck_of.ensures))
    c.from_slice-in-Some.ensures.items

pub returns : goal.returns
returns c = λ tables l sound shows are.
    let copied = subst (λ xs. IsSame xs tables.idents) (sym c.in_ok-from_slice.ensures.items) are in
    let idents = idents_in_place l c.by_age-idents.result.items sound
    (same_trans (same_permuted c.by_age-idents.ensures.permutation) (same_trans copied shows.idents)) c.by_age-idents.ensures.sorted in
    c.new-in-None.ensures.items ∙ named_alone c.args.name.now l c.library_of-directory.result _ _ _ c.library_of-directory.ensures idents
    c.new.ensures.items
    (sym c.in-None.is ∙ c.deck_of.ensures)
