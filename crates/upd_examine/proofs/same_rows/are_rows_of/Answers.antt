use Rattle.upd_examine.proofs.Common.{sym, ◌∙◌, subst, ◌↔◌, IsTrue, rows_of, AreRowsOf}
use Rattle.upd_examine.proofs.RowsLemmas.{of_lists, rows_decided}
use Rattle.upd_examine.proofs.same_rows.are_rows_of.Goals as goal

pub returns : goal.returns
returns c =
    let l = c.args.library.now in
    let rows = c.args.rows.now in
    let own = c.in_ok-own.ensures in
    subst (λ r. IsTrue r ↔ AreRowsOf (rows_of l) rows) (sym c.all_four.ensures)
    (rows_decided (rows_of l) rows _ _ _ _
    (of_lists _ _ _ _ _ c.deref.ensures.value (c.deref-2.ensures.value ∙ own.idents) c.in_ok-idents.ensures)
    (of_lists _ _ _ _ _ c.deref-3.ensures.value (c.deref-4.ensures.value ∙ own.cards) c.in_ok-cards.ensures)
    (of_lists _ _ _ _ _ c.deref-5.ensures.value (c.deref-6.ensures.value ∙ own.entries) c.in_ok-entries.ensures)
    (of_lists _ _ _ _ _ c.deref-7.ensures.value (c.deref-8.ensures.value ∙ own.targets) c.in_ok-targets.ensures))
