use Rattle.upd_examine.proofs.Common.{sym, subst, ◌↔◌, IsTrue, AreLibraryRows}
use Rattle.upd_examine.proofs.RowsLemmas.{library_decided}
use Rattle.upd_examine.proofs.same_rows.are_library_rows.Goals as goal

pub returns : goal.returns
returns c =
    let l = c.args.library.now in
    let rows = c.args.rows.now in
    subst (λ r. IsTrue r ↔ AreLibraryRows rows l) (sym c.all_four.ensures)
    (library_decided rows l _ _ _ _ c.in_ok-sound.ensures c.is_within_limits-within.ensures c.has_line_texts-texts.ensures c.in_ok-own.ensures)
