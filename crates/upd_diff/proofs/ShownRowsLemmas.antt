-- Row changes: what they do to the tables, and which cards they delete.
use Rattle.upd_diff.proofs.Common.{List, sym, subst, LibraryView, all_decks, Continues, IsSound, ChangeView, done_all, Lead, AllFit, Rows, Shows, TakeGone}
use Rattle.upd_diff.specs.RowChanges.{RowChanges}
use Rattle.upd_diff.proofs.LeadLemmas.{paired_lead}
use Rattle.upd_diff.proofs.StateLemmas.{row_changes_take}
use Rattle.upd_diff.proofs.RowChangeLemmas.{row_changes_fit, row_changes_show}

module _ (old new : LibraryView) (changes : List ChangeView) where
  lead : (t : RowChanges old new changes) → Lead (all_decks old) (all_decks new) t.decks
  lead t = paired_lead (all_decks old) (all_decks new) t.decks t.paired

  -- carried out on tables that show the one library, they leave tables that show the other
  pub shown_by_row_changes : IsSound old → Continues old.idents new.idents → RowChanges old new changes → (rows : Rows) → Shows rows old
      → Shows (done_all changes rows) new
  shown_by_row_changes sound goes t rows shows =
      subst (λ cs. Shows (done_all cs rows) new) (sym t.are) (row_changes_show old new t.decks sound goes (lead t) rows shows)

  -- and such tables can carry them out
  pub fit_row_changes : IsSound old → Continues old.idents new.idents → RowChanges old new changes → (rows : Rows) → Shows rows old → AllFit changes rows
  fit_row_changes sound goes t rows shows = subst (λ cs. AllFit cs rows) (sym t.are) (row_changes_fit old new t.decks sound goes (lead t) rows shows)

  -- they delete each card that is gone
  pub taken_by_row_changes : IsSound old → IsSound new → Continues old.idents new.idents → RowChanges old new changes → TakeGone old new changes
  taken_by_row_changes sound later goes t = subst (TakeGone old new) (sym t.are) (row_changes_take old new t.decks sound later goes (lead t))
