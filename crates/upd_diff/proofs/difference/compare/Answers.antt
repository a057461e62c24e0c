use Rattle.upd_diff.proofs.Common.{◌≡◌, map, all_decks, change_view, row_changes}
use Rattle.upd_diff.proofs.LeadLemmas.{paired_lead}
use Rattle.upd_diff.proofs.ShownRowsLemmas.{fit_row_changes, shown_by_row_changes, taken_by_row_changes}
use Rattle.upd_diff.proofs.difference.compare.Goals as goal

-- the result is what was compared
pub returns-clause-row_changes : goal.returns-clause-row_changes
returns-clause-row_changes c =
    let old = c.args.before.now in
    let new = c.args.after.now in
    let decks = c.in_ok-decks.decks.items in
    let are : map change_view c.in_ok-changes.changes.items ≡ row_changes old.idents new.idents decks =
    rw (c.idents-idents.ensures, c.idents-2.ensures, c.deref-2.ensures.value) at c.in_ok-changes.ensures in
    record { decks = decks; paired = c.in_ok-decks.ensures; are = are }

pub returns-clause-shows : goal.returns-clause-shows
returns-clause-shows c = λ rows sound goes shows.
    shown_by_row_changes c.args.before.now c.args.after.now (map change_view c.in_ok-changes.changes.items) sound goes (returns-clause-row_changes c) rows shows

pub returns-clause-fits : goal.returns-clause-fits
returns-clause-fits c = λ rows sound goes shows.
    fit_row_changes c.args.before.now c.args.after.now (map change_view c.in_ok-changes.changes.items) sound goes (returns-clause-row_changes c) rows shows

pub returns-clause-states : goal.returns-clause-states
returns-clause-states c = λ sound later goes.
    taken_by_row_changes c.args.before.now c.args.after.now (map change_view c.in_ok-changes.changes.items) sound later goes (returns-clause-row_changes c)

pub returns-clause-touched : goal.returns-clause-touched
returns-clause-touched c = λ apart.
    let found = rw (c.idents.ensures, c.deref.ensures.value) at c.in_ok-touched.ensures in
    let old = all_decks c.args.before.now in
    let new = all_decks c.args.after.now in
    found new (paired_lead old new c.in_ok-decks.decks.items c.in_ok-decks.ensures) apart
