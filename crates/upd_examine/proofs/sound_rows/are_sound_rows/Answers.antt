use Rattle.upd_examine.proofs.Common.{sym, subst, ◌↔◌, IsTrue, AreSoundRows}
use Rattle.upd_examine.proofs.FindingLemmas.{sound_decided}
use Rattle.upd_examine.proofs.sound_rows.are_sound_rows.Goals as goal

pub returns-clause-ok : goal.returns-clause-ok
returns-clause-ok c =
    let rows = c.args.rows.now in
    let copies = c.in_ok-copy.ensures in
    subst (λ r. IsTrue r ↔ AreSoundRows rows c.args.states.now c.args.runs.now c.args.marks.now) (sym c.all_four.ensures)
    (sound_decided rows c.in_ok-copy.copy c.args.states.now c.args.runs.now c.args.marks.now c.in_ok-library.library _ _ _ _
    (record { idents = copies.idents; cards = copies.cards; entries = copies.entries; targets = copies.targets }) c.in_ok-library.ensures.whole
    c.in_ok-own.ensures c.is_grown-grown.ensures c.in_ok-right.ensures.ok c.in_ok-kept.ensures)
