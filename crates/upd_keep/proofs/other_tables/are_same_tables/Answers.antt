use Rattle.upd_keep.proofs.Common.{◌≡◌, None, sym, ap, subst, ◌∙◌, rules}
use Rattle.upd_keep.proofs.ReplayLemmas.{same_read}
use Rattle.upd_keep.proofs.other_tables.are_same_tables.Goals as goal

pub returns : goal.returns
returns c = λ same it h.
    let none : c.in_ok-found.found ≡ None = search rules in
    let some = c.args.some.now in
    let others = c.args.others.now in
    let read = same_read it some.library others.library some.states others.states (rw none at c.in_ok-found.ensures) h.library h.states in
    record { library = read.0; states = read.1; kept = record { runs = search (rules, h.kept.runs); marks = search (rules, h.kept.marks) } }
