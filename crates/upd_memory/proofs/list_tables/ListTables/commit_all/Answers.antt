use Rattle.upd_memory.proofs.Common.{◌≡◌, ◌∷◌, ◌++◌, [], map, sym, ◌∙◌, subst, rules, change_view}
use Rattle.upd_row_store.specs.Tables.{committed}
use Rattle.upd_memory.specs.Lists.{made_tables}
use Rattle.upd_memory.specs.Mirrored.{AgreesIfAny}
use Rattle.upd_memory.proofs.ListLemmas.{agrees_committed, committed_tables}
use Rattle.upd_memory.proofs.list_tables.ListTables.commit_all.Goals.{then-is_none+in-Some-1, then-is_none+in-None-1, else-is_none}
use Rattle.upd_memory.proofs.list_tables.ListTables.commit_all.Goals as goal

pub invariant_of-self-else-is_none : goal.invariant_of-self-else-is_none
invariant_of-self-else-is_none c =
    let was = c.self.inside in
    let tables = made_tables was.changes.items was.runs.items was.settled.items in
    let before = subst (λ m. AgreesIfAny m tables) (sym c.take.ensures.value) c.self.invariant in
    let after = c.changed.ensures tables before in
    let changes : c.append.new.self.items ≡ was.changes.items ++ c.in_ok-copies.copies.items = search rules in
    let runs : c.push.new.self.items ≡ was.runs.items ++ c.args.run ∷ [] = search rules in
    rw (changes, runs) (agrees_committed c.changed.result was.changes.items c.in_ok-copies.copies.items _ was.runs.items was.settled.items c.args.run
    c.in_ok-copies.ensures after)

pub returns-clause-done : goal.returns-clause-done
returns-clause-done c = λ fit.
    let was = c.self.inside in
    let changes : c.append.new.self.items ≡ was.changes.items ++ c.in_ok-copies.copies.items = search rules in
    let runs : c.push.new.self.items ≡ was.runs.items ++ c.args.run ∷ [] = search rules in
    let whole : made_tables c.append.new.self.items c.push.new.self.items was.settled.items
    ≡ committed (map change_view c.args.changes.now) c.args.run c.args.self.now =
    rw (changes, runs, sym c.self.view_is) (sym (committed_tables was.changes.items c.in_ok-copies.copies.items _ was.runs.items was.settled.items c.args.run
    c.in_ok-copies.ensures)) in
    elim c.if-is_none.branch [
      | then-is_none+in-Some-1 w ↦ w.self-is ∙ whole
      | then-is_none+in-None-1 w ↦ w.self-is ∙ whole
      | else-is_none w ↦ w.self-is ∙ whole
    ]
