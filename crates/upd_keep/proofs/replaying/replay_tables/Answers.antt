use Rattle.upd_keep.proofs.Common.{◌≡◌, ℕ, ◌<◌, List, [], ◌∷◌, inl, inr, length, Option, None, refl, sym, ap, subst, ◌∙◌, arith, rules, nat_tests}
use Rattle.upd_keep.proofs.Common.{IsOkUnless, fault_at, NoMemory, no_rows, Rows, journal_with}
use Rattle.upd_records.specs.Rows.{RunView}
use Rattle.upd_desk.specs.Holding.{Holds}
use Rattle.upd_keep.specs.Replaying.{AreReplayed, DiffersFirst, HaveReplies, replayed_line}
use Rattle.upd_keep.proofs.ReplayLemmas.{empty_holds, memory_lost, no_items}
use Rattle.upd_keep.proofs.replaying.replay_tables.Goals as goal

pub returns-in_err-settled_line-clause-lost : goal.returns-in_err-settled_line-clause-lost
returns-in_err-settled_line-clause-lost c = let e : IsOkUnless c.from_residual.result (fault_at NoMemory 0) = search rules in memory_lost _ e

pub returns-in_err-run_line-clause-lost : goal.returns-in_err-run_line-clause-lost
returns-in_err-run_line-clause-lost c = let e : IsOkUnless c.from_residual-in_err-run_line.result (fault_at NoMemory 0) = search rules in memory_lost _ e

pub returns-in_err-table_line-in-Some-2-clause-lost : goal.returns-in_err-table_line-in-Some-2-clause-lost
returns-in_err-table_line-in-Some-2-clause-lost c = let e : IsOkUnless c.from_residual-in_err-table_line-in-Some-2.result (fault_at NoMemory 0) =
    search rules in memory_lost _ e

pub returns-in_err-replayed_line-in-None-clause-lost : goal.returns-in_err-replayed_line-in-None-clause-lost
returns-in_err-replayed_line-in-None-clause-lost c = let e : IsOkUnless c.from_residual-in_err-replayed_line-in-None.result (fault_at NoMemory 0) =
    search rules in memory_lost _ e

-- the tables of a library whose runs made these
replayed : (it made : Rows) (runs : List RunView) (table : Option (List ℕ)) → it.settled ≡ [] → runs ≡ it.runs → HaveReplies [] runs
    → Holds (journal_with [] runs) made → DiffersFirst it made table → AreReplayed it table
replayed it made runs table none is replies holds differs = record {
  unsettled = none;
  replies = subst (HaveReplies []) is replies;
  made = made;
  holds = subst (λ r. Holds (journal_with [] r) made) is holds;
  differs = differs;
}

pub returns-then-not-is_empty-clause-said : goal.returns-then-not-is_empty-clause-said
returns-then-not-is_empty-clause-said c = λ it h.
    let marks = c.args.tables.kept.marks in
    let some : 0 < length marks.items = grind (arith, nat_tests, marks.ok, c.is_empty.ensures, c.if-not-is_empty.true) in
    inl (λ none. let e = ap length (h.kept.marks ∙ none) in absurd (omega (arith, some, e)), c.in_ok-settled_line.ensures)

pub returns-in-Some-clause-said : goal.returns-in-Some-clause-said
returns-in-Some-clause-said c = λ it h.
    let tables : c.open-desk.result.store.tables ≡ no_rows = rw (c.open-desk.ensures.store, c.new.ensures) refl in
    let right = c.in_ok-run.ensures.right tt [] (λ is_open. (no_rows, tables, empty_holds)) in
    inr (inl (c.in-Some.run', rw (h.kept.runs, c.in-Some.is) at right, c.in_ok-run_line.ensures))

pub returns-in-Some-2-clause-said : goal.returns-in-Some-2-clause-said
returns-in-Some-2-clause-said c = λ it h.
    let marks = c.args.tables.kept.marks in
    let tables : c.open-desk.result.store.tables ≡ no_rows = rw (c.open-desk.ensures.store, c.new.ensures) refl in
    let none : c.in_ok-run.field-0 ≡ None = search rules in
    let right = c.in_ok-run.ensures.right tt [] (λ is_open. (no_rows, tables, empty_holds)) in
    let (made, shown, holds) = c.in_ok-run.ensures.held tt [] (λ is_open. (no_rows, tables, empty_holds)) none tt in
    let is : c.close.result.tables ≡ made = rw c.close.ensures shown in
    let empty : length marks.items ≡ 0 = grind (arith, nat_tests, marks.ok, c.is_empty.ensures, c.if-not-is_empty.false) in
    inr (inr (
      c.in-Some-2.table.now,
      replayed it made c.args.tables.kept.runs.items _ (sym h.kept.marks ∙ no_items marks.items empty) h.kept.runs (rw none at right) holds
          (rw (is, c.in-Some-2.is) at (c.in_ok-table.ensures.first it h.library h.states)),
      c.in_ok-table_line-in-Some-2.ensures,
    ))

pub returns-clause-said : goal.returns-clause-said
returns-clause-said c = λ it h.
    let marks = c.args.tables.kept.marks in
    let tables : c.open-desk.result.store.tables ≡ no_rows = rw (c.open-desk.ensures.store, c.new.ensures) refl in
    let none : c.in_ok-run.field-0 ≡ None = search rules in
    let right = c.in_ok-run.ensures.right tt [] (λ is_open. (no_rows, tables, empty_holds)) in
    let (made, shown, holds) = c.in_ok-run.ensures.held tt [] (λ is_open. (no_rows, tables, empty_holds)) none tt in
    let is : c.close.result.tables ≡ made = rw c.close.ensures shown in
    let all = ap length h.kept.runs in
    let many : c.len-count.result ≡ length it.runs = search (rules, all) in
    let empty : length marks.items ≡ 0 = grind (arith, nat_tests, marks.ok, c.is_empty.ensures, c.if-not-is_empty.false) in (
      replayed it made c.args.tables.kept.runs.items _ (sym h.kept.marks ∙ no_items marks.items empty) h.kept.runs (rw none at right) holds
          (rw (is, c.in-None.is) at (c.in_ok-table.ensures.first it h.library h.states)),
      c.in_ok-replayed_line-in-None.ensures ∙ ap replayed_line many,
    )
