use Rattle.std.proofs.Common.{◌⊎◌, inl, inr, ℕ, List, Result, Ok, Err, IfOk, IfErr, OnOk, IsTrue, ◌∙◌}
use Rattle.sqlite_value.specs.Order.{Row}
use Rattle.sqlite.specs.declared.error.Error.{Error}
use Rattle.sqlite.specs.Held.{state}
use Rattle.sqlite.specs.State.{State, KeepsCommit, FailsToQuery, IsTooLate, Shown}
use Rattle.sqlite.specs.Values.{bound}
use Rattle.upd_sqlite.proofs.Answers.{shown_keeps, fails_keeps, late_keeps, shown_going}
use Rattle.upd_sqlite.proofs.statements.ask.Goals as goal

keeps : {X : Type 0} (items : X → List Row) (sql : List ℕ) (params : Row) (old new : State) (r : Result X Error) → IsTrue old.in_transaction
    → IfOk r (λ rows. Shown sql params old new (items rows)) → IfErr r (λ e. FailsToQuery sql params old new e ⊎ IsTooLate sql params old new e)
    → KeepsCommit old new
keeps items sql params old new (Ok rows) inside ok err = shown_keeps sql params old new inside (items rows) ok
keeps items sql params old new (Err e) inside ok err =
    elim err [ inl fails ↦ fails_keeps sql params old new inside e fails | inr late ↦ late_keeps sql params old new inside e late ]

goes_on : {X : Type 0} (items : X → List Row) (sql : List ℕ) (params : Row) (old new : State) (r : Result X Error)
    → IfOk r (λ rows. Shown sql params old new (items rows))
    → OnOk r (IsTrue old.in_transaction → IsTrue new.in_transaction)
goes_on items sql params old new (Ok rows) ok = λ inside. shown_going sql params old new (items rows) ok ∙ inside
goes_on items sql params old new (Err e) ok = tt

pub returns-clause-steps : goal.returns-clause-steps
returns-clause-steps g c =
    let sql = c.args.sql.now in
    let params = bound c.args.params.now in
    let old = state g.S.Store c.args.tx.now.conn.now in
    let new = state g.S.Store c.query_all.new.self.conn.now in
    let said = c.query_all.ensures in
    record {
      going = λ clean. goes_on (λ rows. rows.items) sql params old new c.query_all.result (said.ok clean);
      kept = λ clean inside. keeps (λ rows. rows.items) sql params old new c.query_all.result inside (said.ok clean) (said.err clean);
      survives = said.survives;
    }
