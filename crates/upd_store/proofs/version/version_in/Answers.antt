use Rattle.upd_store.proofs.Common.{◌≡◌, inl, inr, sym, ◌∙◌, ℕ, List, [], ◌∷◌, Ok, Err, IfOk, IsTrue, Result, Row, Error, state, State, Shown, num, HasVersion}
use Rattle.std.proofs.Common.{OnOk}
use Rattle.upd_sqlite.proofs.Answers.{shown_was_open}
use Rattle.upd_store.proofs.VersionLemmas.{version_shown, version_text}
use Rattle.upd_store.proofs.version.version_in.Goals as goal

value : (old new : State) (rows : List Row) (r : Result ℕ Error) → IfOk r (λ n. (v : ℕ) → rows ≡ (num v ∷ []) ∷ [] → n ≡ v)
    → IfOk r (λ n. rows ≡ [] → n ≡ 0)
    → Shown version_text [] old new rows
    → IfOk r (λ n. (v : ℕ) → HasVersion v old.now → n ≡ v)
value old new rows (Ok n) first none shown = λ v h. elim (version_shown v old new rows h shown) [
  | inl row ↦ first v row
  | inr empty ↦ none empty.1 ∙ sym empty.0
]
value old new rows (Err e) first none shown = tt

was_open : (old new : State) (rows : List Row) (r : Result ℕ Error) → Shown version_text [] old new rows
    → OnOk r (IsTrue old.in_transaction → IsTrue old.is_open)
was_open old new rows (Ok n) shown = λ inside. shown_was_open version_text [] old new rows shown
was_open old new rows (Err e) shown = tt

pub returns-clause-was_open : goal.returns-clause-was_open
returns-clause-was_open g c clean =
    was_open (state g.S.Store c.args.tx.now.conn.now) (state g.S.Store c.ask.new.tx.conn.now) c.in_ok-rows.rows.items c.first_number.result
    (c.in_ok-rows.ensures.shown clean)

pub returns-clause-value : goal.returns-clause-value
returns-clause-value g c clean =
    value (state g.S.Store c.args.tx.now.conn.now) (state g.S.Store c.ask.new.tx.conn.now) c.in_ok-rows.rows.items c.first_number.result
    (rw c.deref.ensures.value at c.first_number.ensures.first) (rw c.deref.ensures.value at c.first_number.ensures.none) (c.in_ok-rows.ensures.shown clean)
