use Rattle.upd_store.proofs.Common.{◌≡◌, ℕ, Ok, IsTrue, true, refl, sym, subst, rules, state, State, HasVersion}
use Rattle.sqlite.specs.State.{HasCleanDisk}
use Rattle.upd_sql.specs.Commits.{WasOpen}
use Rattle.upd_store.proofs.version.version_of.Goals as goal

-- outside a transaction what is there is what was committed
found_outside : (old last : State) (n : ℕ) → HasCleanDisk last → (IsTrue old.is_open → old.now ≡ old.committed)
    → WasOpen {X = ℕ} (record old { in_transaction = true }) last (Ok n) → (HasCleanDisk last → (v : ℕ) → HasVersion v old.now → n ≡ v)
    → (v : ℕ) → HasVersion v old.committed → n ≡ v
found_outside old last n clean settled was_open value v h = value clean v (subst (HasVersion v) (sym (settled (was_open clean refl))) h)

pub returns-clause-value : goal.returns-clause-value
returns-clause-value g c clean =
    let old = state g.S.Store c.args.conn.now in
    let last = state g.S.Store c.version_in.new.tx.conn.now in
    let begun = c.begin-tx.ensures.begun in
    let early : HasCleanDisk last = search rules in
    found_outside old last c.in_ok-version.version early c.begin-tx.ensures.settled (rw begun at c.in_ok-version.ensures.was_open)
    (rw begun at c.in_ok-version.ensures.value)
