-- A query inside a transaction commits nothing, whatever its text is.
use Rattle.std.proofs.Common.{◌≡◌, inl, inr, ℕ, if◌then◌else◌, List, Option, Some, None, Err, ap, subst, ◌∙◌, IsTrue}
use Rattle.sqlite_value.specs.Order.{Row}
use Rattle.sqlite_schema.specs.declared.command.Returning.{Returning}
use Rattle.sqlite_resolve.specs.declared.compiled.Compiled.{Compiled}
use Rattle.sqlite.specs.declared.error.Error.{Error}
use Rattle.sqlite.specs.Clock.{timed}
use Rattle.sqlite.specs.Listing.{understood}
use Rattle.sqlite.specs.Given.{IsPlain}
use Rattle.sqlite.specs.State.{State, KeepsCommit, IsUnchanged, IsRolledBack, IsNotRun, FailsToQuery, FailsToShow, RunsCommand, Shown, ShowsRows, IsTooLate}

unchanged_keeps : (old new : State) → IsUnchanged old new → KeepsCommit old new
unchanged_keeps old new h = record { was_open = λ _. h.0.was_open; committed = λ _. h.0.committed_is }

undone_keeps : (old new : State) → IsRolledBack old new → KeepsCommit old new
undone_keeps old new h = record { was_open = h.was_open; committed = λ o. (h.undone o).1 }

module _ (sql : List ℕ) (params : Row) (old new : State) (inside : IsTrue old.in_transaction) where
  shown_by : (c : Compiled) (full : Row) (rows : List Row) (r : Option Returning) → ShowsRows old new sql c full rows r → KeepsCommit old new
  shown_by c full rows None h = unchanged_keeps old new h.3
  shown_by c full rows (Some what) h =
      record { was_open = λ _. h.1.shown.was_open; committed = λ _. h.1.shown.committed_is ∙ ap (λ b. if b then old.committed else new.now) inside }

  pub shown_keeps : (rows : List Row) → Shown sql params old new rows → KeepsCommit old new
  unfolding Shown
  shown_keeps rows h = shown_by h.0 _ rows h.0.returning h.2

  failed_run : (c : Compiled) (full : Row) (e : Error) → RunsCommand old new sql c full (Err e) → KeepsCommit old new
  failed_run c full e (inl refused) = unchanged_keeps old new refused.1
  failed_run c full e (inr fails) = undone_keeps old new fails.3

  failed_by : (c : Compiled) (full : Row) (e : Error) (r : Option Returning) → FailsToShow old new sql c full e r → KeepsCommit old new
  failed_by c full e None h = unchanged_keeps old new h.3
  failed_by c full e (Some what) h = failed_run c full e h

  not_run : (e : Error) → IsNotRun old new sql params e → KeepsCommit old new
  unfolding IsNotRun
  not_run e (inl none) = unchanged_keeps old new none.1
  not_run e (inr fails) = undone_keeps old new fails.3

  pub fails_keeps : (e : Error) → FailsToQuery sql params old new e → KeepsCommit old new
  unfolding FailsToQuery
  fails_keeps e (inl none) = not_run e none
  fails_keeps e (inr h) = failed_by h.0 _ e h.0.returning h.2

  pub late_keeps : (e : Error) → IsTooLate sql params old new e → KeepsCommit old new
  late_keeps e h = unchanged_keeps old new h.5

shown_mode : (sql : List ℕ) (params : Row) (old new : State) (c : Compiled) (full : Row) (rows : List Row) (r : Option Returning)
    → ShowsRows old new sql c full rows r
    → new.in_transaction ≡ old.in_transaction
shown_mode sql params old new c full rows None h = h.3.0.mode
shown_mode sql params old new c full rows (Some what) h = h.1.shown.mode

-- an answer leaves the transaction open, whatever the text is
pub shown_going : (sql : List ℕ) (params : Row) (old new : State) (rows : List Row) → Shown sql params old new rows → new.in_transaction ≡ old.in_transaction
unfolding Shown
shown_going sql params old new rows h = shown_mode sql params old new h.0 _ rows h.0.returning h.2

shown_open : (sql : List ℕ) (params : Row) (old new : State) (c : Compiled) (full : Row) (rows : List Row) (r : Option Returning)
    → ShowsRows old new sql c full rows r
    → IsTrue old.is_open
shown_open sql params old new c full rows None h = h.3.0.was_open
shown_open sql params old new c full rows (Some what) h = h.1.shown.was_open

-- only an open connection answers, whatever the text is
pub shown_was_open : (sql : List ℕ) (params : Row) (old new : State) (rows : List Row) → Shown sql params old new rows → IsTrue old.is_open
unfolding Shown
shown_was_open sql params old new rows h = shown_open sql params old new h.0 _ rows h.0.returning h.2

-- a plain query changes nothing
pub shown_same : (sql : List ℕ) (params : Row) (old new : State) (rows : List Row) → IsPlain (understood old.now.schema sql) → Shown sql params old new rows
    → IsUnchanged old new
unfolding Shown
shown_same sql params old new rows plain h =
    let none = (subst IsPlain h.1.is plain).0 in (subst (ShowsRows old new sql h.0 (timed params h.0.formats h.1.now) rows) none h.2).3
