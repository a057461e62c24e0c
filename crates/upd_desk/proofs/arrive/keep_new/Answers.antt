-- A new run is kept by the commit alone: its changes lead the tables to what the run makes of them.
use Rattle.upd_desk.proofs.Common.{ap, map, sym, change_view, memory_is_lost}
use Rattle.upd_desk.proofs.LeadLemmas.{outcome_adds}
use Rattle.upd_desk.proofs.LoadingLemmas.{read_no_more}
use Rattle.upd_desk.proofs.RefusedLemmas.{error_is}
use Rattle.upd_desk.proofs.StoreLemmas.{commit_as_run, commit_becomes}
use Rattle.upd_desk.proofs.arrive.keep_new.Goals as goal

pub returns-in_err-run-clause-lost : goal.returns-in_err-run-clause-lost
returns-in_err-run-clause-lost g c =
    rw (error_is _ _ c.from_residual-in_err-run.ensures.1) (memory_is_lost c.in_err-run.field-0.0 c.in_err-run.ensures.lost)

pub returns-clause-tries : goal.returns-clause-tries
returns-clause-tries g c =
    commit_as_run c.args.mode c.args.arrival.now (map change_view c.deref.result.now) c.in_ok-run.run'
    c.args.store.now c.run_outcome.new.store c.commit.new.self c.in_ok-outcome.ensures.leaves.same c.in_ok-commit.ensures.leaves.crash
    (λ honest is l made rows shown shows states. outcome_adds c.args.mode c.args.arrival.now l rows c.in_ok-outcome.outcome
    (map change_view c.deref.result.now) c.in_ok-run.run' (c.in_ok-outcome.ensures.found honest l made rows shown shows states)
    (ap (map change_view) (sym c.deref.ensures.value)) c.in_ok-run.ensures.run)

pub returns-clause-becomes : goal.returns-clause-becomes
returns-clause-becomes g c =
    commit_becomes c.args.mode c.args.arrival.now (map change_view c.deref.result.now) c.in_ok-run.run'
    c.args.store.now c.run_outcome.new.store c.commit.new.self c.in_ok-outcome.ensures.leaves.same c.in_ok-commit.ensures.leaves.crash
    c.in_ok-commit.ensures.leaves.opens c.in_ok-commit.ensures.done
    (λ honest l made rows shown shows states. outcome_adds c.args.mode c.args.arrival.now l rows c.in_ok-outcome.outcome
    (map change_view c.deref.result.now) c.in_ok-run.run' (c.in_ok-outcome.ensures.found honest l made rows shown shows states)
    (ap (map change_view) (sym c.deref.ensures.value)) c.in_ok-run.ensures.run)

pub returns-clause-reply : goal.returns-clause-reply
returns-clause-reply g c honest l made rows shown shows states =
    (c.in_ok-outcome.ensures.found (c.in_ok-commit.ensures.leaves.crash.later.honest honest) l made rows shown shows states).reply

pub returns-clause-work : goal.returns-clause-work
returns-clause-work g c honest l made rows shown shows states =
    (c.in_ok-outcome.ensures.found (c.in_ok-commit.ensures.leaves.crash.later.honest honest) l made rows shown shows states).work

pub returns-clause-least : goal.returns-clause-least
returns-clause-least g c honest l made rows shown shows states =
    (c.in_ok-outcome.ensures.found (c.in_ok-commit.ensures.leaves.crash.later.honest honest) l made rows shown shows states).least

pub returns-clause-reads : goal.returns-clause-reads
returns-clause-reads g c honest l made rows shown shows =
    read_no_more _ _ _ _ c.in_ok-commit.ensures.leaves.unread
    (c.in_ok-outcome.ensures.reads (c.in_ok-commit.ensures.leaves.crash.later.honest honest) l made rows shown shows)

pub returns-in_err-commit-clause-tries : goal.returns-in_err-commit-clause-tries
returns-in_err-commit-clause-tries g c =
    commit_as_run c.args.mode c.args.arrival.now (map change_view c.deref.result.now) c.in_ok-run.run'
    c.args.store.now c.run_outcome.new.store c.commit.new.self c.in_ok-outcome.ensures.leaves.same c.in_err-commit.ensures.leaves.crash
    (λ honest is l made rows shown shows states. outcome_adds c.args.mode c.args.arrival.now l rows c.in_ok-outcome.outcome
    (map change_view c.deref.result.now) c.in_ok-run.run' (c.in_ok-outcome.ensures.found honest l made rows shown shows states)
    (ap (map change_view) (sym c.deref.ensures.value)) c.in_ok-run.ensures.run)
