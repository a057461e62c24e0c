use Rattle.upd_subcommands.proofs.Common.{Ok, Err}
use Rattle.upd_row_store.proofs.StoreLemmas.{keeps_still}
use Rattle.upd_desk.proofs.QueryLemmas.{fails_owed}
use Rattle.upd_edit.proofs.ToldLemmas.{shown_error}
use Rattle.upd_edit.specs.StayingDecks.{tried_warnings}
use Rattle.upd_edit.specs.Warnings.{warning_list}
use Rattle.upd_subcommands.proofs.QueryAnswers.{none_of_runs, told_of_shown}
use Rattle.upd_subcommands.proofs.TriedLemmas.{none_tried, tried_by_runs}
use Rattle.upd_subcommands.proofs.arriving.warnings_at.Goals as goal

pub returns-in-Ok-clause-list : goal.returns-in-Ok-clause-list
returns-in-Ok-clause-list g c =
    tried_by_runs g.S.Meaning (λ list. list.items) c.args.since c.args.run.now c.in_ok-library.library c.in-Ok.list.items c.by_stored_runs.result
    c.args.desk.now.store c.library.new.self.store c.by_stored_runs.new.desk.store
    c.in_ok-library.ensures.library c.in_ok-library.ensures.leaves.same c.in_ok-library.ensures.leaves.opens
    c.by_stored_runs.ensures.same c.in-Ok.ensures c.by_stored_runs.ensures.list c.by_stored_runs.ensures.lost

pub returns-clause-list : goal.returns-clause-list
returns-clause-list g c =
    told_of_shown (tried_warnings c.args.since c.args.run.now) c.in_ok-library.library (Err c.in-Err.fault)
    c.args.desk.now.store c.library.new.self.store c.library.new.self.store
    c.in_ok-library.ensures.library c.in_ok-library.ensures.leaves.same c.in_ok-library.ensures.leaves.opens
    (keeps_still c.library.new.self.store)
    (λ honest rows shown. none_tried g.S.Meaning c.args.since c.args.run.now rows.runs c.in_ok-library.library c.in-Err.fault
    (fails_owed c.in-Err.fault (warning_list c.args.since c.args.run.now c.in_ok-library.library) c.in-Err.ensures))

pub returns-in_err-library-clause-list : goal.returns-in_err-library-clause-list
returns-in_err-library-clause-list g c =
    none_of_runs g.S.Meaning (tried_warnings c.args.since c.args.run.now) c.in_err-library.field-0.0 _ c.args.desk.now.store c.library.new.self.store
    (shown_error (λ list. list.items) c.from_residual.result c.in_err-library.field-0.0 c.from_residual.ensures.1) c.in_err-library.ensures.lost
