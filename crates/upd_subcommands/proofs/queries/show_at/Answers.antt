use Rattle.upd_subcommands.proofs.Common.{◌≡◌, subst, Ok, Err}
use Rattle.upd_desk.proofs.Common.{FailsAt}
use Rattle.upd_desk.proofs.QueryLemmas.{fails_owed}
use Rattle.upd_edit.proofs.ToldLemmas.{shown_error}
use Rattle.upd_subcommands.proofs.QueryAnswers.{none_of_runs, told_of_runs}
use Rattle.upd_views.specs.IdentReport.{show}
use Rattle.upd_subcommands.proofs.queries.show_at.Goals as goal

pub returns-in-Ok-clause-text : goal.returns-in-Ok-clause-text
returns-in-Ok-clause-text g c =
    told_of_runs (show c.args.name.now) c.in_ok-library.library c.in_ok-stored.stored (Ok c.in-Ok.text.items)
    c.args.desk.now.store c.library.new.self.store c.stored_runs.new.self.store
    c.in_ok-library.ensures.library c.in_ok-library.ensures.leaves.same c.in_ok-library.ensures.leaves.opens
    c.in_ok-stored.ensures.lists c.in_ok-stored.ensures.leaves.same
    (subst (λ runs. show c.args.name.now runs c.in_ok-library.library ≡ Ok c.in-Ok.text.items) c.deref.ensures.value c.in-Ok.ensures)

pub returns-clause-text : goal.returns-clause-text
returns-clause-text g c =
    told_of_runs (show c.args.name.now) c.in_ok-library.library c.in_ok-stored.stored (Err c.in-Err.fault)
    c.args.desk.now.store c.library.new.self.store c.stored_runs.new.self.store
    c.in_ok-library.ensures.library c.in_ok-library.ensures.leaves.same c.in_ok-library.ensures.leaves.opens
    c.in_ok-stored.ensures.lists c.in_ok-stored.ensures.leaves.same
    (fails_owed c.in-Err.fault (show c.args.name.now c.in_ok-stored.stored.runs.items c.in_ok-library.library)
    (subst (λ runs. FailsAt c.in-Err.fault (show c.args.name.now runs c.in_ok-library.library)) c.deref.ensures.value c.in-Err.ensures))

pub returns-in_err-library-clause-text : goal.returns-in_err-library-clause-text
returns-in_err-library-clause-text g c =
    none_of_runs g.S.Meaning (show c.args.name.now) c.in_err-library.field-0.0 _ c.args.desk.now.store c.library.new.self.store
    (shown_error (λ text. text.items) c.from_residual.result c.in_err-library.field-0.0 c.from_residual.ensures.1) c.in_err-library.ensures.lost
