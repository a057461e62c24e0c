-- Each way out of the desk is what is expected for the arrival.
use Rattle.upd_desk.proofs.Common.{◌<◌, ◌≤◌, inr, None, Some, Ok, Err, ap, sym, ◌∙◌, subst, empty, mark_at, run_at, uncounted, keeps_keeps}
use Rattle.std.specs.Result.{result_map_both}
use Rattle.upd_desk.proofs.ArrivesLemmas.{asked, changed_is, changed_keeps, keeps_arrives, loses, new_arrives}
use Rattle.upd_desk.proofs.ArrivesLemmas.{refuses_unadmitted, refuses_changed, refuses_settled, tells_kept, unstored}
use Rattle.upd_desk.proofs.LoadingLemmas.{none_read_again}
use Rattle.upd_desk.proofs.MadeLemmas.{library_made}
use Rattle.upd_desk.proofs.RefusedLemmas.{error_is}
use Rattle.upd_desk.proofs.WorkLemmas.{reads_of_new, work_of_new, work_told}
use Rattle.upd_desk.proofs.arrive.arrive_at.Goals as goal

pub returns-in_err-mode-clause-arrives : goal.returns-in_err-mode-clause-arrives
returns-in_err-mode-clause-arrives g c =
    rw (error_is _ _ c.from_residual.ensures.1)
    (refuses_unadmitted c.args.arrival.now c.in_err-mode.field-0.0 c.args.store.now c.in_err-mode.ensures)

pub returns-in_err-mark-clause-arrives : goal.returns-in_err-mark-clause-arrives
returns-in_err-mark-clause-arrives g c =
    rw (error_is _ _ c.from_residual-in_err-mark.ensures.1)
    (loses c.args.arrival.now c.in_err-mark.field-0.0 c.args.store.now c.mark.new.self c.in_err-mark.ensures.leaves.same
    c.in_err-mark.ensures.leaves.lost)

pub returns-then-arrival-mark-clause-arrives : goal.returns-then-arrival-mark-clause-arrives
returns-then-arrival-mark-clause-arrives g c =
    refuses_settled c.in_ok-mode.mode c.args.arrival.now c.in_ok-mark.mark c.without_line.result c.args.store.now c.mark.new.self
    c.in_ok-mark.ensures.leaves.same
    c.in_ok-mark.ensures.leaves.opens (sym c.in_ok-mode.ensures)
    (subst (λ a. a.number ≤ c.in_ok-mark.mark) c.arrival.view_is c.if-arrival-mark.true)
    (λ honest rows shown. c.in_ok-mark.ensures.found honest rows shown ∙ ap (λ a. mark_at a.site rows) c.arrival.view_is) c.without_line.ensures

pub returns-in_err-kept-clause-arrives : goal.returns-in_err-kept-clause-arrives
returns-in_err-kept-clause-arrives g c =
    rw (error_is _ _ c.from_residual-in_err-kept.ensures.1)
    (loses c.args.arrival.now c.in_err-kept.field-0.0 c.args.store.now c.kept_run.new.self
    (keeps_keeps c.in_ok-mark.ensures.leaves.same c.in_err-kept.ensures.leaves.same) c.in_err-kept.ensures.leaves.lost)

pub returns-in_ok-reply-in-Some-clause-arrives : goal.returns-in_ok-reply-in-Some-clause-arrives
returns-in_ok-reply-in-Some-clause-arrives g c =
    keeps_arrives c.args.arrival.now (Ok c.in_ok-reply-in-Some.reply) c.args.store.now c.kept_run.new.self c.kept_run.new.self
    (keeps_keeps c.in_ok-mark.ensures.leaves.same c.in_ok-kept.ensures.leaves.same)
    (tells_kept g.met.S.RowStore.leaves_image c.in_ok-mode.mode c.args.arrival.now c.in-Some.run' c.in_ok-reply-in-Some.reply c.kept_run.new.self
    c.in_ok-kept.ensures.leaves.opens
    (λ honest. asked c.in_ok-mode.mode c.args.arrival.now c.in_ok-mark.mark (Some c.in-Some.run') c.args.store.now c.mark.new.self
    c.kept_run.new.self c.in_ok-mark.ensures.leaves.same c.in_ok-kept.ensures.leaves.same (sym c.in_ok-mode.ensures)
    (subst (λ a. c.in_ok-mark.mark < a.number) c.arrival.view_is c.if-arrival-mark.false)
    (λ honest rows shown. c.in_ok-mark.ensures.found honest rows shown ∙ ap (λ a. mark_at a.site rows) c.arrival.view_is)
    (λ honest rows shown. sym c.in-Some.is ∙ c.in_ok-kept.ensures.found honest rows shown
    ∙ ap (λ a. run_at a.site a.number rows) c.arrival.view_is) honest)
    c.in_ok-reply-in-Some.ensures)

pub returns-in_err-reply-in-Some-clause-arrives : goal.returns-in_err-reply-in-Some-clause-arrives
returns-in_err-reply-in-Some-clause-arrives g c =
    rw (error_is _ _ c.from_residual-in_err-reply-in-Some.ensures.1)
    (keeps_arrives c.args.arrival.now (Err c.in_err-reply-in-Some.field-0.0) c.args.store.now c.kept_run.new.self c.kept_run.new.self
    (keeps_keeps c.in_ok-mark.ensures.leaves.same c.in_ok-kept.ensures.leaves.same)
    (refuses_changed c.in_ok-mode.mode c.args.arrival.now c.in-Some.run' c.in_err-reply-in-Some.field-0.0 c.kept_run.new.self
    c.in_ok-kept.ensures.leaves.opens
    (λ honest. asked c.in_ok-mode.mode c.args.arrival.now c.in_ok-mark.mark (Some c.in-Some.run') c.args.store.now c.mark.new.self
    c.kept_run.new.self c.in_ok-mark.ensures.leaves.same c.in_ok-kept.ensures.leaves.same (sym c.in_ok-mode.ensures)
    (subst (λ a. c.in_ok-mark.mark < a.number) c.arrival.view_is c.if-arrival-mark.false)
    (λ honest rows shown. c.in_ok-mark.ensures.found honest rows shown ∙ ap (λ a. mark_at a.site rows) c.arrival.view_is)
    (λ honest rows shown. sym c.in-Some.is ∙ c.in_ok-kept.ensures.found honest rows shown
    ∙ ap (λ a. run_at a.site a.number rows) c.arrival.view_is) honest)
    c.in_err-reply-in-Some.ensures))

pub returns-in_err-reply-in-Some-clause-failed : goal.returns-in_err-reply-in-Some-clause-failed
returns-in_err-reply-in-Some-clause-failed g c =
    let fault = c.in_err-reply-in-Some.field-0.0 in
    rw (error_is _ _ c.from_residual-in_err-reply-in-Some.ensures.1)
    (c.in_ok-kept.ensures.leaves.failed ∙ c.in_ok-mark.ensures.leaves.failed ∙ uncounted fault.kind (g.S.Meaning.failures_of c.args.store.now)
    (unstored fault (changed_keeps c.in_ok-mode.mode c.args.arrival.now empty c.in-Some.run' fault (c.in_err-reply-in-Some.ensures empty))))

pub returns-in_ok-reply-in-Some-clause-work : goal.returns-in_ok-reply-in-Some-clause-work
returns-in_ok-reply-in-Some-clause-work g c =
    work_told c.in_ok-mode.mode c.args.arrival.now c.in-Some.run' c.args.store.now c.kept_run.new.self
    (keeps_keeps c.in_ok-mark.ensures.leaves.same c.in_ok-kept.ensures.leaves.same)
    c.in_ok-kept.ensures.leaves.opens
    (λ honest. asked c.in_ok-mode.mode c.args.arrival.now c.in_ok-mark.mark (Some c.in-Some.run') c.args.store.now c.mark.new.self
    c.kept_run.new.self c.in_ok-mark.ensures.leaves.same c.in_ok-kept.ensures.leaves.same (sym c.in_ok-mode.ensures)
    (subst (λ a. c.in_ok-mark.mark < a.number) c.arrival.view_is c.if-arrival-mark.false)
    (λ honest rows shown. c.in_ok-mark.ensures.found honest rows shown ∙ ap (λ a. mark_at a.site rows) c.arrival.view_is)
    (λ honest rows shown. sym c.in-Some.is ∙ c.in_ok-kept.ensures.found honest rows shown
    ∙ ap (λ a. run_at a.site a.number rows) c.arrival.view_is) honest)

pub returns-in_ok-reply-in-Some-clause-reads : goal.returns-in_ok-reply-in-Some-clause-reads
returns-in_ok-reply-in-Some-clause-reads g c =
    (λ honest j held. none_read_again _ _ _ _ c.in_ok-mark.ensures.leaves.unread c.in_ok-kept.ensures.leaves.unread, tt)

pub returns-in_err-reply-in-Some-clause-faults : goal.returns-in_err-reply-in-Some-clause-faults
returns-in_err-reply-in-Some-clause-faults g c =
    let fault = c.in_err-reply-in-Some.field-0.0 in
    rw (error_is _ _ c.from_residual-in_err-reply-in-Some.ensures.1)
    (inr (inr (inr (changed_is c.in_ok-mode.mode c.args.arrival.now empty c.in-Some.run' fault (c.in_err-reply-in-Some.ensures empty)))))

pub returns-in-None-clause-arrives : goal.returns-in-None-clause-arrives
returns-in-None-clause-arrives g c =
    keeps_arrives c.args.arrival.now (result_map_both (λ answered. answered.reply) (λ f. f) c.keep_new.result) c.args.store.now c.kept_run.new.self
    c.keep_new.new.store (keeps_keeps c.in_ok-mark.ensures.leaves.same c.in_ok-kept.ensures.leaves.same)
    (new_arrives library_made g.met.S.RowStore.leaves_image (λ answered. answered.reply) c.in_ok-mode.mode c.args.arrival.now c.keep_new.result
    c.kept_run.new.self c.keep_new.new.store c.keep_new.ensures.tries
    (λ honest. asked c.in_ok-mode.mode c.args.arrival.now c.in_ok-mark.mark None c.args.store.now c.mark.new.self
    c.kept_run.new.self c.in_ok-mark.ensures.leaves.same c.in_ok-kept.ensures.leaves.same (sym c.in_ok-mode.ensures)
    (subst (λ a. c.in_ok-mark.mark < a.number) c.arrival.view_is c.if-arrival-mark.false)
    (λ honest rows shown. c.in_ok-mark.ensures.found honest rows shown ∙ ap (λ a. mark_at a.site rows) c.arrival.view_is)
    (λ honest rows shown. sym c.in-None.is ∙ c.in_ok-kept.ensures.found honest rows shown
    ∙ ap (λ a. run_at a.site a.number rows) c.arrival.view_is) honest)
    c.keep_new.ensures.opens c.keep_new.ensures.becomes c.keep_new.ensures.reply c.keep_new.ensures.lost c.keep_new.ensures.undone)

pub returns-in-None-clause-work : goal.returns-in-None-clause-work
returns-in-None-clause-work g c =
    work_of_new (λ answered. answered.work) c.in_ok-mode.mode c.args.arrival.now c.keep_new.result c.args.store.now c.kept_run.new.self c.keep_new.new.store
    (keeps_keeps c.in_ok-mark.ensures.leaves.same c.in_ok-kept.ensures.leaves.same) c.keep_new.ensures.tries
    (λ honest. asked c.in_ok-mode.mode c.args.arrival.now c.in_ok-mark.mark None c.args.store.now c.mark.new.self
    c.kept_run.new.self c.in_ok-mark.ensures.leaves.same c.in_ok-kept.ensures.leaves.same (sym c.in_ok-mode.ensures)
    (subst (λ a. c.in_ok-mark.mark < a.number) c.arrival.view_is c.if-arrival-mark.false)
    (λ honest rows shown. c.in_ok-mark.ensures.found honest rows shown ∙ ap (λ a. mark_at a.site rows) c.arrival.view_is)
    (λ honest rows shown. sym c.in-None.is ∙ c.in_ok-kept.ensures.found honest rows shown
    ∙ ap (λ a. run_at a.site a.number rows) c.arrival.view_is) honest)
    c.keep_new.ensures.opens c.keep_new.ensures.work c.keep_new.ensures.least

pub returns-in-None-clause-reads : goal.returns-in-None-clause-reads
returns-in-None-clause-reads g c =
    reads_of_new c.in_ok-mode.mode c.args.arrival.now c.keep_new.result c.args.store.now c.kept_run.new.self c.keep_new.new.store
    (keeps_keeps c.in_ok-mark.ensures.leaves.same c.in_ok-kept.ensures.leaves.same) c.keep_new.ensures.tries
    (λ honest. asked c.in_ok-mode.mode c.args.arrival.now c.in_ok-mark.mark None c.args.store.now c.mark.new.self
    c.kept_run.new.self c.in_ok-mark.ensures.leaves.same c.in_ok-kept.ensures.leaves.same (sym c.in_ok-mode.ensures)
    (subst (λ a. c.in_ok-mark.mark < a.number) c.arrival.view_is c.if-arrival-mark.false)
    (λ honest rows shown. c.in_ok-mark.ensures.found honest rows shown ∙ ap (λ a. mark_at a.site rows) c.arrival.view_is)
    (λ honest rows shown. sym c.in-None.is ∙ c.in_ok-kept.ensures.found honest rows shown
    ∙ ap (λ a. run_at a.site a.number rows) c.arrival.view_is) honest)
    c.keep_new.ensures.opens (c.in_ok-kept.ensures.leaves.unread ∙ c.in_ok-mark.ensures.leaves.unread) c.keep_new.ensures.reads c.keep_new.ensures.lost
