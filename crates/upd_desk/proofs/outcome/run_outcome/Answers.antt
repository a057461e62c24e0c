-- Applied to the decks that it needs, the run is applied to the whole, and so is its refusal one of the whole.
use Rattle.upd_desk.proofs.Common.{◌≡◌, Ok, Err, refl, subst, ◌∙◌, IfOk-weaker, reading, keeps_keeps, keeps_still, ArrivalView, IsRefusal}
use Rattle.upd_desk.proofs.LeadLemmas.{refused_outcome, unapplied_is, unread_is}
use Rattle.upd_desk.proofs.LoadingLemmas.{none_read_again, read_no_more, reads_of_run}
use Rattle.upd_desk.proofs.LookingLemmas.{memory_reads, on_ok, only_reads, then_fails}
use Rattle.upd_desk.proofs.NeededLemmas.{refused_needed}
use Rattle.upd_desk.proofs.QueryLemmas.{shown_there}
use Rattle.upd_desk.proofs.RefusedLemmas.{error_is, fails_is}
use Rattle.upd_desk.proofs.StateLemmas.{read_states}
use Rattle.upd_desk.proofs.outcome.run_outcome.Goals as goal

pub returns-in-Err-clause-found : goal.returns-in-Err-clause-found
returns-in-Err-clause-found g c honest =
    IfOk-weaker c.refused.result (IsRefusal c.args.arrival.now c.in-Err.fault) _ (λ o refusal l made rows shown shows states.
    let read = subst (λ (a : ArrivalView). reading a.bytes ≡ Err c.in-Err.fault) c.arrival.view_is
    (fails_is c.in-Err.fault _ refusal.kind c.in-Err.ensures.reading) in
    refused_outcome c.args.mode c.args.arrival.now l rows c.in-Err.fault o made shows states c.requires.passed
    (unread_is c.args.mode c.args.arrival.now.bytes l c.in-Err.fault read) refusal) c.refused.ensures.refusal

pub returns-in-Err-clause-leaves : goal.returns-in-Err-clause-leaves
returns-in-Err-clause-leaves g c = only_reads c.refused.result c.args.store.now c.args.store.now (keeps_still c.args.store.now) refl c.refused.ensures.lost

pub returns-in_err-cards-clause-leaves : goal.returns-in_err-cards-clause-leaves
returns-in_err-cards-clause-leaves g c =
    memory_reads c.from_residual-in_err-cards.result c.args.store.now c.load_needed.new.store c.from_residual-in_err-cards.ensures.1
    c.in_ok-part.ensures.leaves.same c.in_ok-part.ensures.leaves.failed

pub returns-in-Err-apply_run-clause-found : goal.returns-in-Err-apply_run-clause-found
returns-in-Err-apply_run-clause-found g c honest =
    IfOk-weaker c.refused-in-Err-apply_run.result (IsRefusal c.args.arrival.now c.in-Err-apply_run.fault) _ (λ o refusal l made rows shown shows states.
    let read = subst (λ (a : ArrivalView). reading a.bytes ≡ Ok c.in-Ok.run') c.arrival.view_is c.in-Ok.ensures.reading in
    let is = unapplied_is c.args.mode c.args.arrival.now.bytes l c.in-Ok.run' c.in-Err-apply_run.fault read
    (refused_needed c.in-Ok.run' l c.in_ok-part.part c.in-Err-apply_run.fault made (c.in_ok-part.ensures.found honest l made rows shown shows)
    (fails_is c.in-Err-apply_run.fault _ refusal.kind c.in-Err-apply_run.ensures.refused)) in
    refused_outcome c.args.mode c.args.arrival.now l rows c.in-Err-apply_run.fault o made shows states c.requires.passed is refusal)
    c.refused-in-Err-apply_run.ensures.refusal

pub returns-in-Err-apply_run-clause-leaves : goal.returns-in-Err-apply_run-clause-leaves
returns-in-Err-apply_run-clause-leaves g c =
    only_reads c.refused-in-Err-apply_run.result c.args.store.now c.load_needed.new.store c.in_ok-part.ensures.leaves.same
    c.in_ok-part.ensures.leaves.failed c.refused-in-Err-apply_run.ensures.lost

pub returns-in_err-before-clause-leaves : goal.returns-in_err-before-clause-leaves
returns-in_err-before-clause-leaves g c =
    rw (error_is _ _ c.from_residual-in_err-before.ensures.1)
    (then_fails c.in_err-before.field-0.0 c.args.store.now c.states_of.new.self c.active_before.new.store
    (keeps_keeps c.in_ok-part.ensures.leaves.same c.in_ok-states.ensures.leaves.same)
    (c.in_ok-states.ensures.leaves.failed ∙ c.in_ok-part.ensures.leaves.failed) c.in_err-before.ensures.leaves)

pub returns-clause-found : goal.returns-clause-found
returns-clause-found g c honest =
    IfOk-weaker c.compiled_outcome.result _ _ (λ o makes l made rows shown shows states.
    let read = subst (λ (a : ArrivalView). reading a.bytes ≡ Ok c.in-Ok.run') c.arrival.view_is c.in-Ok.ensures.reading in
    let counted = c.in_ok-before.ensures.leaves.same.later.honest honest in
    let loaded = c.in_ok-states.ensures.leaves.same.later.honest counted in
    let there = shown_there c.args.store.now c.load_needed.new.store c.in_ok-part.ensures.leaves.same loaded (c.in_ok-part.ensures.opens loaded) rows shown in
    let still = shown_there c.load_needed.new.store c.states_of.new.self c.in_ok-states.ensures.leaves.same counted
    (c.in_ok-states.ensures.leaves.opens counted) rows there in
    let run = c.in-Ok-apply_run.ensures.ok l made (c.in_ok-part.ensures.found loaded l made rows shown shows) in
    makes c.in-Ok.run' l c.in_ok-part.part run.0 read made run.1 (c.in_ok-before.ensures.found honest l made rows still shows states) rows shows states
    (read_states rows _ l c.in_ok-part.part c.deref.result.now made.sound run.1.part (c.deref.ensures.value ∙ c.in_ok-cards.ensures)
    (c.in_ok-states.ensures.found counted rows there) states))
    c.compiled_outcome.ensures.found

pub returns-clause-reads : goal.returns-clause-reads
returns-clause-reads g c honest = on_ok c.compiled_outcome.result (λ l made rows shown shows.
    let read = subst (λ (a : ArrivalView). reading a.bytes ≡ Ok c.in-Ok.run') c.arrival.view_is c.in-Ok.ensures.reading in
    let counted = c.in_ok-before.ensures.leaves.same.later.honest honest in
    let loaded = c.in_ok-states.ensures.leaves.same.later.honest counted in
    reads_of_run c.args.arrival.now.bytes l c.in-Ok.run' _ _ read
    (read_no_more _ _ _ _ (c.in_ok-before.ensures.unread ∙ c.in_ok-states.ensures.leaves.unread)
    (c.in_ok-part.ensures.reads loaded l made rows shown shows)))

pub returns-clause-leaves : goal.returns-clause-leaves
returns-clause-leaves g c =
    only_reads c.compiled_outcome.result c.args.store.now c.active_before.new.store
    (keeps_keeps (keeps_keeps c.in_ok-part.ensures.leaves.same c.in_ok-states.ensures.leaves.same) c.in_ok-before.ensures.leaves.same)
    (c.in_ok-before.ensures.leaves.failed ∙ c.in_ok-states.ensures.leaves.failed ∙ c.in_ok-part.ensures.leaves.failed)
    c.compiled_outcome.ensures.lost
