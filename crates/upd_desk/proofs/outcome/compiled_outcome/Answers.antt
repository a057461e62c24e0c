-- The statuses are updated on the part that was loaded as they are on the whole, and the file is the one of the whole, or its first fault.
use Rattle.upd_desk.proofs.Common.{◌≤◌, length, map, refl, ap, sym, ◌∙◌, subst, IfOk-weaker, LibraryView, change_view, altered, IsEnough, IsRefusal, Compiled}
use Rattle.upd_core.specs.Counted.{CountedView}
use Rattle.upd_desk.proofs.LeadLemmas.{accepted_outcome, compiled_is, lead, least, refused_outcome, unfiled_is}
use Rattle.upd_desk.proofs.RefusedLemmas.{fails_is}
use Rattle.upd_desk.proofs.outcome.compiled_outcome.Goals as goal

pub returns-clause-found : goal.returns-clause-found
returns-clause-found c = λ lines l loaded reached read made of_run active rows shows states shown.
    let run = c.args.run in
    let library = reached.library in
    let cache = c.in_ok-cache.cache in
    let status_update = of_run.status_update in
    let same = ap (λ (k : CountedView). k.library) c.new.ensures in
    let across = status_update.between cache (c.in_ok-cache.ensures.right loaded shown) in
    let enough = subst (λ (m : LibraryView). IsEnough run.applied.touched.items loaded run.library m) (sym same) status_update.enough in
    let now_right = c.in_ok-updates.ensures.right loaded run.library enough across in
    let updates = c.in_ok-updates.updates.items in
    let only = c.in_ok-updates.ensures.only in
    let later = status_update.leads (map change_view updates) only
    (λ part here. c.in_ok-updates.ensures.changes loaded run.library enough across status_update.takes part here) rows states in
    let written = c.in-Ok.ensures.ok lines l loaded reached made of_run active now_right in
    let is = compiled_is c.args.mode c.args.arrival.now.bytes l lines reached c.in-Ok.file read of_run.applied written in
    let done : Compiled = record { reached = reached; file = c.in-Ok.file } in
    let work = c.work.ensures ∙ c.in_ok-updates.ensures.work loaded run.library enough across ∙ status_update.looks in
    accepted_outcome c.args.mode c.args.arrival.now l rows done _ _ is
    (c.in_ok-reply.ensures c.args.mode l done made c.requires.passed is
    (record { directory = of_run.directory; idents = of_run.idents; written = refl }))
    c.in_ok-append.ensures.items (lead lines l loaded reached run made of_run updates rows shows only later) work
    (subst (λ n. length (altered l library) ≤ n) (sym work) (least lines l loaded reached run made of_run))

pub returns-in-Err-clause-found : goal.returns-in-Err-clause-found
returns-in-Err-clause-found c =
    IfOk-weaker c.refused.result (IsRefusal c.args.arrival.now c.in-Err.fault) _
    (λ o refusal lines l loaded reached read made of_run active rows shows states shown.
    let run = c.args.run in
    let cache = c.in_ok-cache.cache in
    let status_update = of_run.status_update in
    let same = ap (λ (k : CountedView). k.library) c.new.ensures in
    let across = status_update.between cache (c.in_ok-cache.ensures.right loaded shown) in
    let enough = subst (λ (m : LibraryView). IsEnough run.applied.touched.items loaded run.library m) (sym same) status_update.enough in
    let now_right = c.in_ok-updates.ensures.right loaded run.library enough across in
    let fails = c.in-Err.ensures.refused lines l loaded reached made of_run active now_right in
    refused_outcome c.args.mode c.args.arrival.now l rows c.in-Err.fault o made shows states c.requires.passed
    (unfiled_is c.args.mode c.args.arrival.now.bytes l lines reached c.in-Err.fault read of_run.applied
    (fails_is c.in-Err.fault _ refusal.kind fails)) refusal) c.refused.ensures.refusal
