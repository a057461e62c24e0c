use Rattle.upd_subcommands.proofs.Common.{None, Some, ap, arith, length, subst}
use Rattle.upd_row_store.proofs.StoreLemmas.{keeps_keeps}
use Rattle.upd_desk.specs.Journal.{library_after}
use Rattle.upd_edit.specs.EditCauses.{IsPartsRefusal}
use Rattle.upd_subcommands.proofs.PartLemmas.{frame_failure, parts_failure, parts_refusal, seen_free, spool_seen, used_failure, used_refusal}
use Rattle.upd_subcommands.proofs.parts_command.spool_at.Goals as goal

pub overflow_add-end : goal.overflow_add-end
overflow_add-end g c = omega (arith, c.in-Ok-spool_of.ensures.fits, ap length c.deref.ensures.value, c.in-Ok.runs.ok.0)

pub returns-in-Ok-None-clause-spool : goal.returns-in-Ok-None-clause-spool
returns-in-Ok-None-clause-spool g c honest journal held =
    seen_free journal c.args.set.now c.args.site.now c.args.number c.args.mode.now c.args.text.now c.in-Ok-spool_of.spool.items
    (spool_seen g.S.Meaning c.args.set.now _ c.args.site.now c.args.number _ c.args.mode.now c.args.text.now c.in-Ok-spool_of.spool.items
    c.in-Ok.runs.items _ _ None c.args.desk.now.store c.parts_at.new.desk.store c.first_used.new.desk.store c.as_bytes.ensures.value c.deref.ensures.value
    c.in-Ok-None.field-0-is c.in-Ok.ensures.same c.in-Ok-None.ensures.same c.in-Ok.ensures.corrects c.in-Ok-spool_of.ensures.frames
    c.in-Ok-spool_of.ensures.admitted
    c.in-Ok-None.ensures.first (omega (arith, c.in-Ok.runs.ok.0)) honest journal held)

pub returns-in-Ok-None-clause-same : goal.returns-in-Ok-None-clause-same
returns-in-Ok-None-clause-same g c = keeps_keeps c.in-Ok.ensures.same c.in-Ok-None.ensures.same

pub returns-in-Ok-Some-clause-refused : goal.returns-in-Ok-Some-clause-refused
returns-in-Ok-Some-clause-refused g c honest journal held =
    used_refusal journal c.args.set.now c.args.site.now c.args.number c.args.mode.now c.args.text.now c.in-Ok-spool_of.spool.items c.in-Ok-Some.used
    c.number_used.result c.number_used.ensures
    (spool_seen g.S.Meaning c.args.set.now _ c.args.site.now c.args.number _ c.args.mode.now c.args.text.now c.in-Ok-spool_of.spool.items
    c.in-Ok.runs.items _ _ (Some c.in-Ok-Some.used) c.args.desk.now.store c.parts_at.new.desk.store c.first_used.new.desk.store c.as_bytes.ensures.value
    c.deref.ensures.value c.in-Ok-Some.field-0-is c.in-Ok.ensures.same c.in-Ok-Some.ensures.same c.in-Ok.ensures.corrects c.in-Ok-spool_of.ensures.frames
    c.in-Ok-spool_of.ensures.admitted c.in-Ok-Some.ensures.first (omega (arith, c.in-Ok.runs.ok.0)) honest journal held)

pub returns-in-Ok-Some-clause-failed : goal.returns-in-Ok-Some-clause-failed
returns-in-Ok-Some-clause-failed g c =
    used_failure g.S.Meaning c.args.set.now c.args.site.now c.args.number c.args.mode.now c.args.text.now c.args.desk.now.store c.first_used.new.desk.store
    c.in-Ok-Some.used c.number_used.result c.number_used.ensures

pub returns-in-Ok-Some-clause-same : goal.returns-in-Ok-Some-clause-same
returns-in-Ok-Some-clause-same g c = keeps_keeps c.in-Ok.ensures.same c.in-Ok-Some.ensures.same

pub returns-in-Ok-spool_of-clause-same : goal.returns-in-Ok-spool_of-clause-same
returns-in-Ok-spool_of-clause-same g c = keeps_keeps c.in-Ok.ensures.same c.in-Err-first_used.ensures.same

pub returns-clause-refused : goal.returns-clause-refused
returns-clause-refused g c honest journal held =
    parts_refusal journal c.args.set.now c.args.site.now c.args.number c.args.mode.now c.args.text.now c.in-Err.error
    (subst (λ set. IsPartsRefusal (library_after journal) set c.args.text.now c.in-Err.error) c.as_bytes.ensures.value
    (c.in-Err.ensures.refused honest journal held))

pub returns-clause-failed : goal.returns-clause-failed
returns-clause-failed g c =
    parts_failure g.S.Meaning c.args.set.now c.args.site.now c.args.number c.args.mode.now c.args.text.now c.args.desk.now.store c.parts_at.new.desk.store
    c.in-Err.error c.in-Err.ensures.lost c.in-Err.ensures.long

pub returns-in-Ok-clause-failed : goal.returns-in-Ok-clause-failed
returns-in-Ok-clause-failed g c =
    frame_failure g.S.Meaning c.args.set.now _ c.args.site.now c.args.number c.args.mode.now c.args.text.now c.in-Ok.runs.items _ c.in-Err-spool_of.fault
    c.args.desk.now.store c.parts_at.new.desk.store c.as_bytes.ensures.value c.deref.ensures.value c.in-Ok.ensures.corrects c.in-Err-spool_of.ensures.refused
