use Rattle.std.proofs.Common.{refl}
use Rattle.std.proofs.lemmas.Result.{IfErr-weaker}
use Rattle.upd_keep.proofs.Copies.{anew, ends_as, lost_unopened, never_write, unopened_never}
use Rattle.upd_keep.proofs.compacting.compact.Goals as goal

pub returns-in-Ok-made_anew-clause-lost : goal.returns-in-Ok-made_anew-clause-lost
returns-in-Ok-made_anew-clause-lost g c = IfErr-weaker c.backup-written.result _ _ lost_unopened c.backup-written.ensures.lost

pub returns-in-Ok-made_anew-clause-made : goal.returns-in-Ok-made_anew-clause-made
returns-in-Ok-made_anew-clause-made g c =
    let read = c.in-Ok.ensures in
    let keeps = read.keeps in
    ends_as c.backup-written.result (anew c.args.library.conn c.stored_tables.new.store.conn c.in-Ok.tables c.in-Ok-made_anew.made (λ log db. refl)
    (record { clean = keeps.later.honest; was_open = keeps.later.was_open; same = keeps.same; crash = keeps.crash }) read.found
    c.in-Ok-made_anew.ensures.same) c.backup-written.ensures.read

pub returns-in-Err-clause-made : goal.returns-in-Err-clause-made
returns-in-Err-clause-made g c = λ write. absurd (never_write c.in-Err.fault c.in-Err.ensures.lost write)

pub returns-in-Err-made_anew-clause-made : goal.returns-in-Err-made_anew-clause-made
returns-in-Err-made_anew-clause-made g c = λ write. absurd (unopened_never c.in-Err-made_anew.fault c.in-Err-made_anew.ensures.unopened write)
